use mathlib.Core.Path.{ap, ◌∙◌}
use Rattle.rules.specs.Job.{views}
use Rattle.rules.specs.Split.{unread_recipes}
use Rattle.rules.specs.Cases.{as_measure}
use Rattle.rules.proofs.Exits.{exit-is}
use Rattle.job.specs.Given.{the_job}
use Rattle.job.proofs.Whole.{lists-only, placed-totals, placed-cut, none-unread, measure-refused, measure-done}
use Rattle.job.proofs.measure.Goals as goal

pub returns-in_err-placed : goal.returns-in_err-placed
returns-in_err-placed c =
    let a = c.args in
    let job = the_job a.job a.book a.sides.now in
    ap as_measure (exit-is _ _ c.from_residual.ensures.1) ∙ measure-refused _ job _ (c.in_err-placed.ensures.verdict ∙ lists-only _ job _)

pub holding-requires : goal.holding-requires
holding-requires c = none-unread c.args.book c.in_ok-placed.placed c.in_ok-placed.ensures.lists.0 c.totals_of-t.ensures.is

pub returns : goal.returns
unfolding unread_recipes views
returns c =
    let a = c.args in
    let job = the_job a.job a.book a.sides.now in
    let p = c.in_ok-placed in
    measure-done _ job (p.ensures.verdict ∙ lists-only _ job _) (placed-cut a.job a.book a.sides p.placed p.ensures.lists.0 p.ensures.lists.1 c.cut.ensures) c.holding.ensures
    (placed-totals a.job a.book a.sides p.placed p.ensures.lists.0 p.ensures.lists.1 c.totals_of-t.ensures.is)
