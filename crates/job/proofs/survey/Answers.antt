use mathlib.Core.Path.{ap, ◌∙◌}
use Rattle.rules.specs.Job.{views}
use Rattle.rules.specs.Split.{unread_recipes}
use Rattle.rules.proofs.Exits.{exit-is, refusal-stops, done-goes}
use Rattle.job.specs.Given.{the_job}
use Rattle.job.specs.Survey.{as_survey}
use Rattle.job.proofs.Whole.{lists-only, placed-has, placed-cut, none-unread, survey-refused, survey-done}
use Rattle.job.proofs.survey.Goals as goal

pub returns-in_err-placed : goal.returns-in_err-placed
returns-in_err-placed c =
    let a = c.args in
    let job = the_job a.job a.book a.sides.now in
    ap as_survey (exit-is _ _ c.from_residual.ensures.1) ∙ survey-refused _ job a.balancing a.lent _ (refusal-stops _ _ (c.in_err-placed.ensures.verdict ∙ lists-only _ job _))

pub returns-in_err-check_rest : goal.returns-in_err-check_rest
returns-in_err-check_rest c =
    let a = c.args in
    let job = the_job a.job a.book a.sides.now in
    let p = c.in_ok-placed in
    let has = placed-has a.job a.book a.sides p.placed c.new-weighed.result p.ensures.lists.0 p.ensures.lists.1 c.new-weighed.ensures.job c.new-weighed.ensures.totals in
    ap as_survey (exit-is _ _ c.from_residual-in_err-check_rest.ensures.1)
    ∙ survey-refused _ job a.balancing a.lent _ (done-goes (p.ensures.verdict ∙ lists-only _ job _) (c.in_err-check_rest.ensures job has))

pub holding-requires : goal.holding-requires
holding-requires c = none-unread c.args.book c.in_ok-placed.placed c.in_ok-placed.ensures.lists.0 c.new-weighed.ensures.totals

pub returns : goal.returns
unfolding unread_recipes views
returns c =
    let a = c.args in
    let job = the_job a.job a.book a.sides.now in
    let p = c.in_ok-placed in
    let has = placed-has a.job a.book a.sides p.placed c.new-weighed.result p.ensures.lists.0 p.ensures.lists.1 c.new-weighed.ensures.job c.new-weighed.ensures.totals in
    survey-done _ job a.balancing a.lent (done-goes (p.ensures.verdict ∙ lists-only _ job _) (c.in_ok-check_rest.ensures job has))
    (rw c.new-weighed.ensures.job at c.tolerance.ensures.0)
    (placed-cut a.job a.book a.sides p.placed p.ensures.lists.0 p.ensures.lists.1 c.cut.ensures)
    c.holding.ensures has.totals
