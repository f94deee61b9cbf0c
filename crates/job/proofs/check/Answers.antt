use mathlib.Core.Path.{sym, ◌∙◌}
use mathlib.Core.Bool.{false}
use Rattle.rules.proofs.Exits.{exit-stops, done-goes}
use Rattle.job.specs.Given.{the_job}
use Rattle.job.proofs.Whole.{lists-only, start-last, placed-has}
use Rattle.job.proofs.check.Goals as goal

pub returns-in_err-sound : goal.returns-in_err-sound
returns-in_err-sound c =
    let a = c.args in
    let job = the_job a.job a.book a.sides.now in
    exit-stops _ _ _ c.from_residual.ensures.1 (c.in_err-sound.ensures.verdict ∙ lists-only _ job _) ∙ sym (start-last false _ job _)

pub returns : goal.returns
returns c =
    let a = c.args in
    let job = the_job a.job a.book a.sides.now in
    let p = c.in_ok-sound in
    let has = placed-has a.job a.book a.sides p.field-0 c.new.result p.ensures.lists.0 p.ensures.lists.1 c.new.ensures.job c.new.ensures.totals in
    done-goes (p.ensures.verdict ∙ lists-only _ job _) (c.check_rest.ensures job has) ∙ sym (start-last false _ job _)
