use mathlib.Core.Path.{◌∙◌}
use Rattle.rules.proofs.Exits.{exit-stops, done-goes}
use Rattle.job.proofs.Whole.{rest-is}
use Rattle.job.proofs.weighed.Weighed.check_rest.Goals as goal

pub returns-in_err-check_ratio : goal.returns-in_err-check_ratio
returns-in_err-check_ratio c = λ job has. exit-stops _ _ _ c.from_residual.ensures.1 c.in_err-check_ratio.ensures ∙ rest-is has _ _

pub returns-in_err-refuse_if : goal.returns-in_err-refuse_if
returns-in_err-refuse_if c =
    λ job has. done-goes c.in_ok-check_ratio.ensures (exit-stops _ _ _ c.from_residual-in_err-refuse_if.ensures.1 c.in_err-refuse_if.ensures.numbers) ∙ rest-is has _ _

pub returns-in_err-refuse_if-2 : goal.returns-in_err-refuse_if-2
returns-in_err-refuse_if-2 c =
    λ job has.
    done-goes c.in_ok-check_ratio.ensures
    (done-goes c.in_ok-refuse_if.ensures.numbers
    (exit-stops _ _ _ c.from_residual-in_err-refuse_if-2.ensures.1 (rw c.may_empty.ensures at c.in_err-refuse_if-2.ensures.numbers)))
    ∙ rest-is has _ _

pub returns : goal.returns
returns c =
    λ job has.
    done-goes c.in_ok-check_ratio.ensures
    (done-goes c.in_ok-refuse_if.ensures.numbers (done-goes (rw c.may_empty.ensures at c.in_ok-refuse_if-2.ensures.numbers) (c.check_start.ensures job has)))
    ∙ rest-is has _ _
