-- An edition that there is not is refused first. Assumes nothing.
use mathlib.Core.Path.{ap}
use Rattle.rules.specs.Cases.{as_figures}
use Rattle.rules.proofs.Exits.{exit-is, not-done}
use Rattle.job.specs.Given.{the_limits, the_job, contents}
use Rattle.split.proofs.Accepting.{pass-unknown}
use Rattle.split.proofs.pass_once.Goals as goal

pub returns-in_err-edition-clause-value : goal.returns-in_err-edition-clause-value
returns-in_err-edition-clause-value c =
    let a = c.args in
    pass-unknown a.edition the_limits (the_job a.job a.book a.sides.now) (contents a.lent.now) c.in_err-edition.ensures (not-done _)
    (ap as_figures (exit-is _ _ c.from_residual.ensures.1))
