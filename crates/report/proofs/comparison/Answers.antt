use mathlib.Core.Path.{refl}
use Rattle.rules.specs.Check.{done}
use Rattle.rules.specs.Compare.{compared}
use Rattle.job.specs.Given.{the_limits}
use Rattle.report.proofs.Printings.{told-none, told-all, refused-verdict}
use Rattle.report.proofs.Comparisons.{comparison-told, records-enough}
use Rattle.report.proofs.comparison.Goals as goal

pub returns-in_err-lines-in-Ok-clause-out_after : goal.returns-in_err-lines-in-Ok-clause-out_after
returns-in_err-lines-in-Ok-clause-out_after c =
    let told = comparison-told the_limits (compared 0 done c.in-Ok.count) c.args.numbers.now c.args.out.now refl in
    rw c.in-Ok.is (told-none told _ _ c.from_residual.ensures.1 c.in_err-lines-in-Ok.ensures.verdict)

pub returns-in_err-lines-in-Ok-clause-enough_lines : goal.returns-in_err-lines-in-Ok-clause-enough_lines
returns-in_err-lines-in-Ok-clause-enough_lines c =
    rw c.in-Ok.is (λ held long. records-enough _ _ _ (refused-verdict _ _ c.from_residual.ensures.1 c.in_err-lines-in-Ok.ensures.verdict) held)

pub returns-in_ok-lines-in-Ok-clause-out_after : goal.returns-in_ok-lines-in-Ok-clause-out_after
returns-in_ok-lines-in-Ok-clause-out_after c =
    let told = comparison-told the_limits (compared 0 done c.in-Ok.count) c.args.numbers.now c.args.out.now refl in
    let p = c.in_ok-lines-in-Ok.ensures in
    rw c.in-Ok.is (told-all told _ _ _ p.verdict (rw (p.same_records.0, p.same_records.1) refl) c.tell.ensures.told)
