use mathlib.Core.Path.{refl}
use Rattle.rules.specs.Cases.{run_numbers}
use Rattle.job.specs.Given.{the_limits}
use Rattle.report.proofs.Printings.{told-none, told-all, refused-verdict}
use Rattle.report.proofs.Tellings.{lengths-enough, reporting-told}
use Rattle.report.proofs.report.Goals as goal

pub returns-in_err-split-in-Ok-clause-out_after : goal.returns-in_err-split-in-Ok-clause-out_after
returns-in_err-split-in-Ok-clause-out_after c =
    let a = c.args in
    let told = reporting-told the_limits a.files.sizes.now a.files.marks.now (run_numbers c.in-Ok.ran) a.sides.now a.out.now refl in
    rw c.in-Ok.is (told-none told _ _ c.from_residual.ensures.1 c.in_err-split-in-Ok.ensures.verdict)

pub returns-in_err-split-in-Ok-clause-enough : goal.returns-in_err-split-in-Ok-clause-enough
returns-in_err-split-in-Ok-clause-enough c =
    λ sided marked long. lengths-enough _ _ _ _ (refused-verdict _ _ c.from_residual.ensures.1 c.in_err-split-in-Ok.ensures.verdict) sided marked

pub returns-in_ok-split-in-Ok-clause-out_after : goal.returns-in_ok-split-in-Ok-clause-out_after
returns-in_ok-split-in-Ok-clause-out_after c =
    let a = c.args in
    let told = reporting-told the_limits a.files.sizes.now a.files.marks.now (run_numbers c.in-Ok.ran) a.sides.now a.out.now refl in
    let s = c.in_ok-split-in-Ok.ensures in
    rw c.in-Ok.is (told-all told _ _ _ s.verdict (rw (s.same_lists.0, s.same_lists.1) refl) c.tell.ensures.told)
