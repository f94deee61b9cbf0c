use mathlib.Core.Path.{refl, ap, ◌∙◌}
use mathlib.Core.Bool.{not}
use Rattle.rules.specs.Cases.{pass_numbers}
use Rattle.rules.specs.Check.{refuse_if}
use Rattle.rules.specs.Trace.{holds_pass}
use Rattle.rules.proofs.Exits.{not-done, done-goes}
use Rattle.rules.proofs.Verdicts.{chain-stop}
use Rattle.job.specs.declared.book.Files.{Files}
use Rattle.job.specs.Given.{the_limits}
use Rattle.report.specs.Cases.{listed}
use Rattle.report.proofs.Printings.{told-none, told-all, refused-verdict}
use Rattle.report.proofs.Tellings.{lengths-enough, tracing-told}
use Rattle.report.proofs.trace.Goals as goal

pub returns-in_err-split-in-Ok-clause-out_after : goal.returns-in_err-split-in-Ok-clause-out_after
returns-in_err-split-in-Ok-clause-out_after c =
    let a = c.args in
    let told = tracing-told the_limits a.files.sizes.now a.files.marks.now (pass_numbers c.in-Ok.passed) a.sides.now (listed a.lists) a.out.now refl in
    rw c.in-Ok.is (told-none told _ _ c.from_residual.ensures.1 (chain-stop _ c.in_err-split-in-Ok.ensures.verdict (not-done _)))

pub returns-in_err-split-in-Ok-clause-enough_told : goal.returns-in_err-split-in-Ok-clause-enough_told
returns-in_err-split-in-Ok-clause-enough_told c =
    λ sided marked held long. lengths-enough _ _ _ _ (refused-verdict _ _ c.from_residual.ensures.1 c.in_err-split-in-Ok.ensures.verdict) sided marked

pub returns-in_err-lines-in-Ok-clause-out_after : goal.returns-in_err-lines-in-Ok-clause-out_after
returns-in_err-lines-in-Ok-clause-out_after c =
    let a = c.args in
    let f = pass_numbers c.in-Ok.passed in
    let told = tracing-told the_limits a.files.sizes.now a.files.marks.now f a.sides.now (listed a.lists) a.out.now refl in
    let s = c.in_ok-split-in-Ok.ensures in
    let e = ap (λ (files : Files). refuse_if (not (holds_pass files.sizes.now f (listed a.lists))) 3 0) s.same_lists.0 in
    rw c.in-Ok.is (told-none told _ _ c.from_residual-in_err-lines-in-Ok.ensures.1 (done-goes s.verdict (c.in_err-lines-in-Ok.ensures.verdict ∙ e)))

pub returns-in_ok-lines-in-Ok-clause-out_after : goal.returns-in_ok-lines-in-Ok-clause-out_after
returns-in_ok-lines-in-Ok-clause-out_after c =
    let a = c.args in
    let f = pass_numbers c.in-Ok.passed in
    let told = tracing-told the_limits a.files.sizes.now a.files.marks.now f a.sides.now (listed a.lists) a.out.now refl in
    let s = c.in_ok-split-in-Ok.ensures in
    let p = c.in_ok-lines-in-Ok.ensures in
    let e = ap (λ (files : Files). refuse_if (not (holds_pass files.sizes.now f (listed a.lists))) 3 0) s.same_lists.0 in
    rw c.in-Ok.is
    (told-all told _ _ _ (done-goes s.verdict (p.verdict ∙ e)) (rw (p.same_pass.0, p.same_pass.1, p.same_pass.2, s.same_lists.0, s.same_lists.1) refl) c.tell.ensures.told)
