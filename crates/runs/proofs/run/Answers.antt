use Rattle.std.proofs.Common.{◌≡◌, ◌+◌, sym, ap, arith, rules}
use Rattle.rules.specs.Numbers.{RunFigures}
use Rattle.rules.proofs.Exits.{exit-is, not-done}
use Rattle.job.specs.Given.{the_limits, the_job, contents}
use Rattle.tables.proofs.Accepted.{Narrow}
use Rattle.runs.proofs.RunOn.{running-of, first-refused, first-made, later-done, later-made, later-fits, later-less, run-ended}
use Rattle.runs.proofs.run.Goals as goal

narrow : Narrow the_limits
narrow = record { files = omega arith; recipes = omega arith; pins = omega arith; den = omega arith; links = omega arith }

pub returns-in_err-pass_once-clause-value : goal.returns-in_err-pass_once-clause-value
returns-in_err-pass_once-clause-value c = rw (exit-is _ _ c.from_residual.ensures.1) (first-refused _ the_limits _ _ _ c.in_err-pass_once.ensures.value)

pub loop-job-init : goal.loop-job-init
loop-job-init c =
    let a = c.args in
    let first = first-made a.edition the_limits (the_job a.job a.book a.sides.now) (contents a.lent.now) _ _ _ c.in_ok-pass_once.ensures.value in
    record { same = search rules; passes = first.0; running = running-of c.with_first-sum.ensures first.1 }

pub returns-in_err-last-clause-value : goal.returns-in_err-last-clause-value
returns-in_err-last-clause-value c =
    let i = c.loop-job.invariant in
    absurd (not-done _ (later-done _ the_limits _ _ i.passes i.running (sym c.loop-job-test.ensures) c.in_err-last.ensures.value))

pub with_pass-sum-requires : goal.with_pass-sum-requires
with_pass-sum-requires c =
    let i = c.loop-job.invariant in
    let fits = later-fits _ the_limits _ _ i.passes i.running (sym c.loop-job-test.ensures) c.in_ok-last.ensures.value narrow in
    record { sums_fit = fits.0; passes_bound = fits.1 }

pub loop-job-smaller : goal.loop-job-smaller
loop-job-smaller c =
    let i = c.loop-job.invariant in
    let one : c.with_pass-sum.result.passes ≡ c.loop-job.sum.passes + 1 = ap (λ (x : RunFigures). x.passes) c.with_pass-sum.ensures in
    rw one (later-less _ the_limits _ _ i.passes i.running (sym c.loop-job-test.ensures) c.in_ok-last.ensures.value)

pub loop-job-preserved : goal.loop-job-preserved
loop-job-preserved c =
    let i = c.loop-job.invariant in
    record {
      same = search rules;
      passes = i.passes;
      running = running-of c.with_pass-sum.ensures (later-made _ the_limits _ _ i.passes i.running (sym c.loop-job-test.ensures) c.in_ok-last.ensures.value);
    }

pub returns-clause-value : goal.returns-clause-value
returns-clause-value c = let i = c.loop-job.invariant in run-ended _ the_limits _ _ i.passes i.running (sym c.loop-job-test.ensures)
