-- The run as it stands after its passes so far: none was refused. Assumes nothing.
use Rattle.std.proofs.Common.{◌≡◌, suc, ◌-◌}
use Rattle.rules.specs.Job.{recipes}
use Rattle.rules.specs.Split.{cut}
use Rattle.rules.specs.Check.{check_lent}
use Rattle.rules.specs.Cases.{pass_numbers}
use Rattle.job.specs.Given.{the_limits, the_job, contents, SameLists}
use Rattle.runs.specs.Running.{Running}
use Rattle.runs.proofs.run.Given as goal

abbrev pub invariant-loop-job : goal.invariant-loop-job
invariant-loop-job l =
    let job = the_job l.job l.book l.fn.sides in
    let lent = contents l.fn.lent in record {
      same : SameLists l.initial.lent l.lent;
      passes : (check_lent l.edition the_limits job lent).number ≡ 0;
      running : Running l.edition job lent l.sum.passes (pass_numbers l.sum.figures) l.sum.settled l.sides (contents l.lent);
    }

-- passes that are left at most: each that is followed lessens the cut
abbrev pub decreases-loop-job : goal.decreases-loop-job
decreases-loop-job l = let job = the_job l.job l.book l.fn.sides in suc (cut job.sides (recipes job)) - l.sum.passes
