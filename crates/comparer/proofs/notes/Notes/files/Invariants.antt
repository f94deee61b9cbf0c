-- The differences of the first f files are noted, at most three a file. Assumes nothing.
use Rattle.std.proofs.Common.{◌*◌}
use Rattle.rules.specs.Lists.{in_turn}
use Rattle.rules.specs.Compare.{file_differences}
use Rattle.stored.specs.Steps.{job_taken}
use Rattle.comparer.specs.Finding.{Adds}
use Rattle.comparer.proofs.notes.Notes.files.Given as goal

abbrev pub invariant-loop-f : goal.invariant-loop-f
invariant-loop-f l = Adds (3 * l.f) l.initial.self (in_turn (file_differences (job_taken l.old) (job_taken l.new)) l.f) l.self
