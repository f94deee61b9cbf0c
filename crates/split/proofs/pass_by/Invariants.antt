-- The pass by the edition, of the job and the lists as they were lent, is underway.
use Prim.Native.Nat.{◌-◌}
use lib.ListN.{length}
use Rattle.job.specs.Given.{the_job, SameMoves, SameScans}
use Rattle.split.specs.Editions.{edition_number}
use Rattle.split.specs.Passing.{lists_of, board_of}
use Rattle.split.proofs.Choosing.{PassUnderway}
use Rattle.split.proofs.pass_by.Given as goal

abbrev pub invariant-loop-chosen : goal.invariant-loop-chosen
invariant-loop-chosen l = record {
  same_moves : SameMoves l.fn.moves l.moves;
  same_scans : SameScans l.fn.scans l.scans;
  under :
      PassUnderway (edition_number l.edition) (the_job l.fn.job l.book l.fn.sides) (lists_of l.fn.gains l.fn.moves l.fn.scans l.fn.scratch) l.window
      (board_of l.sides l.gains l.moves l.scans l.scratch l.p);
}

abbrev pub decreases-loop-chosen : goal.decreases-loop-chosen
decreases-loop-chosen l = length l.book.files.sizes.now - l.p.moves
