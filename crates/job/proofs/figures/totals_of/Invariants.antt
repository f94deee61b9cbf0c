use lib.ListN.{length}
use Rattle.job.specs.Given.{the_files}
use Rattle.job.proofs.AddingUp.{Walked}
use Rattle.job.proofs.figures.totals_of.Given as goal

abbrev pub invariant-loop-f : goal.invariant-loop-f
invariant-loop-f l =
    Walked (the_files l.placed.book l.placed.sides.now) (length l.placed.book.files.sizes.now) l.f l.t
