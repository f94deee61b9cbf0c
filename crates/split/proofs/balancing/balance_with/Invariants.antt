-- The balancing of the job as it was lent, with lists of its own, is underway.
use Prim.Native.Nat.{◌-◌}
use lib.ListN.{length}
use Rattle.job.specs.Given.{the_job}
use Rattle.split.specs.Scanning.{treated}
use Rattle.split.proofs.Balanced.{BalanceUnderway, own_lent}
use Rattle.split.proofs.balancing.balance_with.Given as goal

abbrev pub invariant-loop-f : goal.invariant-loop-f
invariant-loop-f l =
    BalanceUnderway (the_job l.fn.job l.fn.book l.fn.sides)
    (own_lent (length l.fn.book.files.sizes.now) l.fn.gains l.fn.scans.recipes.now l.fn.scans.kinds.now l.fn.scratch) l.window l.sides
    (treated l.scratch l.gains l.scans.recipes.now l.scans.kinds.now l.p)

abbrev pub decreases-loop-f : goal.decreases-loop-f
decreases-loop-f l = length l.fn.book.files.sizes.now - l.p.moves
