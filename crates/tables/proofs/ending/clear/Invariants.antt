-- The entries passed are zero. Assumes nothing.
use Rattle.std.proofs.Common.{◌≡◌, take}
use lib.ListN.{replicate}
use Rattle.tables.proofs.ending.clear.Given as goal

abbrev pub invariant-loop-entry : goal.invariant-loop-entry
invariant-loop-entry g l = take l.entry-index l.entry-items ≡ replicate l.entry-index l.zero
