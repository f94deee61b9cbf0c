-- One recipe more is counted. Assumes nothing.
use Rattle.std.proofs.Common.{refl, arith}
use Rattle.tables.proofs.FourCounts.{counted-more}
use Rattle.tables.proofs.counts.fill_counts.Goals as goal

pub loop-j-preserved : goal.loop-j-preserved
loop-j-preserved c = rw c.count_recipe.ensures (counted-more _ c.loop-j.invariant (omega arith) refl)
