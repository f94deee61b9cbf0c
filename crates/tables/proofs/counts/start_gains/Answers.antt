-- The list is as long as the starting gains, and has each of them. Assumes nothing.
use Rattle.std.proofs.Common.{arith, pos}
use lib.Seq.{ext_get_or}
use Rattle.tables.proofs.Starting.{start-gains-long}
use Rattle.tables.proofs.counts.start_gains.Goals as goal

pub returns : goal.returns
returns c = ext_get_or (pos 0) _ _ (omega (arith, start-gains-long c.args.job)) (λ i l. c.loop-f.invariant i (omega arith))
