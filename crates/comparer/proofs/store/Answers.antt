use Rattle.std.proofs.Common.{arith}
use Rattle.comparer.proofs.Storing.{stored-none, stored_more}
use Rattle.comparer.proofs.store.Goals as goal

pub loop-i-init : goal.loop-i-init
loop-i-init c = stored-none c.args.numbers.now c.args.list.now

pub loop-i-preserved : goal.loop-i-preserved
loop-i-preserved c = rw (c.loop-i.invariant, c.record_at.ensures) (stored_more c.args.numbers.now c.args.list.now c.loop-i.i (omega arith))
