-- One entry more is zero, and in the end the whole part. Assumes nothing.
use Rattle.std.proofs.Common.{arith}
use Rattle.tables.proofs.Filled.{cleared-lent, front-more}
use Rattle.tables.proofs.ending.clear.Goals as goal

pub loop-entry-preserved : goal.loop-entry-preserved
loop-entry-preserved g c = front-more c.args.zero _ _ (omega arith) c.loop-entry.invariant

pub returns-after-loop-entry : goal.returns-after-loop-entry
returns-after-loop-entry g c =
    cleared-lent c.args.from c.args.to c.args.zero c.args.list.now (omega arith) (omega arith) _ _ c.loop-entry.auto.entry-items (omega arith) c.loop-entry.invariant
