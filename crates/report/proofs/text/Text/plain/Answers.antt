use native.Mathlib.Omega.{arith}
use Rattle.report.proofs.Laying.{laying-none, laying-more, laying-end, wrote_as, bytes-pieces}
use Rattle.report.proofs.text.Text.plain.Goals as goal

pub loop-byte-init : goal.loop-byte-init
loop-byte-init c = laying-none

pub loop-byte-preserved : goal.loop-byte-preserved
loop-byte-preserved c = laying-more 0 c.loop-byte.invariant _ c.loop-byte-test.true c.put.ensures (omega arith)

pub returns : goal.returns
returns c = wrote_as _ (laying-end 0 c.loop-byte.invariant c.loop-byte-test.false) (bytes-pieces _) c.loop-byte.auto.byte-index-end
