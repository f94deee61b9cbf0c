use native.Mathlib.Omega.{arith}
use Rattle.report.proofs.Comparisons.{record-pieces}
use Rattle.report.proofs.Laying.{laying-none, growing-more, growing-end, growing-stop, wrote_as}
use Rattle.report.proofs.differences.DifferenceLinesTold.lay.Goals as goal

pub loop-i-init : goal.loop-i-init
loop-i-init c = laying-none

pub loop-i-preserved : goal.loop-i-preserved
loop-i-preserved c = growing-more c.loop-i.invariant _ c.loop-i-test.true c.put_difference.ensures (omega arith)

pub returns : goal.returns
returns c = let l = c.loop-i in wrote_as _ (growing-end l.invariant c.loop-i-test.false) (record-pieces _ _) (omega (arith, growing-stop l.invariant))
