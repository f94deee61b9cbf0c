use native.Mathlib.Omega.{arith}
use Rattle.report.specs.Cases.{listed}
use Rattle.report.proofs.Laying.{laying-start, growing-end, growing-stop, wrote_as}
use Rattle.report.proofs.Traces.{scan-more, scan-pieces}
use Rattle.report.proofs.Listing.put_scans.Goals as goal

pub loop-k-init : goal.loop-k-init
loop-k-init c = laying-start (omega arith)

pub loop-k-preserved : goal.loop-k-preserved
loop-k-preserved c = scan-more (listed c.args.self) c.loop-k.auto.k c.loop-k-test.true c.loop-k.invariant c.put_scan.ensures

pub returns : goal.returns
returns c =
    let l = c.loop-k.invariant in
    wrote_as _ (growing-end l (omega arith)) (scan-pieces _ _ _) (omega (arith, growing-stop l))
