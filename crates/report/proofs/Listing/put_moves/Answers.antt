use mathlib.Core.Path.{◌≡◌}
use native.Mathlib.Omega.{arith}
use native.Mathlib.Numerals.{add-one}
use Rattle.report.specs.Cases.{listed}
use Rattle.report.proofs.Traces.{move-pieces, moves-grow}
use Rattle.report.proofs.Laying.{laying-start, growing-more, growing-end, growing-stop, wrote_as}
use Rattle.report.proofs.Listing.put_moves.Goals as goal

pub loop-i-init : goal.loop-i-init
loop-i-init c = record { few = omega arith; laying = laying-start (omega arith) }

pub loop-i-preserved : goal.loop-i-preserved
loop-i-preserved c = record {
  few = rw (add-one c.loop-i.i) c.put_move.ensures.few_scans;
  laying =
      growing-more c.loop-i.invariant.laying _ c.loop-i-test.true c.put_move.ensures.wrote (moves-grow (listed c.args.self) c.requires.moves_held c.loop-i-test.true);
}

pub returns : goal.returns
returns c =
    let l = c.loop-i.invariant in
    let e : c.loop-i.i ≡ c.args.n = omega (arith, growing-stop l.laying, c.loop-i-test.false) in
    record {
      wrote = wrote_as _ (growing-end l.laying c.loop-i-test.false) (move-pieces _ _) (rw e (omega arith));
      few_scans = rw (← e) l.few;
    }
