use Prim.Native.Nat.{◌<◌}
use Rattle.rules.specs.Lists.{up_to}
use Rattle.rules.specs.Trace.{scans_before, move_lines}
use Rattle.report.specs.Bytes.{all_scans}
use Rattle.report.specs.Cases.{listed}
use Rattle.report.proofs.Laying.{Laying}
use Rattle.report.proofs.Traces.{moves_room}
use Rattle.report.proofs.Listing.put_moves.Given as goal

abbrev pub invariant-loop-i : goal.invariant-loop-i
invariant-loop-i l = record {
  few : scans_before (listed l.fn.self) l.i < all_scans;
  laying : Laying (move_lines (listed l.fn.self)) (up_to l.fn.n) l.i (moves_room (listed l.fn.self) l.i) l.initial.text l.text;
}
