use Prim.Native.Nat.{◌*◌, ◌-◌}
use Rattle.rules.specs.Lists.{up_to}
use Rattle.report.specs.Bytes.{scan_bytes}
use Rattle.report.specs.Cases.{listed}
use Rattle.report.proofs.Laying.{Laying}
use Rattle.report.proofs.Traces.{scan_line}
use Rattle.report.proofs.Listing.put_scans.Given as goal

abbrev pub invariant-loop-k : goal.invariant-loop-k
invariant-loop-k l = Laying (scan_line (listed l.fn.self) l.fn.first) (up_to (l.fn.end - l.fn.first)) (l.k - l.fn.first) (scan_bytes * (l.k - l.fn.first)) l.initial.text l.text
