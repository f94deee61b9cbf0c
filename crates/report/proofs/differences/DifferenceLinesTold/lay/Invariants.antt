use Prim.Native.Nat.{◌*◌}
use Rattle.rules.specs.Lists.{up_to}
use Rattle.report.specs.Bytes.{difference_bytes}
use Rattle.report.proofs.Laying.{Laying}
use Rattle.report.proofs.Comparisons.{record_line}
use Rattle.report.proofs.differences.DifferenceLinesTold.lay.Given as goal

abbrev pub invariant-loop-i : goal.invariant-loop-i
invariant-loop-i l = Laying (record_line l.self.numbers.now) (up_to l.self.count) l.i (difference_bytes * l.i) l.initial.text l.text
