use Prim.Native.Nat.{◌*◌}
use Rattle.rules.specs.Trace.{signed}
use Rattle.report.specs.Bytes.{gain_bytes}
use Rattle.report.proofs.Laying.{Laying}
use Rattle.report.proofs.moves.put_gains.Given as goal

abbrev pub invariant-loop-gain : goal.invariant-loop-gain
invariant-loop-gain l = Laying signed l.gains l.gain-index (gain_bytes * l.gain-index) l.initial.text l.text
