use Prim.Native.Nat.{◌*◌}
use mathlib.Core.Bool.{not}
use lib.ListN.{length, get_or}
use lib.Dec.{eqb}
use Rattle.rules.specs.Lists.{bit}
use Rattle.rules.proofs.Count.{Summed}
use Rattle.report.proofs.split.Split.size_on.Given as goal

abbrev pub invariant-loop-f : goal.invariant-loop-f
invariant-loop-f l =
    let files = l.fn.self.files in
    let sides = l.fn.self.sides in
    Summed (λ k. bit (eqb (get_or sides.now k 0) l.side) * (bit (not (eqb (get_or files.marks.now k 0) 2)) * get_or files.sizes.now k 0)) 65535 (length files.sizes.now) l.f l.sum
