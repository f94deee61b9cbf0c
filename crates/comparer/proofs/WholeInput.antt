-- No job is as long as the input that the programs take up: cut off there, two inputs are told as if they were read whole. Assumes nothing.
use mathlib.Core.Path.{◌≡◌}
use mathlib.Core.List.{List, []}
use Prim.Native.Nat.{ℕ}
use lib.ListN.{take}
use Rattle.rules.specs.Compare.{compares}
use Rattle.rules.proofs.Comparing.{compare-holds}
use Rattle.layout.proofs.WholeInput.{most, input_bytes, input-whole}

pub compare-whole : (old new : List ℕ) → compares most (take input_bytes old) (take input_bytes new) ≡ compares most old new
compare-whole old new = (compare-holds most old new []).longer input_bytes input-whole
