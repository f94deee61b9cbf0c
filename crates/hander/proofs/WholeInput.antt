-- No job is as long as the input that the programs take up: cut off there, an input is told as if it were read whole. Assumes nothing.
use mathlib.Core.Path.{◌≡◌}
use mathlib.Core.List.{List}
use Prim.Native.Nat.{ℕ}
use lib.ListN.{take}
use Rattle.rules.specs.Writing.{resettles}
use Rattle.rules.specs.Balance.{balances}
use Rattle.rules.proofs.CutOff.{longer-same}
use Rattle.rules.proofs.Balancing.{program-holds}
use Rattle.layout.proofs.WholeInput.{most, input_bytes, input-whole}

pub resettle-whole : (edition : ℕ) (bytes : List ℕ) → resettles edition most (take input_bytes bytes) ≡ resettles edition most bytes
resettle-whole edition bytes = (longer-same most input_bytes bytes).handed edition input-whole

pub balance-whole : (bytes : List ℕ) → balances most (take input_bytes bytes) ≡ balances most bytes
balance-whole bytes = (program-holds most bytes).longer input_bytes input-whole
