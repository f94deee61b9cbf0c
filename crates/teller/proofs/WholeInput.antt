-- No job is as long as the input that the programs take up: cut off there, an input is told as if it were read whole. Assumes nothing.
use mathlib.Core.Path.{◌≡◌}
use Prim.Native.Nat.{ℕ}
use mathlib.Core.List.{List}
use lib.ListN.{take}
use Rattle.rules.specs.Report.{prints}
use Rattle.rules.specs.Trace.{traces}
use Rattle.rules.proofs.CutOff.{longer-same}
use Rattle.layout.proofs.WholeInput.{most, input_bytes, input-whole}

pub night-whole : (edition : ℕ) (bytes : List ℕ) → prints edition most (take input_bytes bytes) ≡ prints edition most bytes
night-whole edition bytes = (longer-same most input_bytes bytes).same edition input-whole

pub trace-whole : (edition : ℕ) (bytes : List ℕ) → traces edition most (take input_bytes bytes) ≡ traces edition most bytes
trace-whole edition bytes = (longer-same most input_bytes bytes).traced edition input-whole
