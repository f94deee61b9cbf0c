use Rattle.std.proofs.Common.{◌≡◌, ℕ, ◌<◌, false}
use Rattle.stored.specs.Steps.{left_over}
use Rattle.stored.proofs.block.has_left_over.Given as goal

abbrev pub invariant-loop-v : goal.invariant-loop-v
invariant-loop-v l = (k : ℕ) → k < l.v → left_over l.block l.n k ≡ false
