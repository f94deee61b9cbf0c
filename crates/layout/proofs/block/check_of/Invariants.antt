use Rattle.std.proofs.Common.{◌≡◌, List, ℕ, ◌+◌, ◌-◌, ◌*◌, ◌≤◌, take, drop}
use Rattle.rules.specs.Lists.{total}
use Rattle.rules.specs.Stored.{weigh}
use Rattle.layout.proofs.block.check_of.Given as goal

-- the checked bytes from i on
abbrev rest : List ℕ → ℕ → List ℕ
rest block i = drop i (take 510 block)

abbrev pub invariant-loop-i : goal.invariant-loop-i
invariant-loop-i l = record {
  tail : l.tail ≡ total (λ b. b) (rest l.block l.i);
  sum : l.sum ≡ 21845 + weigh 0 (rest l.block l.i);
  tail_fits : l.tail ≤ 255 * (510 - l.i);
  sum_fits : l.sum ≤ 21845 + 130050 * (510 - l.i);
}
