use Rattle.std.proofs.Common.{◌≡◌, ℕ, ◌+◌, ◌<◌, ◌≤◌, get_or}
use Rattle.stored.proofs.entries.put.Given as goal

abbrev pub invariant-loop-v : goal.invariant-loop-v
invariant-loop-v g l = record {
  put : (v : ℕ) → v < l.v → goal.F-post g l.value v (get_or l.into (l.a + v) 0);
  before : (i : ℕ) → i < l.a → get_or l.into i 0 ≡ get_or l.initial.into i 0;
  after : (i : ℕ) → l.a + l.v ≤ i → get_or l.into i 0 ≡ get_or l.initial.into i 0;
}
