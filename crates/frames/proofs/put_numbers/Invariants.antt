-- The numbers before place i stand in the room, and what lies beyond is as it was.
use Rattle.std.proofs.Common.{◌≡◌, ℕ, ◌<◌, get_or, drop}
use Rattle.frames.specs.Numbers.{number_at}
use Rattle.frames.proofs.put_numbers.Given as goal

abbrev pub invariant-loop-i : goal.invariant-loop-i
invariant-loop-i l = record {
  numbers : (k : ℕ) → k < l.i → get_or l.room k 0 ≡ number_at l.bytes k;
  beyond : drop l.i l.room ≡ drop l.i l.initial.room;
}
