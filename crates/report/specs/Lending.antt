-- Room that is always enough for what is told, and what of it a program can lend on. Assumes nothing.
use Rattle.std.specs.Prelude.{◌≡◌, ℕ, ◌+◌, ◌≤◌, List, length, take, Result, IsOk}
use Rattle.rules.specs.declared.refusal.Refusal.{Refusal}

-- lent n bytes or more, a call is never refused
abbrev pub Answered : {A : Type 0} → ℕ → Result A Refusal → List ℕ → Type 0
Answered n result room = n ≤ length room → IsOk result

-- n counts bytes at the start of the room, so that a program can lend just these on
abbrev pub Lendable : ℕ → List ℕ → Type 0
Lendable n room = (n ≤ length room) × (n ≡ length (take n room))

-- and m those after them
abbrev pub BothLendable : ℕ → ℕ → List ℕ → Type 0
BothLendable n m room = (n + m ≤ length room) × Lendable n room
