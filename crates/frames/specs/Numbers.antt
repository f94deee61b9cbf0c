-- The bytes of a frame as numbers, two bytes each. Assumes nothing.
use Rattle.std.specs.Prelude.{◌≡◌, ℕ, ◌+◌, ◌*◌, ◌/◌, ◌<◌, min, List, length, get_or, drop}

-- low byte first
abbrev pub number_of : ℕ → ℕ → ℕ
number_of low high = low + 256 * high

-- the number at place i
abbrev pub number_at : List ℕ → ℕ → ℕ
number_at bytes i = number_of (get_or bytes (2 * i) 0) (get_or bytes (2 * i + 1) 0)

-- the first n entries of the room are the numbers, as many as it holds; further entries stay as they were
pub record NumbersPut (bytes old room : List ℕ) (n : ℕ) : Type 0 where
  pub many : n ≡ min (length bytes / 2) (length old)
  pub numbers : (i : ℕ) → i < n → get_or room i 0 ≡ number_at bytes i
  pub beyond : drop n room ≡ drop n old
