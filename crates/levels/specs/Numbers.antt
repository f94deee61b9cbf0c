-- Binding numbers and counts as the code has them. Assumes nothing.
use Rattle.std.specs.Prelude.{ℕ, ◌*◌, List, get_or}
use Rattle.rules.specs.Levels.{Binding, counted, unlimited, binding_of}
use Rattle.tables.specs.Zones.{part}
use Rattle.levels.specs.declared.numbers.BindingNumber.{BindingNumber}
use Rattle.levels.specs.declared.numbers.BindingNumber.TheVariants.{Counted, Unlimited}
use Rattle.levels.specs.Vectors.{Counts}

abbrev pub as_binding : BindingNumber → Binding
as_binding (Counted n) = counted n
as_binding Unlimited = unlimited

-- recipe j's, for a side, by its n counts and 2n further those of locked files
abbrev pub number_in : List ℕ → ℕ → ℕ → Binding
number_in side n j = binding_of (get_or (part 0 n side) j 0) (get_or (part (2 * n) n side) j 0)

-- the counts as a file sees them, by those of its own side and of the other
abbrev pub counts_from : List ℕ → List ℕ → ℕ → Counts
counts_from own other n = record { own = part 0 n own; held = part (2 * n) n own; there = part 0 n other; kept = part (2 * n) n other }
