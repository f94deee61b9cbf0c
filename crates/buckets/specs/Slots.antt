-- The slot of a side and a gain, and the places in the list of links. A vault's slots stand together, those of lower gains first. Assumes nothing.
use Rattle.std.specs.Prelude.{ℕ, ◌+◌, ◌*◌, ◌<◌, min, Bool, cond, List, eqb, ltb, ℤ, pos, negsuc, ◌+ℤ◌, get_or}
use Rattle.rules.specs.Split.{side_of}
use Rattle.buckets.specs.declared.slots.Shape.{Shape}

-- the gains of a vault, from minus p to plus p
abbrev pub levels : ℕ → ℕ
levels p = 2 * p + 1

abbrev pub slots : ℕ → ℕ
slots p = 4 * p + 2

abbrev pub cut_off : ℕ → ℤ → ℕ
cut_off top (pos n) = min n top
cut_off top (negsuc n) = 0

-- p more than the gain; beyond the least and the most it is their level, so that every gain has a slot
abbrev pub level_of : ℕ → ℤ → ℕ
level_of p gain = cut_off (2 * p) (gain +ℤ pos p)

-- the first slot of a vault
abbrev pub vault_at : ℕ → ℕ → ℕ
vault_at p side = cond (eqb side 0) 0 (levels p)

abbrev pub slot_of : ℕ → ℕ → ℤ → ℕ
slot_of p side gain = vault_at p side + level_of p gain

abbrev pub slot_in : ℕ → List ℕ → List ℤ → ℕ → ℕ
slot_in p sides gains f = slot_of p (side_of sides f) (get_or gains f (pos 0))

-- ---- places: the nexts come first, then the heads, the previouses with that of none, and the tops

abbrev pub head_at : Shape → ℕ → ℤ → ℕ
head_at shape side gain = shape.files + slot_of shape.most side gain

abbrev pub back_at : Shape → ℕ
back_at shape = shape.files + slots shape.most

abbrev pub top_at : Shape → ℕ → ℕ
top_at shape side = 2 * shape.files + slots shape.most + cond (eqb side 0) 1 2

-- the place of each next and head fits in a number of the list
abbrev pub fits_in : Shape → Bool
fits_in shape = ltb (back_at shape) 65536

abbrev pub Fits : Shape → Type 0
Fits shape = back_at shape < 65536
