-- How files enter and leave. Where the places do not fit in the numbers of the list, nothing is done. Assumes nothing.
use Rattle.std.specs.Prelude.{ℕ, zero, suc, ◌+◌, max, cond, List, get_or, set, eqb, ℤ, pos}
use Rattle.rules.specs.Split.{side_of}
use Rattle.buckets.specs.declared.slots.Shape.{Shape}
use Rattle.buckets.specs.Slots.{slots, level_of, head_at, back_at, top_at, fits_in}
use Rattle.buckets.specs.Links.{emptied, entered, left}

-- the top at this place is no less than this
abbrev pub raised : ℕ → ℕ → List ℕ → List ℕ
raised at top z = set z at (max (get_or z at 0) top)

-- f enters the front of the bucket of this side and gain, and the vault's top is above it
unfoldable pub entered_at : Shape → ℕ → ℤ → ℕ → List ℕ → List ℕ
entered_at shape side gain f z = raised (top_at shape side) (level_of shape.most gain + 1) (entered (back_at shape) (head_at shape side gain) f z)

-- f enters if its mark says that it is free
abbrev pub entered_if : ℕ → Shape → ℕ → ℤ → ℕ → List ℕ → List ℕ
entered_if mark shape side gain f z = cond (eqb mark 0) (entered_at shape side gain f z) z

-- every bucket is empty, and the tops are 0
unfoldable pub cleared : Shape → List ℕ → List ℕ
cleared shape z = set (set (emptied shape.files z (slots shape.most)) (top_at shape 0) 0) (top_at shape 1) 0

-- the free files below n enter in rising number
unfoldable pub entered_below : Shape → List ℕ → List ℕ → List ℤ → List ℕ → ℕ → List ℕ
entered_below shape marks sides gains z zero = z
entered_below shape marks sides gains z (suc n) = entered_if (get_or marks n 0) shape (side_of sides n) (get_or gains n (pos 0)) n (entered_below shape marks sides gains z n)

-- ---- what the calls leave

unfoldable pub entered_all : Shape → List ℕ → List ℕ → List ℤ → List ℕ → List ℕ
entered_all shape marks sides gains z = cond (fits_in shape) (entered_below shape marks sides gains (cleared shape z) shape.files) z

unfoldable pub taken_out : Shape → ℕ → List ℕ → List ℕ
taken_out shape f z = cond (fits_in shape) (left (back_at shape) f z) z

unfoldable pub brought_front : Shape → ℕ → ℤ → ℕ → List ℕ → List ℕ
brought_front shape side gain f z = cond (fits_in shape) (entered_at shape side gain f (left (back_at shape) f z)) z
