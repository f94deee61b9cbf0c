-- A file turned over, and moves taken back, on lists. Assumes nothing.
use Rattle.std.specs.Prelude.{ℕ, zero, suc, ◌+◌, List, get_or, set}
use Rattle.rules.specs.Split.{other, side_of}

-- the file changes its side
abbrev pub turned : List ℕ → ℕ → List ℕ
turned sides f = set sides f (other (side_of sides f))

-- the last d of the first best + d moves taken back, the latest first
unfoldable pub back_to : List ℕ → ℕ → ℕ → List ℕ → List ℕ
back_to tried best zero sides = sides
back_to tried best (suc d) sides = back_to tried best d (turned sides (get_or tried (best + d) 0))
