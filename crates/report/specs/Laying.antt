-- Text laid into a room. Assumes nothing.
use Rattle.std.specs.Prelude.{◌≡◌, ℕ, ◌+◌, ◌%◌, ◌<◌, cond, List, [], ◌∷◌, ◌++◌, ltb, length, get_or}
use Rattle.std.proofs.lemmas.List.Edits.{sets}
use Rattle.rules.specs.Report.{digits}

-- the room with text in it from a position on, cut off where the room ends
unfoldable pub over : ℕ → List ℕ → List ℕ → List ℕ
over at text room = sets room at text

-- so many bytes from a position on end far below the most that a usize holds
abbrev pub Ahead : ℕ → ℕ → Type 0
Ahead at bytes = at + bytes < 4294967296

-- the text was laid into the room, and the next position is the one after it
pub record Laid (at : ℕ) (text room : List ℕ) (next : ℕ) (after : List ℕ) : Type 0 where
  pub ends : next ≡ at + length text
  pub holds : after ≡ over at text room

-- pieces, one for each entry of a list
unfoldable pub pieces : {A : Type 0} → (A → List ℕ) → List A → List ℕ
pieces piece [] = []
pieces piece (x ∷ xs) = piece x ++ pieces piece xs

-- ---- a form: a text in which a digit stands for the number at its place, where there is one

-- a digit's value; that of any other byte of a text is over 9
abbrev pub value_of : ℕ → ℕ
value_of b = (b + 208) % 256

unfoldable pub shown : List ℕ → ℕ → List ℕ
shown ns b = cond (ltb (value_of b) (length ns)) (digits (get_or ns (value_of b) 0)) (b ∷ [])

abbrev pub filled : List ℕ → List ℕ → List ℕ
filled ns form = pieces (shown ns) form

-- how long a part can be, and the whole, where there are n numbers
unfoldable pub widest : ℕ → ℕ → ℕ
widest n b = cond (ltb (value_of b) n) 20 1

unfoldable pub longest : ℕ → List ℕ → ℕ
longest n [] = 0
longest n (b ∷ form) = widest n b + longest n form
