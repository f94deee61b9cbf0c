-- What the code that counts recipes' files and works out the starting gains does, on lists. Assumes nothing.
use Rattle.std.specs.Prelude.{ℕ, ◌+◌, ◌-◌, ◌*◌, cond, List, set, eqb, ℤ, pos}
use Rattle.rules.specs.Lists.{diff}
use Rattle.rules.specs.Split.{count_on}
use Rattle.rules.specs.Move.{State, locked_on}
use Rattle.tables.specs.Zones.{part}

-- the counts of side u at place i and 2n further, of a recipe whose files are r
abbrev pub counted_side : State → ℕ → ℕ → ℕ → List ℕ → List ℕ → List ℕ
counted_side st n u i r z = set (set z i (count_on st.sides u r)) (i + 2 * n) (locked_on st u r)

-- those of recipe j, for each side, in a zone for n recipes
unfoldable pub counted : State → ℕ → ℕ → List ℕ → List ℕ → List ℕ
counted st n j r z = counted_side st n 1 (n + j) r (counted_side st n 0 j r z)

-- one up for each recipe with a count of 1 on the file's own side, one down for each with none on the other
unfoldable pub gain_by : List ℕ → List ℕ → List ℕ → ℤ
gain_by own other js = diff (count_on own 1 js) (count_on other 0 js)

-- the gain of a file with cells from s up to e, where the n counts of its own side and of the other stand from there on; 0 where it is pinned
unfoldable pub start_gain : List ℕ → ℕ → ℕ → ℕ → ℕ → ℕ → ℕ → ℤ
start_gain z mark s e own other n = cond (eqb mark 0) (gain_by (part own n z) (part other n z) (part s (e - s) z)) (pos 0)
