-- What the code does to the list of links. A place that is not there is read as 0 and not written. Assumes nothing.
use Rattle.std.specs.Prelude.{ℕ, zero, suc, ◌+◌, cond, List, get_or, set, eqb, Option, Some, None}
use Rattle.buckets.specs.declared.links.Bucket.{Bucket}

-- u names v, and v's previous is u
unfoldable pub joined : ℕ → ℕ → ℕ → List ℕ → List ℕ
joined back u v z = set (set z u v) (back + v) u

-- the heads of the first s slots name none
unfoldable pub emptied : ℕ → List ℕ → ℕ → List ℕ
emptied none z zero = z
emptied none z (suc s) = set (emptied none z s) (none + s) none

-- f goes between the head and the file that was first
abbrev pub entered : ℕ → ℕ → ℕ → List ℕ → List ℕ
entered back head f z = joined back head f (joined back f (get_or z head 0) z)

-- what named f names its next
abbrev pub left : ℕ → ℕ → List ℕ → List ℕ
left back f z = joined back (get_or z (back + f) 0) (get_or z f 0) z

-- of the heads at from, .., from + k − 1, one more than the highest that names a file; 0 where none does
unfoldable pub highest_in : ℕ → ℕ → List ℕ → ℕ → ℕ
highest_in none from z zero = zero
highest_in none from z (suc k) = cond (eqb (get_or z (from + k) 0) none) (highest_in none from z k) (suc k)

-- where a top stands, by the highest bucket that holds a file
abbrev pub as_top : Option Bucket → ℕ
as_top None = 0
as_top (Some bucket) = bucket.level + 1
