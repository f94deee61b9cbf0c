-- What a search finds, a search that begins late, and check 5 within one recipe. Assumes nothing.
use Rattle.std.specs.Prelude.{ℕ, zero, suc, ◌≤◌, ◌<◌, ◌≡◌, Bool, cond, ◌&&◌, ◌||◌, List, length, get_or, leb, ltb, eqb, Option, Some, None}
use Rattle.rules.specs.Lists.{lowest}

-- what a search finds: the lowest number below n that passes the test, or none
abbrev pub IsFirst : (ℕ → Bool) → ℕ → Option ℕ → Type 0
IsFirst p n (Some i) = (i < n) × (i ≡ lowest p n)
IsFirst p n None = n ≡ lowest p n

-- what is found, or the end of the search
abbrev pub or_end : Option ℕ → ℕ → ℕ
or_end (Some i) n = i
or_end None n = n

-- the test, from a on
abbrev pub onwards : ℕ → (ℕ → Bool) → ℕ → Bool
onwards a p k = leb a k && p k

-- one more than the last of the first n positions that holds file f; 0 where none does
unfoldable pub last_held : List ℕ → ℕ → ℕ → ℕ
last_held pins zero f = 0
last_held pins (suc n) f = cond (eqb (get_or pins n 0) f) (suc n) (last_held pins n f)

-- the pin at position k is C or more, or repeats an earlier pin of its recipe, which begins at a
abbrev pub bad_from : ℕ → List ℕ → ℕ → ℕ → Bool
bad_from files pins a k = leb files (get_or pins k 0) || ltb a (last_held pins k (get_or pins k 0))

-- the table has for each file where the first n positions hold it last
pub record Held (files : ℕ) (pins : List ℕ) (n : ℕ) (table : List ℕ) : Type 0 where
  pub room : files ≤ length table
  pub last : (f : ℕ) → f < files → get_or table f 0 ≡ last_held pins n f
