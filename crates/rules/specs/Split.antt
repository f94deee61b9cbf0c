-- Document 01, "Gain, cut, balance". `rs` is a list of recipes, each a list of files. Assumes nothing.
use Rattle.std.specs.Prelude.{ℕ, suc, ◌+◌, ◌-◌, ◌*◌, Bool, not, cond, ◌&&◌, List, [], ◌∷◌, get_or, leb, ltb, eqb, ℤ}
use Rattle.rules.specs.Lists.{bit, total, count, largest, diff}
use Rattle.rules.specs.Job.{Job, is_read, files, views}

-- vault A is 0, vault B is 1
abbrev pub other : ℕ → ℕ
other u = 1 - u

abbrev pub side_of : List ℕ → ℕ → ℕ
side_of sides f = get_or sides f 0

abbrev pub on_side : List ℕ → ℕ → ℕ → Bool
on_side sides u f = eqb (side_of sides f) u

-- how many files of r are on side u
unfoldable pub count_on : List ℕ → ℕ → List ℕ → ℕ
count_on sides u r = count (on_side sides u) r

-- a recipe is cut if it has files in both vaults
unfoldable pub is_cut : List ℕ → List ℕ → Bool
is_cut sides r = ltb 0 (count_on sides 0 r) && ltb 0 (count_on sides 1 r)

-- the cut is the number of cut recipes
unfoldable pub cut : List ℕ → List (List ℕ) → ℕ
cut sides rs = count (is_cut sides) rs

-- how often r holds f
unfoldable pub times : ℕ → List ℕ → ℕ
times f r = count (λ x. eqb x f) r

abbrev pub holds : List ℕ → ℕ → Bool
holds r f = ltb 0 (times f r)

-- p, the number of recipes of f
abbrev pub recipes_with : List (List ℕ) → ℕ → ℕ
recipes_with rs f = count (λ r. holds r f) rs

-- the numbers of the recipes of f, rising, those of rs counted from j
unfoldable pub recipes_from : ℕ → ℕ → List (List ℕ) → List ℕ
recipes_from f j [] = []
recipes_from f j (r ∷ rs) = cond (holds r f) (j ∷ recipes_from f (suc j) rs) (recipes_from f (suc j) rs)

-- the recipes of f, in rising number
abbrev pub recipes_of : List (List ℕ) → ℕ → List ℕ
recipes_of rs f = recipes_from f 0 rs

-- r is a recipe of f where it is alone on its side
unfoldable pub alone : List ℕ → ℕ → List ℕ → Bool
alone sides f r = holds r f && eqb (count_on sides (side_of sides f) r) 1

-- r is a recipe of f with no file on the other side
unfoldable pub together : List ℕ → ℕ → List ℕ → Bool
together sides f r = holds r f && eqb (count_on sides (other (side_of sides f)) r) 0

-- the count of its recipes where it is alone on its side, less the count of those with no file on the other side
unfoldable pub gain : List ℕ → List (List ℕ) → ℕ → ℤ
gain sides rs f = diff (count (alone sides f) rs) (count (together sides f) rs)

-- ---- balance

abbrev pub size_of : Job → ℕ → ℕ
size_of job f = get_or job.sizes f 0

abbrev pub is_free : Job → ℕ → Bool
is_free job f = eqb (get_or job.marks f 0) 0

-- what a file weighs: its size, and nothing where it could not be read (document 02, order 5)
abbrev pub weighs : Job → ℕ → ℕ
weighs job f = bit (is_read job f) * size_of job f

-- how many files could not be read, and how many recipes hold such a file
unfoldable pub unread_files : Job → ℕ
unread_files job = count (λ f. not (is_read job f)) (files job)

unfoldable pub unread_recipes : Job → ℕ
unread_recipes job = count (λ r. ltb 0 (count (λ f. not (is_read job f)) r)) (views job)

-- W, what all files weigh
unfoldable pub weight : Job → ℕ
weight job = total (weighs job) (files job)

-- the largest size among the files with mark 0 (document 02, order 2)
unfoldable pub smax : Job → ℕ
smax job = largest (λ f. bit (is_free job f) * size_of job f) (files job)

-- the sum on side u; |A| is that of side 0
unfoldable pub size_on : Job → ℕ → List ℕ → ℕ
size_on job u sides = total (λ f. bit (on_side sides u f) * weighs job f) (files job)

abbrev pub size_a : Job → List ℕ → ℕ
size_a job sides = size_on job 0 sides

-- the tolerance: k times smax (order 6)
abbrev pub tolerance : Job → ℕ
tolerance job = job.k * smax job

-- den·|A| + den·m is at least num·W, where m is the tolerance
abbrev pub large_enough : ℕ → ℕ → ℕ → ℕ → ℕ → Bool
large_enough num den w m a = leb (num * w) (den * a + den * m)

-- den·|A| is at most num·W + den·m
abbrev pub small_enough : ℕ → ℕ → ℕ → ℕ → ℕ → Bool
small_enough num den w m a = leb (den * a) (num * w + den * m)

-- both
abbrev pub in_window : ℕ → ℕ → ℕ → ℕ → ℕ → Bool
in_window num den w m a = large_enough num den w m a && small_enough num den w m a

-- |A| of a is balanced
unfoldable pub balanced : Job → ℕ → Bool
balanced job a = in_window job.num job.den (weight job) (tolerance job) a
