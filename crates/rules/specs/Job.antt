-- Document 01, "A job": its numbers, its limits, the view of a recipe, and what a pass or run is lent. Assumes nothing.
use Rattle.std.specs.Prelude.{ℕ, suc, ◌+◌, ◌-◌, ◌*◌, ◌<◌, Bool, not, cond, ◌&&◌, List, [], map, length, get_or, take, drop, leb, ltb, eqb, ℤ}
use Rattle.rules.specs.Lists.{those, up_to, AllBelow}

-- a side is 0 (A) or 1 (B), a mark 0 (free), 1 (pinned) or 2 (unread: document 02, order 5); the ratio is num/den for A; cap 0 is none; the
-- tolerance is k times smax (order 6)
pub record Job : Type 0 where
  pub sizes : List ℕ
  pub sides : List ℕ
  pub marks : List ℕ
  pub bounds : List ℕ
  pub pins : List ℕ
  pub num : ℕ
  pub den : ℕ
  pub cap : ℕ
  pub k : ℕ

-- a job of the lists and numbers of a call, for contracts
abbrev pub as_job : List ℕ → List ℕ → List ℕ → List ℕ → List ℕ → ℕ → ℕ → ℕ → ℕ → Job
as_job sizes sides marks bounds pins num den cap k = record {
  sizes = sizes;
  sides = sides;
  marks = marks;
  bounds = bounds;
  pins = pins;
  num = num;
  den = den;
  cap = cap;
  k = k;
}

-- the most files, recipes and pins, and the most that den may be: the kind of job hands them over
pub record Limits : Type 0 where
  pub files : ℕ
  pub recipes : ℕ
  pub pins : ℕ
  pub den : ℕ

abbrev pub limits_of : ℕ → ℕ → ℕ → ℕ → Limits
limits_of files recipes pins den = record { files = files; recipes = recipes; pins = pins; den = den }

-- C, the number of sizes
abbrev pub file_count : Job → ℕ
file_count job = length job.sizes

-- N: the bounds list has N + 1 numbers; with fewer than two, N is 0
abbrev pub recipe_count : Job → ℕ
recipe_count job = length job.bounds - 1

-- P, the number of pins
abbrev pub pin_count : Job → ℕ
pin_count job = length job.pins

abbrev pub bound : Job → ℕ → ℕ
bound job j = get_or job.bounds j 0

abbrev pub pin : Job → ℕ → ℕ
pin job k = get_or job.pins k 0

-- every number of a job is a two-byte number
pub record TwoByte (job : Job) : Type 0 where
  pub sizes : AllBelow 65536 job.sizes
  pub sides : AllBelow 65536 job.sides
  pub marks : AllBelow 65536 job.marks
  pub bounds : AllBelow 65536 job.bounds
  pub pins : AllBelow 65536 job.pins
  pub num : job.num < 65536
  pub den : job.den < 65536
  pub cap : job.cap < 65536
  pub k : job.k < 65536

-- ---- the view

-- recipe j has the pins from bound j up to, not including, bound j + 1; the part is empty
-- if there is no such recipe, or its two bounds are out of order or beyond the pins
unfoldable pub view_of : List ℕ → List ℕ → ℕ → List ℕ
view_of bounds pins j =
    let a = get_or bounds j 0 in
    let b = get_or bounds (suc j) 0 in
    cond (ltb (suc j) (length bounds) && leb a b && leb b (length pins)) (take (b - a) (drop a pins)) []

abbrev pub view : Job → ℕ → List ℕ
view job j = view_of job.bounds job.pins j

-- the files, in rising number
unfoldable pub files : Job → List ℕ
files job = up_to (file_count job)

-- the recipes, in rising number, each whole: visits count these
unfoldable pub views : Job → List (List ℕ)
views job = map (view job) (up_to (recipe_count job))

-- a file that could be read: its mark is not 2
abbrev pub is_read : Job → ℕ → Bool
is_read job f = not (eqb (get_or job.marks f 0) 2)

-- two files make a recipe
abbrev pub enough : List ℕ → Bool
enough r = leb 2 (length r)

-- the readable files of a recipe; none where they are fewer than two
unfoldable pub read_in : Job → List ℕ → List ℕ
read_in job r = let s = those (is_read job) r in cond (enough s) s []

-- the recipes as cut, gains and scans see them, still in place j (order 5)
unfoldable pub recipes : Job → List (List ℕ)
recipes job = map (read_in job) (views job)

-- ---- what a pass or run is lent besides the job

pub record Lent : Type 0 where
  pub gains : List ℤ
  -- the four move lists: file, gain when chosen, cut after, scans listed so far
  pub tried : List ℕ
  pub gained : List ℤ
  pub cuts : List ℕ
  pub ends : List ℕ
  -- the two scan lists
  pub recipes : List ℕ
  pub kinds : List ℕ
  pub scratch : List ℕ

abbrev pub lent_of : List ℤ → List ℕ → List ℤ → List ℕ → List ℕ → List ℕ → List ℕ → List ℕ → Lent
lent_of gains tried gained cuts ends recipes kinds scratch = record {
  gains = gains;
  tried = tried;
  gained = gained;
  cuts = cuts;
  ends = ends;
  recipes = recipes;
  kinds = kinds;
  scratch = scratch;
}

-- P + 4C + 4N + 16; edition 2 has 8N in place of 4N (document 02, order 9)
abbrev pub scratch_numbers : ℕ → ℕ → ℕ → ℕ → ℕ
scratch_numbers edition p c n = p + 4 * c + cond (eqb edition 2) 8 4 * n + 16

abbrev pub scratch_for : ℕ → Job → ℕ
scratch_for edition job = scratch_numbers edition (pin_count job) (file_count job) (recipe_count job)

-- gains exactly C; each move list at least C, each scan list at least 4N, scratch at least its numbers
abbrev pub fits : ℕ → Job → Lent → Bool
fits edition job l =
    eqb (length l.gains) (file_count job)
    && leb (file_count job) (length l.tried) && leb (file_count job) (length l.gained)
    && leb (file_count job) (length l.cuts) && leb (file_count job) (length l.ends)
    && leb (4 * recipe_count job) (length l.recipes) && leb (4 * recipe_count job) (length l.kinds)
    && leb (scratch_for edition job) (length l.scratch)
