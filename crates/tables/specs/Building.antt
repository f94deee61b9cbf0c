-- What a pass may count on in the lists of a job, and the recipes they make. Assumes nothing.
use Rattle.std.specs.Prelude.{◌≡◌, ℕ, suc, ◌-◌, ◌≤◌, ◌<◌, cond, List, [], map, leb, length, get_or}
use Rattle.rules.specs.Lists.{those, up_to, AllBelow}
use Rattle.rules.specs.Job.{view_of, is_read, read_in}
use Rattle.rules.specs.Theorems.{Distinct}
use Rattle.job.specs.Parts.{of_marks, of_marked}

-- the recipes of the bounds and pins of a call
abbrev pub views_of : List ℕ → List ℕ → List (List ℕ)
views_of bounds pins = map (view_of bounds pins) (up_to (length bounds - 1))

-- their readable parts, which cells, counts and gains go by
abbrev pub read_of : List ℕ → List ℕ → List ℕ → List (List ℕ)
read_of marks bounds pins = map (read_in (of_marked marks bounds pins)) (views_of bounds pins)

-- the files of a recipe that could be read
abbrev pub readable : List ℕ → List ℕ → List ℕ
readable marks r = those (is_read (of_marks marks)) r

-- the whole recipe, or nothing where fewer than two of its files could be read
abbrev pub two_readable : List ℕ → List ℕ → List ℕ
two_readable marks r = cond (leb 2 (length (readable marks r))) r []

-- the bounds rise from 0 to the number of pins; every pin is one of c files; no recipe holds a file twice; the counts fit two bytes
pub record Buildable (bounds pins : List ℕ) (c : ℕ) : Type 0 where
  pub first : get_or bounds 0 0 ≡ 0
  pub rise : (j : ℕ) → j < length bounds - 1 → get_or bounds j 0 ≤ get_or bounds (suc j) 0
  pub last : get_or bounds (length bounds - 1) 0 ≡ length pins
  pub files : AllBelow c pins
  pub distinct : Distinct (views_of bounds pins)
  pub few_files : c < 65536
  pub few_pins : length pins < 65535
  pub few_recipes : length bounds < 65536
