-- What a call of src/ is given, as rules has it: the limits, the job, and the lists that are lent. Assumes nothing.
use Rattle.std.specs.Prelude.{◌≡◌, List, ℕ}
use Rattle.rules.specs.Job.{Job, Limits, limits_of, Lent, lent_of}
use Rattle.job.specs.declared.TheConstants.Job.{MOST_FILES, MOST_RECIPES, MOST_PINS, MOST_DEN}
use Rattle.job.specs.declared.Job.{Job as Figures}
use Rattle.job.specs.declared.book.Book.{Book}
use Rattle.job.specs.declared.lent.Moves.{Moves}
use Rattle.job.specs.declared.lent.Scans.{Scans}
use Rattle.job.specs.declared.lent.Lent.{Lent as Lists}
use Rattle.job.specs.Parts.{whole_job, of_files, of_recipes, of_marked, of_pins, of_lists}

-- the limits of the kind of job
abbrev pub the_limits : Limits
the_limits = limits_of MOST_FILES MOST_RECIPES MOST_PINS MOST_DEN

-- the job of a call: its figures, its files and recipes, and the sides
abbrev pub the_job : Figures → Book → List ℕ → Job
the_job figures book sides = whole_job figures book.files.sizes.now sides book.files.marks.now book.recipes.bounds.now book.recipes.pins.now

-- the job as a step sees it that is handed some of it only: Parts.antt
abbrev pub the_files : Book → List ℕ → Job
the_files book sides = of_files book.files.sizes.now sides book.files.marks.now

abbrev pub the_recipes : Book → Job
the_recipes book = of_recipes book.recipes.bounds.now book.recipes.pins.now

abbrev pub the_marked : Book → Job
the_marked book = of_marked book.files.marks.now book.recipes.bounds.now book.recipes.pins.now

abbrev pub the_pins : Book → Job
the_pins book = of_pins book.files.sizes.now book.recipes.bounds.now book.recipes.pins.now

abbrev pub the_lists : Book → List ℕ → Job
the_lists book sides = of_lists book.files.sizes.now sides book.files.marks.now book.recipes.bounds.now book.recipes.pins.now

-- what the lent lists hold
abbrev pub contents : Lists → Lent
contents l =
    lent_of l.gains.now l.moves.tried.now l.moves.gained.now l.moves.cuts.now l.moves.ends.now l.scans.recipes.now l.scans.kinds.now l.scratch.now

-- the lists lent are the same lists before a call and after it: a caller sees in them what was put there
pub record SameMoves (old new : Moves) : Type 0 where
  pub tried : new.tried.ghost_name ≡ old.tried.ghost_name
  pub gained : new.gained.ghost_name ≡ old.gained.ghost_name
  pub cuts : new.cuts.ghost_name ≡ old.cuts.ghost_name
  pub ends : new.ends.ghost_name ≡ old.ends.ghost_name

pub record SameScans (old new : Scans) : Type 0 where
  pub recipes : new.recipes.ghost_name ≡ old.recipes.ghost_name
  pub kinds : new.kinds.ghost_name ≡ old.kinds.ghost_name

pub record SameLists (old new : Lists) : Type 0 where
  pub gains : new.gains.ghost_name ≡ old.gains.ghost_name
  pub moves : SameMoves old.moves new.moves
  pub scans : SameScans old.scans new.scans
  pub scratch : new.scratch.ghost_name ≡ old.scratch.ghost_name
