-- What a pass may count on in a job that is not refused. Assumes nothing.
use mathlib.Core.Path.{◌≡◌}
use Prim.Native.Nat.{ℕ, ◌+◌, ◌*◌, ◌≤◌, ◌<◌, ◌^◌}
use mathlib.Core.Bool.{true}
use lib.ListN.{length}
use Rattle.rules.specs.Job.{Job, Limits, file_count, recipe_count, pin_count, recipes, Lent, fits}
use Rattle.rules.specs.Split.{weight, tolerance, cut, size_a}
use Rattle.rules.specs.Theorems.{Sound}
use Rattle.choice.specs.declared.window.Window.{Window}

-- a job small enough for two-byte entries and a four-byte |A|
pub record Small (job : Job) : Type 0 where
  pub files : file_count job < 65536
  pub bounds : length job.bounds < 65536
  pub pins : pin_count job < 65535
  pub scans : 4 * recipe_count job < 65536
  pub links : file_count job + 4 * recipe_count job + 2 < 65536
  pub weight : weight job < 2 ^ 32

-- den, and num·W and den times the tolerance
pub record Measured (job : Job) (w : Window) : Type 0 where
  pub den : w.den ≡ job.den
  pub aim : w.aim ≡ job.num * weight job
  pub span : w.span ≡ job.den * tolerance job

-- a job that a pass may be made of, with the lists lent to it
pub record Playable (job : Job) (l : Lent) (w : Window) : Type 0 where
  pub most : Limits
  pub sound : Sound most job
  pub wide : 1 ≤ job.k
  pub small : Small job
  pub fitting : fits 1 job l ≡ true
  pub measured : Measured job w

-- |A| and the cut that a pass starts from
abbrev pub size_at_start : Job → ℕ
size_at_start job = size_a job job.sides

abbrev pub cut_at_start : Job → ℕ
cut_at_start job = cut job.sides (recipes job)
