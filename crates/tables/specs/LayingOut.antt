-- What stands before the first move of a pass, and the answer of the call that lays it out. Assumes nothing.
use Rattle.std.specs.Prelude.{◌≡◌, ◌≢◌, ℕ, ◌+◌, ◌*◌, ◌≤◌, ◌<◌, Bool, List, length, get_or, take, drop, ℤ}
use Rattle.rules.specs.Job.{Job, Limits, recipe_count}
use Rattle.rules.specs.Pass.{start_gains}
use Rattle.job.specs.Survey.{Survey, survey_of}
use Rattle.tables.specs.Zones.{cells_at, counts_at, start_in, state_of, Cells, Counts}
use Rattle.tables.specs.Building.{read_of}
use Rattle.tables.specs.Filling.{start_of}

-- what is built before the first move, in the scratch z that was z₀; the cells lie close, and those beyond the last file's are 0
pub record Prepared (bounds pins sides marks z₀ z : List ℕ) (gains : List ℤ) (n : ℕ) : Type 0 where
  pub locks : take (length sides) z ≡ marks
  pub starts : (f : ℕ) → f ≤ length sides → start_in (length sides) (length pins) z f ≡ start_of (read_of marks bounds pins) f
  pub cells : Cells (read_of marks bounds pins) (length sides) (length pins) z
  pub spare : (i : ℕ) → start_of (read_of marks bounds pins) (length sides) ≤ i → i < length pins → get_or z (cells_at (length sides) + i) 0 ≡ 0
  pub counts : Counts (read_of marks bounds pins) (state_of sides marks) (counts_at (length sides) (length pins)) n z
  pub long : length z ≡ length z₀
  pub beyond : drop (counts_at (length sides) (length pins) + 4 * n) z ≡ drop (counts_at (length sides) (length pins) + 4 * n) z₀
  pub starting : gains ≡ start_gains (read_of marks bounds pins) (length sides) (state_of sides marks)

-- the check's answer, told whether the lent lists fit; refused, gains and scratch stay as they were, else they are prepared
pub record LaysOut (balancing : Bool) (most : Limits) (job : Job) (word : Bool) (gains₀ : List ℤ) (z₀ : List ℕ) (gains : List ℤ) (z : List ℕ) (s : Survey) : Type 0 where
  pub answer : s ≡ survey_of balancing most job word
  pub refused : s.verdict.number ≢ 0 → (gains ≡ gains₀) × (z ≡ z₀)
  pub laid : s.verdict.number ≡ 0 → Prepared job.bounds job.pins job.sides job.marks z₀ z gains (recipe_count job)
