-- What makes the move of a file safe for the code. Assumes nothing.
use Rattle.std.specs.Prelude.{◌≡◌, ℕ, ◌+◌, ◌-◌, ◌*◌, ◌≤◌, ◌<◌, ◌^◌, List, length, get_or, set, ℤ, pos}
use Rattle.rules.specs.Job.{view_of}
use Rattle.rules.specs.Split.{side_of}
use Rattle.rules.proofs.Signed.{up, down}
use Rattle.split.specs.declared.progress.Progress.{Progress}
use Rattle.tables.specs.Zones.{cells_at, counts_at, start_in, end_in, cells_of}
use Rattle.split.specs.Scanning.{Treated, NearVisits, Fits, Ready}
use Rattle.tables.specs.Ending.{turned}
use Rattle.split.specs.Moving.{way_to, treat_from}

-- |A| and the cut after the move of f are small enough
pub record Shiftable (sizes sides : List ℕ) (gains : List ℤ) (f : ℕ) (p : Progress) : Type 0 where
  pub file : (f < length sizes) × (f < length sides) × (f < length gains)
  pub size : p.size < 2 ^ 32
  pub gain : up (get_or gains f (pos 0)) ≤ p.cut
  pub cut : p.cut + down (get_or gains f (pos 0)) < 2 ^ 32

pub record Movable (sizes bounds pins : List ℕ) (f : ℕ) (sides : List ℕ) (y : Treated) : Type 0 where
  -- the lists are as long as the job says, and the job is small
  pub file : f < length sizes
  pub sides_long : length sides ≡ length sizes
  pub gains_long : length y.scanned.gains ≡ length sizes
  pub scratch_long : counts_at (length sizes) (length pins) + 4 * (length bounds - 1) ≤ length y.scratch
  pub few : (length sizes < 65536) × (length bounds < 65536) × (length pins < 65536)
  -- the file's cells, and its recipes one after the other
  pub order : start_in (length sizes) (length pins) y.scratch f ≤ end_in (length sizes) (length pins) y.scratch f
  pub inside : end_in (length sizes) (length pins) y.scratch f ≤ length pins
  pub ready :
      Ready (way_to (length sizes) (length bounds - 1) (length pins) (side_of (turned sides f) f)) (view_of bounds pins)
      (cells_at (length sizes) + end_in (length sizes) (length pins) y.scratch f) (cells_of (length sizes) (length pins) y.scratch f) (set y.scratch f 1)
  pub room : NearVisits y.scanned.gains y.scanned.progress.visits
  pub fits : Fits (treat_from sizes bounds pins f sides y).scanned
  -- |A| and the cut after it
  pub shift : Shiftable sizes sides y.scanned.gains f y.scanned.progress
