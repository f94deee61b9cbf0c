-- What stands before the first move, and what the code of one move leaves. Assumes nothing.
use mathlib.Core.Path.{◌≡◌}
use Prim.Native.Nat.{ℕ, suc}
use mathlib.Core.List.{List, map}
use lib.ListN.{length, get_or, take, drop}
use lib.IntN.{pos}
use Rattle.rules.specs.Lists.{onto}
use Rattle.rules.specs.Job.{Job, file_count, recipe_count, pin_count, views, recipes, Lent}
use Rattle.rules.specs.Split.{side_of, cut, size_of, size_a}
use Rattle.rules.specs.Move.{scans, visits}
use Rattle.rules.specs.Pass.{start_gains}
use Rattle.rules.proofs.GainKept.{gains_scanned}
use Rattle.split.specs.declared.progress.Progress.{Progress}
use Rattle.tables.specs.Zones.{counts_at, Cells, Counts}
use Rattle.split.specs.Scanning.{Treated}
use Rattle.choice.specs.Choosing.{size_by}
use Rattle.split.specs.Moving.{Board, begun, cut_by}
use Rattle.split.proofs.Going.{links_from, begins, made, stands}

-- no move yet: cells and counts are built, the gains are the starting ones, and the lists are as lent
pub record Begun (job : Job) (l : Lent) (b : Board) : Type 0 where
  pub sides : b.sides ≡ job.sides
  pub locks : take (file_count job) b.rest.scratch ≡ job.marks
  pub cells : Cells (recipes job) (file_count job) (pin_count job) b.rest.scratch
  pub counts : Counts (recipes job) (begins job) (counts_at (file_count job) (pin_count job)) (recipe_count job) b.rest.scratch
  pub long : length b.rest.scratch ≡ length l.scratch
  pub gains : b.rest.scanned.gains ≡ start_gains (recipes job) (file_count job) (begins job)
  pub tried : b.tried ≡ l.tried
  pub gained : b.gained ≡ l.gained
  pub cuts : b.cuts ≡ l.cuts
  pub scans_so_far : b.ends ≡ l.ends
  pub scanned_recipes : b.rest.scanned.recipes ≡ l.recipes
  pub scanned_kinds : b.rest.scanned.kinds ≡ l.kinds
  pub progress : b.rest.scanned.progress ≡ begun (size_a job job.sides) (cut job.sides (recipes job))

-- what the progress is once the recipes of move k, of the file f, are treated: |A|, the cut, the scans and the visits are new
pub record Shifted (job : Job) (ms : List ℕ) (k f : ℕ) (b : Board) (q : Progress) : Type 0 where
  pub size : q.size ≡ size_by b.rest.scanned.progress.size (side_of b.sides f) (size_of job f)
  pub cut_now : q.cut ≡ cut_by b.rest.scanned.progress.cut (get_or b.rest.scanned.gains f (pos 0))
  pub moves : q.moves ≡ b.rest.scanned.progress.moves
  pub best : q.best ≡ b.rest.scanned.progress.best
  pub least : q.least ≡ b.rest.scanned.progress.least
  pub atbest : q.atbest ≡ b.rest.scanned.progress.atbest
  pub scanned : q.scans ≡ length (scans (recipes job) (begins job) (made ms (suc k)))
  pub visited : q.visits ≡ visits (views job) (scans (recipes job) (begins job) (made ms (suc k)))

-- what treating the recipes of move k, of the file f, leaves of the board b
pub record MoveTreated (job : Job) (ms : List ℕ) (l : Lent) (k f : ℕ) (b : Board) (y : Treated) : Type 0 where
  pub locks : take (file_count job) y.scratch ≡ (stands job ms (suc k)).locks
  pub cells : Cells (recipes job) (file_count job) (pin_count job) y.scratch
  pub counts : Counts (recipes job) (stands job ms (suc k)) (counts_at (file_count job) (pin_count job)) (recipe_count job) y.scratch
  pub long : length y.scratch ≡ length b.rest.scratch
  pub beyond : drop (links_from job) y.scratch ≡ drop (links_from job) b.rest.scratch
  pub gains : y.scanned.gains ≡ gains_scanned (recipes job) (stands job ms k) f b.rest.scanned.gains
  pub scanned_recipes : y.scanned.recipes ≡ onto (map (λ s. s.recipe) (scans (recipes job) (begins job) (made ms (suc k)))) l.recipes
  pub scanned_kinds : y.scanned.kinds ≡ onto (map (λ s. s.kind) (scans (recipes job) (begins job) (made ms (suc k)))) l.kinds
  pub progress : Shifted job ms k f b y.scanned.progress
