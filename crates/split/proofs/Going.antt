-- A job after the first k of some moves, whoever chose them: what the lists, the scratch and the record in progress then hold. Assumes nothing.
use mathlib.Core.Path.{◌≡◌, sym, ap, ◌∙◌}
use Prim.Native.Nat.{ℕ, ◌+◌, ◌-◌, ◌≤◌}
use native.Mathlib.Omega.{arith}
use mathlib.Core.List.{List, map}
use lib.ListN.{length, take, drop}
use lib.Seq.{drop-drop}
use Rattle.rules.specs.Lists.{onto}
use Rattle.rules.specs.Job.{Job, Limits, file_count, recipe_count, pin_count, views, recipes, Lent}
use Rattle.rules.specs.Split.{cut, size_a}
use Rattle.rules.specs.Move.{State, start, after, Frees, scans, ends_from, visits}
use Rattle.rules.specs.Pass.{gains_when, cuts_after, cut_at, keeps, start_gains}
use Rattle.rules.specs.Theorems.{Sound}
use Rattle.rules.proofs.GainKept.{kept_up}
use Rattle.split.specs.declared.progress.Progress.{Progress}
use Rattle.tables.specs.Zones.{counts_at, Cells, Counts}
use Rattle.split.specs.Moving.{Board}
use Rattle.split.specs.Links.{links_at}

-- where the counts end, and edition 2's links begin
abbrev pub links_from : Job → ℕ
links_from job = links_at (file_count job) (recipe_count job) (pin_count job)

-- where the moves begin, the first k of them, and the state after those
abbrev pub begins : Job → State
begins job = start job job.sides

abbrev pub made : List ℕ → ℕ → List ℕ
made ms k = take k ms

abbrev pub stands : Job → List ℕ → ℕ → State
stands job ms k = after (begins job) (made ms k)

-- a sound job, and moves from its sides, each of a file then free
pub record Line (job : Job) (ms : List ℕ) : Type 0 where
  pub most : Limits
  pub sound : Sound most job
  pub frees : Frees (begins job) ms

pub record InProgress (job : Job) (ms : List ℕ) (k : ℕ) (p : Progress) : Type 0 where
  pub size : p.size ≡ size_a job (stands job ms k).sides
  pub cut_now : p.cut ≡ cut (stands job ms k).sides (recipes job)
  pub moves : p.moves ≡ k
  pub best : p.best ≡ keeps (recipes job) (begins job) (made ms k)
  pub least : p.least ≡ cut_at (recipes job) (begins job) (made ms k) p.best
  pub atbest : p.atbest ≡ size_a job (stands job ms p.best).sides
  pub scanned : p.scans ≡ length (scans (recipes job) (begins job) (made ms k))
  pub visited : p.visits ≡ visits (views job) (scans (recipes job) (begins job) (made ms k))

pub record Going (job : Job) (ms : List ℕ) (l : Lent) (k : ℕ) (b : Board) : Type 0 where
  pub few : k ≤ length ms
  pub sides : b.sides ≡ (stands job ms k).sides
  -- the scratch: cells and counts stand in it, and the locks are the state's
  pub locks : take (file_count job) b.rest.scratch ≡ (stands job ms k).locks
  pub cells : Cells (recipes job) (file_count job) (pin_count job) b.rest.scratch
  pub counts : Counts (recipes job) (stands job ms k) (counts_at (file_count job) (pin_count job)) (recipe_count job) b.rest.scratch
  pub long : length b.rest.scratch ≡ length l.scratch
  -- the gains are kept up by the scans listed
  pub gains : b.rest.scanned.gains ≡ kept_up (recipes job) (begins job) (made ms k) (start_gains (recipes job) (file_count job) (begins job))
  -- the lists so far, and further entries as they were
  pub tried : b.tried ≡ onto (made ms k) l.tried
  pub gained : b.gained ≡ onto (gains_when (recipes job) (begins job) (made ms k)) l.gained
  pub cuts : b.cuts ≡ onto (cuts_after (recipes job) (begins job) (made ms k)) l.cuts
  pub scans_so_far : b.ends ≡ onto (ends_from (recipes job) 0 (begins job) (made ms k)) l.ends
  pub scanned_recipes : b.rest.scanned.recipes ≡ onto (map (λ s. s.recipe) (scans (recipes job) (begins job) (made ms k))) l.recipes
  pub scanned_kinds : b.rest.scanned.kinds ≡ onto (map (λ s. s.kind) (scans (recipes job) (begins job) (made ms k))) l.kinds
  pub progress : InProgress job ms k b.rest.scanned.progress

-- what lies beyond the counts is the same, so what lies beyond more numbers is
pub beyond-more : (job : Job) (n : ℕ) (x y : List ℕ) → links_from job ≤ n → drop (links_from job) x ≡ drop (links_from job) y → drop n x ≡ drop n y
beyond-more job n x y h e =
    let m : ℕ = links_from job in
    let r : m + (n - m) ≡ n = omega arith in
    ap (λ (i : ℕ). drop i x) (sym r) ∙ sym (drop-drop (n - m) m x) ∙ ap (drop (n - m)) e ∙ drop-drop (n - m) m y ∙ ap (λ (i : ℕ). drop i y) r
