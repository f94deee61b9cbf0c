-- Document 02, order 10: what `settled yes` means, a fact to a field. A line above each record names its proof and what that asks. Assumes nothing.
--
-- The reason is the same throughout. Of prefixes of equal cut a pass keeps the shortest, so a pass that left the cut equal kept nothing: what the last pass of a settled run started from is
-- what is returned. A run from there begins with that same pass, and so ends with it. Where the choice takes a greatest gain, the first move of that pass had the greatest gain of all legal
-- moves from the split returned, and it did not lessen the cut: so no legal move would. And every pass before the last lessened the cut.
use Rattle.std.specs.Prelude.{◌≡◌, ℕ, suc, ◌≤◌, ◌<◌, true, false, List, [], ◌∷◌, ◌++◌, length, get_or}
use Rattle.std.specs.Int.Signed.{lt_z}
use Rattle.rules.specs.Numbers.{RunFigures}
use Rattle.rules.specs.Job.{Job, limits_of, Limits, file_count, recipes, Lent, fits}
use Rattle.rules.specs.Split.{cut, gain, unread_files, unread_recipes, size_a}
use Rattle.rules.specs.Check.{done, check_job}
use Rattle.rules.specs.Move.{start, moved, legal}
use Rattle.rules.specs.Run.{settles, last_by, last_pass, Ended, run_ends}
use Rattle.rules.specs.Stored.{job_of}
use Rattle.rules.specs.Report.{line, first_lines, size_line, sides_line, all_run, prints}
use Rattle.rules.specs.Writing.{with_sides, resettles}
use Rattle.rules.specs.Theorems.{Sides}
use Rattle.rules.specs.FrontsWorked.{early}

-- ---- no single legal move lessens the cut

-- every file with mark 0 counts as free again
abbrev pub NoneLessens : Job → List ℕ → Type 0
NoneLessens job sides = (f : ℕ) → f < file_count job → legal job (start job sides) f ≡ true → cut sides (recipes job) ≤ cut (moved (start job sides) f).sides (recipes job)

-- a choice that takes a greatest gain: from whatever sides a pass may start, if any move is legal then one is tried, and no legal move has a greater gain than the first that is tried
-- (NoneLessens `tries-greatest`: edition 1 does so, of a sound job)
abbrev pub TakesGreatest : Job → (List ℕ → List ℕ) → Type 0
TakesGreatest job try = (sides : List ℕ) → Sides job sides → (f : ℕ) → f < file_count job → legal job (start job sides) f ≡ true
    → (1 ≤ length (try sides)) × (lt_z (gain sides (recipes job) (get_or (try sides) 0 0)) (gain sides (recipes job) f) ≡ false)

-- by any such choice a run that settled returns such sides (NoneLessens `settled-least`, of a sound job and a lawful try)
abbrev pub SettledLeast : Job → (List ℕ → List ℕ) → Type 0
SettledLeast job try = TakesGreatest job try → settles (last_by job try) ≡ true → NoneLessens job (last_by job try).sides_after

-- ---- the calls. The other two rest on what stands of any choice: a second run on `ResettledHoldsBy` in specs/RoundTrip.antt, the number of passes on `RunHoldsBy` in specs/Theorems.antt

-- a run, and a second run on its result
pub record SecondRun (first second : Ended RunFigures) : Type 0 where
  -- it makes one pass, keeps no move and returns the same sides
  pub one : second.answer.passes ≡ 1
  pub none : second.answer.figures.kept ≡ 0
  pub same : second.sides ≡ first.sides
  -- it is not refused and settles too; its cut is the one that the first left, before and after, and so is |A|
  pub passed : second.answer.figures.verdict ≡ done
  pub settled : second.answer.settled ≡ true
  pub before : second.answer.figures.before ≡ first.answer.figures.cut
  pub after : second.answer.figures.cut ≡ first.answer.figures.cut
  pub size : second.answer.figures.size ≡ first.answer.figures.size

-- what a run of this job by this edition answers and leaves, where it answers settled yes (SettledYes `settled-yes`, of any job and lent lists: all that meets the promise of `run` in crates/runs is such)
pub record SettledYes (edition : ℕ) (most : Limits) (job : Job) (first : Ended RunFigures) : Type 0 where
  -- the job passes the check
  pub passed : check_job most job ≡ done
  -- by edition 1 no single legal move lessens the cut
  pub least : edition ≡ 1 → NoneLessens job first.sides
  -- by either edition a second run on the result, lent any lists that fit, such as those that the first left
  pub again : (lent : Lent) (second : Ended RunFigures) → fits edition job lent ≡ true → second ≡ run_ends edition most (with_sides job first.sides) lent → SecondRun first second
  pub lists : fits edition job first.lent ≡ true
  -- and the passes were at most the starting cut plus one
  pub few : first.answer.passes ≤ suc first.answer.figures.before

-- why the first is not promised of edition 2 (SettledYes `not-by-fronts`): it stops where neither front is legal, though another move may be. `FrontsWorked` has a job and each step of it, from the
-- check on: its run by edition 2 answers settled yes, lent any lists that fit, and yet a single legal move lessens the cut
abbrev pub early_run : Lent → Ended RunFigures
early_run l = run_ends 2 (limits_of 4 3 6 7) early l

pub record NotByFronts (l : Lent) : Type 0 where
  pub settled : (early_run l).answer.settled ≡ true
  pub lessens : ¬ NoneLessens early (early_run l).sides

-- ---- what is printed

-- the report of a night that settled: its cut before and after, its passes, moves kept and visits. All other lines tell of the job's files and of these sides
unfoldable pub settled_report : Job → List ℕ → ℕ → ℕ → ℕ → ℕ → ℕ → List ℕ
settled_report job sides before after passes kept visits =
    first_lines (unread_files job) (unread_recipes job)
    ++ line "cut" (before ∷ after ∷ [])
    ++ size_line job (size_a job sides) sides
    ++ line "passes" (passes ∷ [])
    ++ line "settled yes" []
    ++ line "kept" (kept ∷ [])
    ++ line "visits" (visits ∷ [])
    ++ sides_line job sides

-- (SettledYes `second-night`, of an input that is read and whose run by this edition answers settled yes)
pub record SecondNight (edition : ℕ) (most : Limits) (input : List ℕ) : Type 0 where
  -- a night on it says so
  pub first : let e = all_run edition most (job_of input) in
      prints edition most input ≡ settled_report (job_of input) e.sides e.answer.figures.before e.answer.figures.cut e.answer.passes e.answer.figures.kept e.answer.figures.visits
  -- a night on what `resettle` wrote says `cut c c`, `passes 1`, `kept 0` and the same letters; its visits are the last pass's
  pub second : let e = all_run edition most (job_of input) in
      prints edition most (resettles edition most input).output ≡ settled_report (job_of input) e.sides e.answer.figures.cut e.answer.figures.cut 1 0 (last_pass edition (job_of input)).visited
  -- and `resettle` writes the same again
  pub same : resettles edition most (resettles edition most input).output ≡ resettles edition most input
