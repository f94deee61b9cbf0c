-- A run by an edition of the choice after its first k passes: the sums so far, and what the lists then hold. Assumes nothing.
use Rattle.std.specs.Prelude.{◌≡◌, ℕ, ◌+◌, ◌≤◌, ◌<◌, ◌^◌, Bool, not, ◌&&◌, ◌||◌, List, length, take, ltb, eqb}
use Rattle.rules.specs.Numbers.{Figures}
use Rattle.rules.specs.Numbers.{RunFigures}
use Rattle.rules.specs.Job.{Job, Lent}
use Rattle.rules.specs.Check.{done}
use Rattle.rules.specs.Pass.{Pass, leaves}
use Rattle.rules.specs.Run.{settles, first_pass, run_by, last_pass, last_of, figures_of, run_figures_of, left_by, Ended}

-- ---- the answer so far

-- counts are sums over the passes, but for what could not be read; the cut before is the first pass's; the cut and |A| after are the last pass's
unfoldable pub plus_of : Figures → Figures → Figures
plus_of sum f = record {
  verdict = sum.verdict;
  before = sum.before;
  cut = f.cut;
  size = f.size;
  tried = sum.tried + f.tried;
  kept = sum.kept + f.kept;
  scans = sum.scans + f.scans;
  visits = sum.visits + f.visits;
  unread = sum.unread;
  holding = sum.holding;
}

-- after the first pass
abbrev pub after_first : Figures → RunFigures
after_first f = record { figures = f; passes = 1; settled = eqb f.cut f.before }

-- with one pass more
abbrev pub after_more : RunFigures → Figures → RunFigures
after_more sum f = record { figures = plus_of sum.figures f; passes = sum.passes + 1; settled = eqb f.cut f.before }

-- another pass follows: the last did not leave the cut equal, and the cap is not reached
abbrev pub follows : ℕ → ℕ → Bool → Bool
follows cap passes settled = not settled && (eqb cap 0 || ltb passes cap)

-- the sums can be added up
pub record SumsFit (sum : Figures) : Type 0 where
  pub tried : sum.tried < 2 ^ 63
  pub kept : sum.kept < 2 ^ 63
  pub scans : sum.scans < 2 ^ 63
  pub visits : sum.visits < 2 ^ 63

-- ---- what it stands for

-- the last of the first k passes
abbrev pub last_at : ℕ → Job → ℕ → Pass
last_at edition job k = last_of (first_pass edition job) (take k (run_by edition job))

-- after the first k passes
pub record Running (edition : ℕ) (job : Job) (l : Lent) (k : ℕ) (sum : Figures) (settled : Bool) (sides : List ℕ) (lent : Lent) : Type 0 where
  pub some : 1 ≤ k
  pub few : k ≤ length (run_by edition job)
  pub sums : sum ≡ figures_of done (first_pass edition job) (take k (run_by edition job))
  pub equal : settled ≡ settles (last_at edition job k)
  pub standing : sides ≡ (last_at edition job k).sides_after
  pub lists : lent ≡ leaves edition job l (last_at edition job k)

-- the run of a job that is not refused: its figures, and what it leaves
abbrev pub run_left : ℕ → Job → Lent → Ended RunFigures
run_left edition job l = left_by edition job l (run_figures_of done (first_pass edition job) (run_by edition job)) (last_pass edition job)
