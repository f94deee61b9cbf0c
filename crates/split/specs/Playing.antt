-- One pass whole, and the figures told at its end and at that of the balancing. Assumes nothing.
use Rattle.std.specs.Prelude.{ℕ, ℤ, cond, eqb, List, [], ◌∷◌, length}
use Rattle.rules.specs.Numbers.{Figures, BalanceFigures}
use Rattle.rules.specs.Job.{Job, Lent}
use Rattle.rules.specs.Check.{done}
use Rattle.rules.specs.Run.{Ended, first_pass, figures_of, left_by}
use Rattle.choice.specs.declared.window.Window.{Window}
use Rattle.choice.specs.Heavy.{heavy_in, greatest_file}
use Rattle.split.specs.declared.progress.Progress.{Progress}

-- one pass by an edition of a job that is not refused: its figures, and what it leaves
abbrev pub pass_left : ℕ → Job → Lent → Ended Figures
pass_left edition job l = left_by edition job l (figures_of done (first_pass edition job) (first_pass edition job ∷ [])) (first_pass edition job)

-- the figures of a pass from its record, the cut before, and what could not be read
abbrev pub figures_from : ℕ → ℕ → ℕ → Progress → Figures
figures_from before unread holding q = record {
  verdict = done;
  before = before;
  cut = q.least;
  size = q.atbest;
  tried = q.moves;
  kept = q.best;
  scans = q.scans;
  visits = q.visits;
  unread = unread;
  holding = holding;
}

-- the answer of the balancing from its record, and what could not be read
abbrev pub balanced_from : ℕ → ℕ → Progress → BalanceFigures
balanced_from unread holding q = record { verdict = done; moves = q.moves; cut = q.cut; size = q.size; unread = unread; holding = holding }

-- the file that the balancing moves: of the vault that is too large; the number of files where neither is, or it has no free file
abbrev pub heavy_file : Window → ℕ → List ℕ → List ℕ → List ℤ → ℕ
heavy_file w size sides scratch gains =
    let side = heavy_in w size in
    cond (eqb side 2) (length sides) (greatest_file side sides scratch gains)
