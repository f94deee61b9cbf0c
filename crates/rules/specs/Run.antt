-- Document 01, "A run", and what a pass and a run answer and leave behind, refused or not. Assumes nothing.
use Rattle.std.specs.Prelude.{ℕ, zero, suc, Bool, true, false, cond, List, [], ◌∷◌, length, eqb}
use Rattle.rules.specs.declared.Verdict.{Verdict}
use Rattle.rules.specs.Numbers.{Figures}
use Rattle.rules.specs.Numbers.{RunFigures}
use Rattle.rules.specs.Lists.{total}
use Rattle.rules.specs.Job.{Job, Limits, recipes, Lent}
use Rattle.rules.specs.Split.{cut}
use Rattle.rules.specs.Check.{is_done, check_lent}
use Rattle.rules.specs.Pass.{Pass, pass_of, tries, leaves}
use Rattle.rules.specs.Fronts.{tries_by}

-- ---- the passes

-- a pass left the cut equal
abbrev pub settles : Pass → Bool
settles p = eqb p.cut_after p.cut_before

-- whoever chooses: `try` says what moves a pass tries, and this is the pass from these sides
abbrev pub pass_by : Job → (List ℕ → List ℕ) → List ℕ → Pass
pass_by job try sides = pass_of job sides (try sides)

-- passes follow one another until one leaves the cut equal, at most n of them
unfoldable pub passes_by : Job → (List ℕ → List ℕ) → ℕ → List ℕ → List Pass
passes_by job try zero sides = []
passes_by job try (suc n) sides =
    let p = pass_by job try sides in
    p ∷ elim (settles p) [ true ↦ [] | false ↦ passes_by job try n p.sides_after ]

-- the cap; with none, each pass that goes on lessens the cut, so one more than the starting cut is enough
unfoldable pub most_passes : Job → ℕ
most_passes job = cond (eqb job.cap 0) (suc (cut job.sides (recipes job))) job.cap

unfoldable pub passes : Job → (List ℕ → List ℕ) → List Pass
passes job try = passes_by job try (most_passes job) job.sides

-- the passes of a run
abbrev pub run : Job → List Pass
run job = passes job (tries job)

-- the last of the passes that begin with `first`
unfoldable pub last_of : Pass → List Pass → Pass
last_of first [] = first
last_of first (p ∷ ps) = last_of p ps

-- the last pass of a run
abbrev pub last_by : Job → (List ℕ → List ℕ) → Pass
last_by job try = last_of (pass_by job try job.sides) (passes job try)

-- by an edition of the choice (document 02, order 9): the first pass, the passes of the run, and the last of them
abbrev pub first_pass : ℕ → Job → Pass
first_pass edition job = pass_by job (tries_by edition job) job.sides

abbrev pub run_by : ℕ → Job → List Pass
run_by edition job = passes job (tries_by edition job)

abbrev pub last_pass : ℕ → Job → Pass
last_pass edition job = last_by job (tries_by edition job)

-- ---- the answers

-- counts are sums over the passes, but for what could not be read; the cut before is the first pass's; the cut and |A| after are the last pass's
unfoldable pub figures_of : Verdict → Pass → List Pass → Figures
figures_of v first ps =
    let l = last_of first ps in
    record {
      verdict = v;
      before = first.cut_before;
      cut = l.cut_after;
      size = l.size_after;
      tried = total (λ p. length p.tried) ps;
      kept = total (λ p. p.kept) ps;
      scans = total (λ p. length p.scanned) ps;
      visits = total (λ p. p.visited) ps;
      unread = first.unread;
      holding = first.holding;
    }

-- the number of passes; settled is yes exactly if the last pass left the cut equal
unfoldable pub run_figures_of : Verdict → Pass → List Pass → RunFigures
run_figures_of v first ps = record { figures = figures_of v first ps; passes = length ps; settled = settles (last_of first ps) }

-- all other numbers of a refused answer are 0
abbrev pub no_figures : Verdict → Figures
no_figures v = record {
  verdict = v;
  before = 0;
  cut = 0;
  size = 0;
  tried = 0;
  kept = 0;
  scans = 0;
  visits = 0;
  unread = 0;
  holding = 0;
}

abbrev pub no_run_figures : Verdict → RunFigures
no_run_figures v = record { figures = no_figures v; passes = 0; settled = false }

-- ---- what a call answers, and what the sides and the other lent lists then hold

pub record Ended (A : Type 0) : Type 0 where
  pub answer : A
  pub sides : List ℕ
  pub lent : Lent

-- of the answer and the lists of a call, for contracts
abbrev pub ended_of : {A : Type 0} → A → List ℕ → Lent → Ended A
ended_of a sides l = record { answer = a; sides = sides; lent = l }

-- the lists are the last pass's
abbrev pub left_by : {A : Type 0} → ℕ → Job → Lent → A → Pass → Ended A
left_by edition job l a p = record { answer = a; sides = p.sides_after; lent = leaves edition job l p }

-- no lent list changes
abbrev pub unchanged : {A : Type 0} → Job → Lent → A → Ended A
unchanged job l a = record { answer = a; sides = job.sides; lent = l }

-- by an edition of the choice; a pass is a run of one
unfoldable pub pass_ends : ℕ → Limits → Job → Lent → Ended Figures
pass_ends edition most job l =
    let v = check_lent edition most job l in
    let p = first_pass edition job in
    elim (is_done v) [ true ↦ left_by edition job l (figures_of v p (p ∷ [])) p | false ↦ unchanged job l (no_figures v) ]

unfoldable pub run_ends : ℕ → Limits → Job → Lent → Ended RunFigures
run_ends edition most job l =
    let v = check_lent edition most job l in
    elim (is_done v) [
      | true ↦ left_by edition job l (run_figures_of v (first_pass edition job) (run_by edition job)) (last_pass edition job)
      | false ↦ unchanged job l (no_run_figures v)
    ]
