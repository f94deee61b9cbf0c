-- Document 02, order 10, of the call `run`: what an answer of settled yes is worth, and a second call with the sides that were left.
-- Any answer and lists that meet the promise will do; the promise cited is that which the check reads from the contract in src/. Assumes nothing.
use contract.Lifetimes.{Lfts}
use denote.Triple.Clauses.{AtExit}
use borrow.Fn.Kinds.{Dens, res_t, ended_of}
use Rattle.std.proofs.Common.{◌≡◌, ℕ, true, ap, ◌∙◌}
use Rattle.rules.specs.Numbers.{RunFigures}
use Rattle.rules.specs.Cases.{as_run_figures}
use Rattle.rules.specs.Job.{Job, Lent, fits}
use Rattle.rules.specs.Run.{Ended, run_ends}
use Rattle.rules.specs.Writing.{with_sides}
use Rattle.rules.specs.SettledYes.{SecondRun, SettledYes}
use Rattle.rules.proofs.SettledYes.{settled-yes}
use Rattle.job.specs.Given.{the_limits, the_job, contents}
use Rattle.runs.proofs.run.Kinds as kinds
use Rattle.runs.proofs.run.Reads as run

-- what a call is handed: the job, and the other lent lists
abbrev job_in : (κs : Lfts 4) → Dens κs kinds.ps → Job
job_in κs a = the_job a.1.0 a.1.1.0 a.1.1.1.0.now

abbrev lent_in : (κs : Lfts 4) → Dens κs kinds.ps → Lent
lent_in κs a = contents a.1.1.1.1.0.now

-- what it answers, and what it leaves
abbrev leaves : (κs : Lfts 4) → (res_t kinds.r κs).Denot → AtExit (ended_of 4 kinds.ps kinds.r) κs → Ended RunFigures
leaves κs x e = record { answer = as_run_figures x; sides = e.1.1.1.0.now; lent = contents e.1.1.1.1.0.now }

module _ (κs : Lfts 4) (a : Dens κs kinds.ps) (x : (res_t kinds.r κs).Denot) (e : AtExit (ended_of 4 kinds.ps kinds.r) κs)
    (met : run.Post κs a x e) (said : (as_run_figures x).settled ≡ true) where
  -- no single legal move lessens the cut, by edition 1; and the passes were at most the starting cut plus one
  pub run-settled-yes : SettledYes a.0 the_limits (job_in κs a) (leaves κs x e)
  run-settled-yes = settled-yes a.0 the_limits (job_in κs a) (lent_in κs a) (leaves κs x e) met.1 said

  -- a second call by the same edition, of the same job but with the sides left, and lent lists that fit: it makes one pass, keeps no move and leaves the same sides
  pub run-twice : (ks : Lfts 4) (b : Dens ks kinds.ps) (y : (res_t kinds.r ks).Denot) (f : AtExit (ended_of 4 kinds.ps kinds.r) ks) → run.Post ks b y f
      → b.0 ≡ a.0 → job_in ks b ≡ with_sides (job_in κs a) (leaves κs x e).sides → fits a.0 (job_in κs a) (lent_in ks b) ≡ true → SecondRun (leaves κs x e) (leaves ks y f)
  run-twice ks b y f again edition job fit =
      run-settled-yes.again (lent_in ks b) (leaves ks y f) fit
      (again.1 ∙ ap (λ (n : ℕ). run_ends n the_limits (job_in ks b) (lent_in ks b)) edition ∙ ap (λ (j : Job). run_ends a.0 the_limits j (lent_in ks b)) job)
