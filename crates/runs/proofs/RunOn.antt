-- A run as its steps have it: the first pass, a later one, and the end. Assumes nothing.
use Rattle.std.proofs.Common.{◌≡◌, ℕ, suc, ◌+◌, ◌-◌, ◌≤◌, ◌<◌, Bool, true, false, List, length, eqb, refl, sym, ap, subst, ◌∙◌, arith, add-one}
use native.Mathlib.Decide.{ℕ_discrete}
use Rattle.rules.specs.declared.Verdict.{Verdict}
use Rattle.rules.specs.declared.refusal.Refusal.{Refusal}
use Rattle.rules.specs.declared.Passed.{Passed}
use Rattle.rules.specs.declared.Ran.{Ran}
use Rattle.rules.specs.Numbers.{verdict_of, Figures, RunFigures}
use Rattle.rules.specs.Cases.{pass_numbers, run_numbers}
use Rattle.rules.specs.Job.{Job, Limits, recipes, Lent, fits}
use Rattle.rules.specs.Split.{cut}
use Rattle.rules.specs.Check.{done, check, check_edition, check_lent}
use Rattle.rules.specs.Pass.{Pass}
use Rattle.rules.specs.Run.{Ended, ended_of, run_by, figures_of, no_figures, no_run_figures, pass_ends, run_ends}
use Rattle.rules.specs.Theorems.{Accepted}
use Rattle.rules.specs.Writing.{with_sides}
use Rattle.rules.proofs.Exits.{not-done}
use Rattle.rules.proofs.FrontsProved.{editions-hold}
use Rattle.rules.proofs.OtherSides.{check-again}
use Rattle.rules.proofs.Proved.{accepted, lent-passes, answers}
use Rattle.rules.proofs.Refusals.{lent-chain}
use Rattle.rules.proofs.Verdicts.{zero_of, passes-both, both-pass}
use Rattle.split.specs.Playing.{pass_left}
use Rattle.tables.proofs.Accepted.{Narrow}
use Rattle.runs.specs.Running.{plus_of, follows, SumsFit, Running}
use Rattle.runs.proofs.PassAfterPass.{fits-alike}
use Rattle.runs.proofs.RunNow.{starts-there, alike-there, follows-there, runs-first, runs-more, runs_last, sums-fit}

figures-done : (first : Pass) (ps : List Pass) → (figures_of done first ps).verdict.number ≡ 0
unfolding figures_of
figures-done first ps = refl

-- what the sums are
pub running-of : {edition : ℕ} {job : Job} {l lent : Lent} {sides : List ℕ} {s : Ran} {t : RunFigures} → run_numbers s ≡ t
    → Running edition job l t.passes t.figures t.settled sides lent
    → Running edition job l s.passes (pass_numbers s.figures) s.settled sides lent
running-of {edition} {job} {l} {lent} {sides} e r = subst (λ (x : RunFigures). Running edition job l x.passes x.figures x.settled sides lent) (sym e) r

module _ (edition : ℕ) (most : Limits) (job : Job) (l : Lent) where
  -- the check of a job, at its first pass
  abbrev verdict : Verdict
  verdict = check_lent edition most job l

  job_is : verdict.number ≡ 0 → Accepted most job
  job_is z = accepted most job (fits edition job l) (lent-passes edition most job l z).1

  -- ---- the first pass

  -- where it is refused, so is the run
  pub first-refused : (r : Refusal) {sides : List ℕ} {lent : Lent} → ended_of (no_figures (verdict_of r)) sides lent ≡ pass_ends edition most job l
      → ended_of (no_run_figures (verdict_of r)) sides lent ≡ run_ends edition most job l
  first-refused r p =
      let run : Ended Figures → Ended RunFigures = λ x. ended_of (no_run_figures x.answer.verdict) x.sides x.lent in
      elim (ℕ_discrete verdict.number 0) [
        | yes z ↦ absurd (not-done r (ap (λ (x : Ended Figures). x.answer.verdict.number) (p ∙ (answers edition most job l).pass_done z) ∙ figures-done _ _))
        | no n ↦ ap run (p ∙ (answers edition most job l).pass_refused n) ∙ sym ((answers edition most job l).run_refused n)
      ]

  pub first-made : (f : Passed) (sides : List ℕ) (lent : Lent) → ended_of (pass_numbers f) sides lent ≡ pass_ends edition most job l
      → (verdict.number ≡ 0) × Running edition job l 1 (pass_numbers f) (eqb f.cut f.before) sides lent
  first-made f sides lent p = elim (ℕ_discrete verdict.number 0) [
    | yes z ↦ (z, runs-first edition (job_is z) l (pass_numbers f) sides lent (p ∙ (answers edition most job l).pass_done z))
    | no n ↦ absurd (n (sym (ap (λ (x : Ended Figures). x.answer.verdict.number) (p ∙ (answers edition most job l).pass_refused n))))
  ]

  module _ (z : verdict.number ≡ 0) {k : ℕ} {sum : Figures} {settled : Bool} {sides : List ℕ} {lent : Lent} (r : Running edition job l k sum settled sides lent) where
    -- ---- a later pass

    module _ (go : follows job.cap k settled ≡ true) {f : Figures} {sides' : List ℕ} {lent' : Lent}
        (p : ended_of f sides' lent' ≡ pass_ends edition most (with_sides job sides) lent) where
      -- the job from the sides as they stand passes its check again
      passes-again : (check_lent edition most (with_sides job sides) lent).number ≡ 0
      passes-again =
          let t = starts-there edition (job_is z) l r in
          let ok : fits edition job l ≡ true = ((answers edition most job l).fitting z).1 in
          let fit : fits edition job lent ≡ true = fits-alike edition (alike-there edition (job_is z) l ok r) ∙ ok in
          let b = passes-both (check_edition edition) (check most job (fits edition job l)) (zero_of (lent-chain edition most job l) z) in
          let again : (check most (with_sides job sides) (fits edition (with_sides job sides) lent)).number ≡ 0
          = rw fit (ap (λ (v : Verdict). v.number) (check-again job sides most (fits edition job l) b.1 t.fit t.balanced)) in
          ap (λ (v : Verdict). v.number) (lent-chain edition most (with_sides job sides) lent)
          ∙ both-pass (check_edition edition) (check most (with_sides job sides) (fits edition (with_sides job sides) lent)) b.0 again

      pass-left : ended_of f sides' lent' ≡ pass_left edition (with_sides job sides) lent
      pass-left = p ∙ (answers edition most (with_sides job sides) lent).pass_done passes-again

      -- it is not refused
      pub later-done : f.verdict.number ≡ 0
      later-done = ap (λ (x : Ended Figures). x.answer.verdict.number) pass-left ∙ figures-done _ _

      pub later-made : Running edition job l (k + 1) (plus_of sum f) (eqb f.cut f.before) sides' lent'
      later-made = rw add-one (runs-more edition (job_is z) l r go f sides' lent' pass-left)

      -- what is added up fits
      pub later-fits : Narrow most → SumsFit (plus_of sum f) × (k ≤ 65536)
      later-fits narrow = let u = sums-fit edition (job_is z) l narrow later-made in (u.0, omega (arith, u.1))

      -- and fewer passes are left
      pub later-less : suc (cut job.sides (recipes job)) - (k + 1) < suc (cut job.sides (recipes job)) - k
      later-less =
          let h : k < length (run_by edition job) = follows-there edition (job_is z) l k r.some r.few (rw (← r.equal) go) in
          omega (arith, ((editions-hold most job (job_is z).sound).run edition).few)

    -- ---- after the last pass

    pub run-ended : follows job.cap k settled ≡ false → ended_of (record { figures = sum; passes = k; settled = settled }) sides lent ≡ run_ends edition most job l
    run-ended go = runs_last edition (job_is z) l r go ∙ sym ((answers edition most job l).run_done z)
