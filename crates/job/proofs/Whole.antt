-- What the steps found, put together into the answers of the public calls. Assumes nothing.
use mathlib.Core.Path.{◌≡◌, refl, sym, ap, ap₂, ◌∙◌}
use Prim.Native.Nat.{ℕ, ◌*◌}
use mathlib.Core.Bool.{Bool, true, false, not, ◌&&◌, ◌||◌}
use mathlib.Core.List.{List}
use denote.Bor.{Bor}
use lib.Dec.{eqb}
use lib.ListN.{length}
use borrow.Author.Tests.{eq-eqb, ne_eqb}
use native.Mathlib.Omega.{arith}
use Rattle.std.specs.Prelude.{Ok, Err}
use Rattle.rules.specs.declared.Verdict.{Verdict}
use Rattle.rules.specs.declared.refusal.Refusal.{Refusal}
use Rattle.rules.specs.Numbers.{verdict_of}
use Rattle.rules.specs.Cases.{as_measure}
use Rattle.rules.specs.Job.{Job, Limits, views, read_in, recipes, files, file_count}
use Rattle.rules.specs.Split.{cut, unread_files, unread_recipes, weight, smax, size_on, size_a, tolerance, large_enough, small_enough, balanced}
use Rattle.rules.specs.Check.{done, is_done, refuse_if, ◌or_else◌, bad_pin, check_ratio, check_free, check_window, check_start, check_sound, check_goal, measure}
use Rattle.rules.specs.Balance.{too_large, too_small, least_a, most_a, none_balanced}
use Rattle.rules.proofs.Exits.{not-done}
use Rattle.rules.proofs.Unread.{none-holding}
use Rattle.rules.proofs.Verdicts.{or_assoc, or-three}
use Rattle.rules.proofs.Refusals.{check-chain, goal-chain}
use Rattle.rules.proofs.Balancing.{before-chain, balance-chain}
use Rattle.job.specs.declared.Job.{Job as Figures}
use Rattle.job.specs.declared.figures.Totals.{Totals}
use Rattle.job.specs.declared.book.Book.{Book}
use Rattle.job.specs.declared.placed.Placed.{Placed}
use Rattle.job.specs.declared.weighed.Weighed.{Weighed}
use Rattle.job.specs.Given.{the_job, the_files, the_marked}
use Rattle.job.specs.Parts.{of_lists, of_figures}
use Rattle.job.specs.Totals.{totals_of, reaches, may_empty_by, Has, start_for}
use Rattle.job.specs.Survey.{check_for, survey_of, as_survey}

-- 1 to 6 ask for no ratio and no cap
pub lists-only : (most : Limits) (job : Job) (lent : Bool)
    → check_sound most (of_lists job.sizes job.sides job.marks job.bounds job.pins) lent ≡ check_sound most job lent
unfolding bad_pin check_sound
lists-only most job lent = refl

-- whether a check is done, by what it answered
told-no : (r : Refusal) {v : Verdict} → verdict_of r ≡ v → is_done v ≡ false
told-no r {v} e = ne_eqb v.number 0 (λ z. not-done r (ap (λ (y : Verdict). y.number) e ∙ z))

told-yes : {v : Verdict} → done ≡ v → is_done v ≡ true
told-yes {v} e = eq-eqb v.number 0 (sym (ap (λ (y : Verdict). y.number) e))

-- the check as one chain, whosever its 9
pub start-last : (balancing : Bool) (most : Limits) (job : Job) (lent : Bool)
    → check_for balancing most job lent ≡ (check_sound most job lent or_else check_goal most job or_else start_for balancing job)
start-last true most job lent = balance-chain most job lent ∙ ap (λ (v : Verdict). v or_else refuse_if (none_balanced job) 9 0) (before-chain most job lent) ∙ or_assoc (check_sound most job lent) (check_goal most job) (refuse_if (none_balanced job) 9 0)
start-last false most job lent = check-chain most job lent

not-both : (a b : Bool) → not (a && b) ≡ (not b || not a)
not-both true true = refl
not-both true false = refl
not-both false true = refl
not-both false false = refl

-- ---- from the totals of all files

size_is : (job : Job) (t : Totals) → t ≡ totals_of job (file_count job) → t.size ≡ size_a job job.sides
unfolding totals_of size_on files
size_is job t p = ap (λ (u : Totals). u.size) p

unread-is : (job : Job) (t : Totals) → t ≡ totals_of job (file_count job) → t.unread ≡ unread_files job
unfolding totals_of unread_files files
unread-is job t p = ap (λ (u : Totals). u.unread) p

abbrev figures_of : Job → Figures
figures_of job = record { num = job.num; den = job.den; cap = job.cap; k = job.k }

module _ {job : Job} {figures : Figures} {t : Totals} (has : Has job figures t) where
  pub ratio-is : (most : Limits) → check_ratio most (of_figures figures) ≡ check_ratio most job
  unfolding check_ratio
  ratio-is most = sym (ap (check_ratio most) has.job_is)

  pub free-is : refuse_if (eqb t.free 0) 8 0 ≡ check_free job
  unfolding totals_of files check_free
  free-is = ap (λ (u : Totals). refuse_if (eqb u.free 0) 8 0) has.totals

  pub empties-is : refuse_if (may_empty_by figures t) 10 0 ≡ check_window job
  unfolding totals_of weight smax files check_window
  empties-is =
      ap (λ (j : Job). refuse_if (may_empty_by (figures_of j) t) 10 0) (sym has.job_is) ∙ ap (λ (u : Totals). refuse_if (may_empty_by (figures_of job) u) 10 0) has.totals

  -- the test of 9, of this least and most
  reaches-is : (least most : Totals → ℕ)
      → reaches figures t (least t) (most t) ≡ reaches (figures_of job) (totals_of job (file_count job)) (least (totals_of job (file_count job))) (most (totals_of job (file_count job)))
  reaches-is least most =
      ap (λ (j : Job). reaches (figures_of j) t (least t) (most t)) (sym has.job_is) ∙ ap (λ (u : Totals). reaches (figures_of job) u (least u) (most u)) has.totals

  pub start_is : refuse_if (not (reaches figures t t.size t.size)) 9 0 ≡ check_start job
  unfolding totals_of weight smax size_on files balanced check_start
  start_is = ap (λ (b : Bool). refuse_if (not b) 9 0) (reaches-is (λ u. u.size) (λ u. u.size))

  pub possible-is : refuse_if (not (reaches figures t t.least t.most)) 9 0 ≡ refuse_if (none_balanced job) 9 0
  unfolding totals_of weight smax least_a most_a files too_large too_small none_balanced
  possible-is =
      ap (λ (b : Bool). refuse_if b 9 0)
      (ap not (reaches-is (λ u. u.least) (λ u. u.most))
      ∙ not-both (large_enough job.num job.den (weight job) (tolerance job) (most_a job)) (small_enough job.num job.den (weight job) (tolerance job) (least_a job)))

  -- 7, 8, 10 and 9 in this order
  pub rest-is : (balancing : Bool) (most : Limits)
      → (check_ratio most (of_figures figures) or_else refuse_if (eqb t.free 0) 8 0 or_else refuse_if (may_empty_by figures t) 10 0 or_else start_for balancing job)
      ≡ (check_goal most job or_else start_for balancing job)
  rest-is balancing most =
      let last = start_for balancing job in
      ap (λ (v : Verdict). v or_else refuse_if (eqb t.free 0) 8 0 or_else refuse_if (may_empty_by figures t) 10 0 or_else last) (ratio-is most)
      ∙ ap (λ (v : Verdict). check_ratio most job or_else v or_else refuse_if (may_empty_by figures t) 10 0 or_else last) free-is
      ∙ ap (λ (v : Verdict). check_ratio most job or_else check_free job or_else v or_else last) empties-is
      ∙ sym (or-three (check_ratio most job) (check_free job) (check_window job) last)
      ∙ ap (λ (v : Verdict). v or_else last) (sym (goal-chain most job))

-- a job whose files are placed and weighed has the totals found
pub placed-totals : (figures : Figures) (book : Book) (sides : Bor (List ℕ)) (p : Placed) {t : Totals} → p.book ≡ book → p.sides ≡ sides
    → t ≡ totals_of (the_files p.book p.sides.now) (length p.book.files.sizes.now)
    → let job = the_job figures book sides.now in t ≡ totals_of job (file_count job)
unfolding totals_of
placed-totals figures book sides p f s e =
    e ∙ ap₂ (λ (x : Book) (y : Bor (List ℕ)). totals_of (the_files x y.now) (length x.files.sizes.now)) f s

pub placed-has : (figures : Figures) (book : Book) (sides : Bor (List ℕ)) (p : Placed) (w : Weighed) → p.book ≡ book → p.sides ≡ sides → w.job ≡ figures
    → w.totals ≡ totals_of (the_files p.book p.sides.now) (length p.book.files.sizes.now) → Has (the_job figures book sides.now) w.job w.totals
placed-has figures book sides p w f s j e = record { job_is = rw j refl; totals = placed-totals figures book sides p f s e }

-- and its cut is theirs
pub placed-cut : (figures : Figures) (book : Book) (sides : Bor (List ℕ)) (p : Placed) {n : ℕ} → p.book ≡ book → p.sides ≡ sides
    → n ≡ cut p.sides.now (recipes (the_marked p.book)) → n ≡ cut sides.now (recipes (the_job figures book sides.now))
unfolding recipes read_in views
placed-cut figures book sides p b s e = e ∙ ap₂ (λ (x : Book) (y : Bor (List ℕ)). cut y.now (recipes (the_marked x))) b s

-- where no file of it is unread, no recipe holds one
pub none-unread : (book : Book) (p : Placed) {t : Totals} → p.book ≡ book → t ≡ totals_of (the_files p.book p.sides.now) (length p.book.files.sizes.now)
    → t.unread ≡ 0 → unread_recipes (the_marked book) ≡ 0
unfolding totals_of
none-unread book p f e z =
    rw (← f) (none-holding (the_marked p.book) (length p.book.files.sizes.now) (omega (arith, p.marks_long)) (sym (ap (λ (y : Totals). y.unread) e) ∙ z))

-- ---- the measure and the survey

module _ (most : Limits) (job : Job) where
  pub measure-refused : (r : Refusal) → verdict_of r ≡ check_sound most job true → as_measure (Err r) ≡ measure most job
  unfolding measure
  measure-refused r e = rw (e, told-no r e, measure)

  pub measure-done : {x h : ℕ} {t : Totals} → done ≡ check_sound most job true → x ≡ cut job.sides (recipes job) → h ≡ unread_recipes job → t ≡ totals_of job (file_count job)
      → as_measure (Ok (record { cut = x; size = t.size; unread = t.unread; holding = h })) ≡ measure most job
  unfolding measure
  measure-done {t = t} e p r q = rw (e, p, r, size_is job t q, unread-is job t q, told-yes e, measure)

  module _ (balancing lent : Bool) where
    pub survey-refused : (r : Refusal) → verdict_of r ≡ (check_sound most job lent or_else check_goal most job or_else start_for balancing job)
        → as_survey (Err r) ≡ survey_of balancing most job lent
    unfolding survey_of
    survey-refused r e = let f = e ∙ sym (start-last balancing most job lent) in rw (f, told-no r f, survey_of)

    pub survey-done : {m x h : ℕ} {t : Totals} → done ≡ (check_sound most job lent or_else check_goal most job or_else start_for balancing job)
        → m ≡ job.k * t.largest → x ≡ cut job.sides (recipes job) → h ≡ unread_recipes job → t ≡ totals_of job (file_count job)
        → as_survey (Ok (record { weight = t.weight; tolerance = m; size = t.size; cut = x; unread = t.unread; holding = h })) ≡ survey_of balancing most job lent
    unfolding survey_of totals_of weight smax size_on unread_files files
    survey-done e s p r q = let f = e ∙ sym (start-last balancing most job lent) in rw (f, s, p, r, q, told-yes f, survey_of)
