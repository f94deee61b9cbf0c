-- What the calls and the programs do on the result of a settled run: the theorems of specs/SettledYes.antt. Assumes nothing.
use mathlib.Core.Path.{◌≡◌, refl, sym, ap, subst, ◌∙◌}
use Prim.Native.Nat.{ℕ, ◌+◌, ◌*◌}
use mathlib.Core.Bool.{Bool, true, ◌&&◌}
use mathlib.Core.List.{List, [], ◌∷◌}
use native.Mathlib.Decide.{ℕ_discrete}
use native.Mathlib.Nat.{add-zero}
use native.Mathlib.Omega.{arith}
use lib.Dec.{leb, eqb}
use lib.ListN.{length, get_or}
use borrow.Author.Tests.{eqb-true, eq-eqb}
use Rattle.rules.specs.declared.Verdict.{Verdict}
use Rattle.rules.specs.Numbers.{RunFigures}
use Rattle.rules.specs.Lists.{total, count, those, largest, up_to, best_up_to, diff}
use Rattle.rules.specs.Job.{Job, Limits, limits_of, file_count, recipe_count, view_of, files, views, read_in, recipes, Lent, scratch_for, fits}
use Rattle.rules.specs.Split.{count_on, is_cut, cut, times, alone, together, gain, unread_files, unread_recipes, weight, smax, size_on, size_a, balanced}
use Rattle.rules.specs.Check.{done, check, check_job, is_edition, check_edition, check_lent}
use Rattle.rules.specs.Move.{moved, steps_by, size_after, legal, moves_by}
use Rattle.rules.specs.Pass.{keeps, Pass, pass_of, tries, leaves}
use Rattle.rules.specs.Fronts.{entered_first, front_below, front_of, choose_front, front_tries, tries_by}
use Rattle.rules.specs.Run.{settles, passes_by, most_passes, passes, last_of, first_pass, run_by, last_pass, figures_of, run_figures_of, Ended, left_by, run_ends}
use Rattle.rules.specs.Stored.{job_of, read_verdict}
use Rattle.rules.specs.Report.{size_line, sides_line, figure_lines, report, all_room, all_lent, all_run, prints}
use Rattle.rules.specs.Writing.{blocks_of, with_sides, resettles}
use Rattle.rules.specs.RoundTrip.{resettled, ResettledHolds, HandsBack}
use Rattle.rules.specs.Theorems.{Sound, Left, RunHoldsBy, Answers}
use Rattle.rules.specs.FrontsWorked.{early}
use Rattle.rules.specs.SettledYes.{NoneLessens, SecondRun, SettledYes, early_run, NotByFronts, settled_report, SecondNight}
use Rattle.rules.proofs.Tests.{clash}
use Rattle.rules.proofs.Fits.{long-enough}
use Rattle.rules.proofs.Runs.{pass-from, pass-unread}
use Rattle.rules.proofs.Refusals.{lent-chain}
use Rattle.rules.proofs.Proved.{accepted, left, tries-lawful, plain-check, lent-passes, answers}
use Rattle.rules.proofs.OtherSides.{same-leaves}
use Rattle.rules.proofs.FrontsProved.{editions-hold}
use Rattle.rules.proofs.FrontsWorked.{worked}
use Rattle.rules.proofs.Told.{pass-made}
use Rattle.rules.proofs.Resettling.{resettled-holds, hands-back}
use Rattle.rules.proofs.NoneLessens.{settled-least, tries-greatest}

-- ---- a second run on the result

-- the lists that a pass leaves fit as those did that it was lent
left-fits : (edition : ℕ) (job : Job) (l : Lent) (p : Pass) → Left edition job l p → length p.gains ≡ length l.gains → fits edition job (leaves edition job l p) ≡ fits edition job l
left-fits edition job l p v g = λ i.
    eqb ((ap length v.gains ∙ g) i) (file_count job)
    && leb (file_count job) (v.tried.long i) && leb (file_count job) (v.gained.long i)
    && leb (file_count job) (v.cuts.long i) && leb (file_count job) (v.ends.long i)
    && leb (4 * recipe_count job) (v.recipes.long i) && leb (4 * recipe_count job) (v.kinds.long i)
    && leb (scratch_for edition job) (v.scratch.long i)

-- the run of one pass
abbrev one_figures : Pass → RunFigures
one_figures p = run_figures_of done p (p ∷ [])

module _ (edition : ℕ) (most : Limits) (job : Job) (ok : (check_job most job).number ≡ 0) (e : settles (last_pass edition job) ≡ true) where
  abbrev last : Pass
  last = last_pass edition job

  abbrev new : Job
  new = resettled edition job

  held : ResettledHolds edition most job
  held = resettled-holds edition most job ok

  new-sound : Sound most new
  new-sound = (accepted most new true (ap (λ (v : Verdict). v.number) held.accepted)).sound

  new-run : RunHoldsBy new (tries_by edition new)
  new-run = (editions-hold most new new-sound).run edition

  -- it is the last pass again, and that one alone
  new-first : first_pass edition new ≡ last
  new-first = sym (new-run.first last) ∙ ap (λ (ps : List Pass). get_or ps 0 last) (held.settled e).0

  new-last : last_pass edition new ≡ last
  unfolding last_of
  new-last = ap (last_of (first_pass edition new)) (held.settled e).0

  new-figures : run_figures_of done (first_pass edition new) (run_by edition new) ≡ one_figures last
  new-figures = ap (λ (p : Pass). run_figures_of done p (run_by edition new)) new-first ∙ ap (run_figures_of done last) (held.settled e).0

  new-ends : (lent : Lent) → is_edition edition ≡ true → fits edition job lent ≡ true → run_ends edition most new lent ≡ left_by edition new lent (one_figures last) last
  unfolding check_edition
  new-ends lent known fit =
      let through : check_lent edition most new lent ≡ done = lent-chain edition most new lent ∙ rw (known, fit) held.accepted in
      (answers edition most new lent).run_done (ap (λ (v : Verdict). v.number) through)
      ∙ ap (λ (r : RunFigures). left_by edition new lent r (last_pass edition new)) new-figures
      ∙ ap (left_by edition new lent (one_figures last)) new-last

  -- whose cut is equal and which kept nothing
  last-equal : last.cut_after ≡ last.cut_before
  last-equal = eqb-true last.cut_after last.cut_before e

  last_none : last.kept ≡ 0
  last_none = (held.settled e).1

-- ---- the calls

module _ (edition : ℕ) (most : Limits) (job : Job) (l : Lent) (first : Ended RunFigures) (ran : first ≡ run_ends edition most job l) (said : first.answer.settled ≡ true) where
  answered : Answers edition most job l
  answered = answers edition most job l

  -- a refused run does not say so
  let_through : (check_lent edition most job l).number ≡ 0
  let_through = elim (ℕ_discrete (check_lent edition most job l).number 0) [
    | yes z ↦ z
    | no n ↦ clash (sym said ∙ ap (λ (x : Ended RunFigures). x.answer.settled) (ran ∙ answered.run_refused n))
  ]

  fitted : (is_edition edition ≡ true) × (fits edition job l ≡ true)
  fitted = answered.fitting let_through

  ended : first ≡ left_by edition job l (run_figures_of done (first_pass edition job) (run_by edition job)) (last_pass edition job)
  ended = ran ∙ answered.run_done let_through

  -- settled is yes exactly if the last pass left the cut equal
  last-settled : settles (last_pass edition job) ≡ true
  last-settled = sym (ap (λ (x : Ended RunFigures). x.answer.settled) ended ∙ (unfold run_figures_of in refl)) ∙ said

  job-passes : (check_job most job).number ≡ 0
  job-passes = ap (λ (b : Bool). (check most job b).number) (sym fitted.1) ∙ (lent-passes edition most job l let_through).1

  job-sound : Sound most job
  job-sound = (accepted most job true job-passes).sound

  run-held : RunHoldsBy job (tries_by edition job)
  run-held = (editions-hold most job job-sound).run edition

  second_run : (lent : Lent) (second : Ended RunFigures) → fits edition job lent ≡ true → second ≡ run_ends edition most (with_sides job first.sides) lent → SecondRun first second
  unfolding run_figures_of figures_of last_of total
  second_run lent second fit q =
      let last : Pass = last_pass edition job in
      let same : second ≡ left_by edition (resettled edition job) lent (one_figures last) last
      = q ∙ ap (λ (x : Ended RunFigures). run_ends edition most (with_sides job x.sides) lent) ended ∙ new-ends edition most job job-passes last-settled lent fitted.0 fit in
      rw (ended, same) (record {
        one = refl;
        none = add-zero last.kept ∙ last_none edition most job job-passes last-settled;
        same = refl;
        passed = refl;
        settled = last-settled;
        before = sym (last-equal edition most job job-passes last-settled);
        after = refl;
        size = refl;
      })

  -- the lists left are those of the first pass of the second run
  lists-fit : fits edition job first.lent ≡ true
  lists-fit =
      let next : Job = new edition most job job-passes last-settled in
      let s : Sound most next = new-sound edition most job job-passes last-settled in
      let h = pass-made edition most next s in
      rw ended
      (ap (λ (p : Pass). fits edition job (leaves edition job l p)) (sym (new-first edition most job job-passes last-settled))
      ∙ ap (fits edition job) (sym (same-leaves job next.sides edition l (first_pass edition next)))
      ∙ left-fits edition next l (first_pass edition next) (left most next s edition next.sides (tries_by edition next next.sides) l fitted.1 h.0 h.1) (h.0.all ∙ sym (long-enough edition job l fitted.1).gains)
      ∙ fitted.1)

  pub settled-yes : SettledYes edition most job first
  unfolding run_figures_of figures_of
  settled-yes = record {
    passed = plain-check most job true job-passes;
    least = λ one.
        rw ended
        (subst (λ (n : ℕ). settles (last_pass n job) ≡ true → NoneLessens job (last_pass n job).sides_after) (sym one)
        (settled-least most job job-sound (tries job) (tries-lawful most job job-sound) (tries-greatest most job job-sound)) last-settled);
    again = second_run;
    lists = lists-fit;
    few = rw ended (omega (arith, run-held.few, pass-from job (tries_by edition job) job.sides));
  }

-- ---- order 10's job by edition 2

-- its only pass settles and leaves the sides
early-settled : (settles (last_pass 2 early) ≡ true) × ((last_pass 2 early).sides_after ≡ early.sides)
unfolding total count those largest up_to best_up_to diff view_of files views read_in recipes count_on is_cut cut times alone together gain weight smax size_on balanced moved steps_by size_after legal moves_by keeps pass_of passes_by most_passes passes last_of entered_first front_below front_of choose_front front_tries
early-settled = (refl, refl)

pub not-by-fronts : (l : Lent) → fits 2 early l ≡ true → NotByFronts l
unfolding check_edition run_figures_of
not-by-fronts l fit =
    let most : Limits = limits_of 4 3 6 7 in
    let through : check_lent 2 most early l ≡ done = lent-chain 2 most early l ∙ rw fit worked.early·checked in
    let ran = (answers 2 most early l).run_done (ap (λ (v : Verdict). v.number) through) in
    let left : (early_run l).sides ≡ early.sides = ap (λ (x : Ended RunFigures). x.sides) ran ∙ early-settled.1 in
    record {
      settled = ap (λ (x : Ended RunFigures). x.answer.settled) ran ∙ early-settled.0;
      lessens = λ none. omega (arith, subst (NoneLessens early) left none 3 (omega arith) worked.early·legal, worked.early·less, worked.early·cut);
    }

-- ---- what is printed

-- the report of a run that was made and settled, where its figures are true of the job and these sides
report-settled : (job : Job) (r : RunFigures) (sides : List ℕ) → r.figures.verdict ≡ done → r.settled ≡ true → r.figures.size ≡ size_a job sides
    → r.figures.unread ≡ unread_files job → r.figures.holding ≡ unread_recipes job
    → report job r sides ≡ settled_report job sides r.figures.before r.figures.cut r.passes r.figures.kept r.figures.visits
unfolding report figure_lines settled_report
report-settled job r sides v e a u h = rw (v, e, a, u, h) refl

-- it tells nothing of the job's own sides
report-same : (job : Job) (x sides : List ℕ) (before after passes kept visits : ℕ)
    → settled_report (with_sides job x) sides before after passes kept visits ≡ settled_report job sides before after passes kept visits
unfolding settled_report unread_files unread_recipes size_line size_on sides_line files views
report-same job x sides before after passes kept visits = refl

module _ (edition : ℕ) (most : Limits) (input : List ℕ) (read : (read_verdict most input (all_room most)).number ≡ 0) (said : (all_run edition most (job_of input)).answer.settled ≡ true) where
  abbrev job : Job
  job = job_of input

  -- what the night's run answers and leaves
  abbrev night : Ended RunFigures
  night = all_run edition most job

  ok : (check_job most job).number ≡ 0
  ok = job-passes edition most job (all_lent most job) night refl said

  known : is_edition edition ≡ true
  known = (fitted edition most job (all_lent most job) night refl said).0

  equal-last : settles (last_pass edition job) ≡ true
  equal-last = last-settled edition most job (all_lent most job) night refl said

  left-run : night ≡ left_by edition job (all_lent most job) (run_figures_of done (first_pass edition job) (run_by edition job)) (last_pass edition job)
  left-run = ended edition most job (all_lent most job) night refl said

  back : HandsBack edition most input
  back = hands-back edition most input read known ok

  first-night : prints edition most input
      ≡ settled_report job night.sides night.answer.figures.before night.answer.figures.cut night.answer.passes night.answer.figures.kept night.answer.figures.visits
  unfolding prints run_figures_of figures_of
  first-night =
      let u = pass-unread job (tries_by edition job) job.sides in
      rw (eq-eqb (read_verdict most input (all_room most)).number 0 read, prints, left-run)
      (report-settled job (run_figures_of done (first_pass edition job) (run_by edition job)) (last_pass edition job).sides_after refl equal-last (run-held edition most job (all_lent most job) night refl said).size u.0 u.1)

  next-night : prints edition most (resettles edition most input).output
      ≡ settled_report job night.sides night.answer.figures.cut night.answer.figures.cut 1 0 (last_pass edition job).visited
  unfolding run_figures_of figures_of last_of total
  next-night =
      let next : Job = resettled edition job in
      let last : Pass = last_pass edition job in
      let begun : first_pass edition next ≡ last = new-first edition most job ok equal-last in
      let u = pass-unread next (tries_by edition next) next.sides in
      back.night
      ∙ ap (λ (r : RunFigures). report next r (last_pass edition next).sides_after) (new-figures edition most job ok equal-last)
      ∙ ap (λ (p : Pass). report next (one_figures last) p.sides_after) (new-last edition most job ok equal-last)
      ∙ report-settled next (one_figures last) last.sides_after refl equal-last (sym (resettled-holds edition most job ok).size)
      (ap (λ (p : Pass). p.unread) (sym begun) ∙ u.0) (ap (λ (p : Pass). p.holding) (sym begun) ∙ u.1)
      ∙ report-same job last.sides_after last.sides_after last.cut_before last.cut_after 1 (last.kept + 0) (last.visited + 0)
      ∙ rw (left-run, ← last-equal edition most job ok equal-last, last_none edition most job ok equal-last, add-zero last.visited) refl

  handed-again : resettles edition most (resettles edition most input).output ≡ resettles edition most input
  handed-again =
      let out : List ℕ = (resettles edition most input).output in
      let h : ResettledHolds edition most job = resettled-holds edition most job ok in
      let passes-again : (check_job most (job_of out)).number ≡ 0 = rw back.same (ap (λ (v : Verdict). v.number) h.accepted) in
      (hands-back edition most out (ap (λ (v : Verdict). v.number) back.read) known passes-again).hands
      ∙ ap (λ (j : Job). record { output = blocks_of (resettled edition j); errors = [] }) back.same
      ∙ ap (λ (j : Job). record { output = blocks_of j; errors = [] }) (h.still equal-last)
      ∙ sym back.hands

  pub second-night : SecondNight edition most input
  second-night = record { first = first-night; second = next-night; same = handed-again }
