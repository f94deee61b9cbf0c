-- A job with the sides that its run leaves, and what `resettle` hands out. Assumes nothing.
use mathlib.Core.Path.{◌≡◌, refl, sym, ap, ◌∙◌}
use mathlib.Core.Logic.{◌≢◌}
use Prim.Native.Nat.{ℕ}
use mathlib.Core.Bool.{Bool, true, not}
use mathlib.Core.List.{List, [], ◌∷◌}
use native.Mathlib.Omega.{arith}
use borrow.Author.Tests.{eq-eqb, ne_eqb}
use Rattle.rules.specs.declared.Verdict.{Verdict}
use Rattle.rules.specs.Numbers.{RunFigures}
use Rattle.rules.specs.Lists.{AllBelow}
use Rattle.rules.specs.Job.{Job, Limits, TwoByte}
use Rattle.rules.specs.Split.{cut, balanced}
use Rattle.rules.specs.Check.{done, refuse_if, ◌or_else◌, check_sound, check_rest, check, check_job, is_edition, check_edition, check_lent}
use Rattle.rules.specs.Pass.{Pass, pass_of}
use Rattle.rules.specs.Fronts.{tries_by}
use Rattle.rules.specs.Run.{settles, pass_by, most_passes, passes, last_of, last_by, first_pass, run_by, last_pass, figures_of, run_figures_of, Ended, left_by}
use Rattle.rules.specs.Stored.{job_of, read_verdict}
use Rattle.rules.specs.Report.{refusal, all_room, all_lent, all_run, prints}
use Rattle.rules.specs.Writing.{header_for, blocks_of, with_sides, HandedOut, resettles}
use Rattle.rules.specs.Theorems.{Sound, Accepted, LawfulTry}
use Rattle.rules.specs.RoundTrip.{BlocksHold, resettled_by, Sideless, ResettledHoldsBy, resettled, ResettledHolds, ResettleRefuses, HandsBack}
use Rattle.rules.proofs.Verdicts.{zero_of, passes-both, both-pass, chain-go}
use Rattle.rules.proofs.Refusals.{rest-chain, lent-chain}
use Rattle.rules.proofs.SoundJob.{sound}
use Rattle.rules.proofs.Proved.{accepted, run-holds-by, check-writes, answers}
use Rattle.rules.proofs.FrontsProved.{editions-hold}
use Rattle.rules.proofs.OtherSides.{same-recipes, same_size, same-pass_of, check-again}
use Rattle.rules.proofs.Reports.{last-sides}
use Rattle.rules.proofs.Lending.{run_text, room-enough, lent-enough, prints-run}
use Rattle.rules.proofs.Reading.{read-holds}
use Rattle.rules.proofs.Runs.{pass-from, settled-none, settled-stays, settled_only, Passes, passes-come, come-last, turns-some}
use Rattle.rules.proofs.RoundTrip.{blocks-hold, read-few, read_length}
use Rattle.rules.proofs.CutOff.{resettles-no}

-- ---- the sides after a run

module _ (try : Job → List ℕ → List ℕ) (job : Job) (same : Sideless try job) where
  -- the last pass, and the job taken up again
  abbrev last_one : Pass
  last_one = last_by job (try job)

  abbrev again : Job
  again = resettled_by try job

  module _ (settled : settles last_one ≡ true) where
    -- the last pass is the pass from some sides
    last-from : (before : List ℕ) × (last_one ≡ pass_by job (try job) before)
    unfolding passes
    last-from =
        let came : Passes job (try job) (most_passes job) job.sides (passes job (try job)) = passes-come job (try job) (most_passes job) job.sides in
        let last = come-last job (try job) (λ x. List ℕ) (λ x y. y) came [] (pass_by job (try job) job.sides) (job.sides, [], refl) in
        (last.0, last.2)

    settled-there : settles (pass_by job (try job) last-from.0) ≡ true
    settled-there = ap settles (sym last-from.1) ∙ settled

    -- which it left as they were, so that the next is the same pass
    next-same : pass_by again (try again) last_one.sides_after ≡ last_one
    next-same =
        let sides : List ℕ = last_one.sides_after in
        let there : sides ≡ last-from.0 = ap (λ (p : Pass). p.sides_after) last-from.1 ∙ settled-stays job (try job) last-from.0 settled-there in
        same-pass_of job sides sides (try again sides) ∙ ap (λ (t : List ℕ → List ℕ). pass_of job sides (t sides)) (same sides) ∙ ap (pass_by job (try job)) there ∙ sym last-from.1

    run-again : passes again (try again) ≡ last_one ∷ []
    unfolding passes
    run-again =
        settled_only again (try again) (most_passes again) again.sides (turns-some again) (ap settles next-same ∙ settled) ∙ ap (λ (p : Pass). p ∷ []) next-same

    none_kept : last_one.kept ≡ 0
    none_kept = ap (λ (p : Pass). p.kept) last-from.1 ∙ settled-none job (try job) last-from.0 settled-there

    resettled-still : resettled_by try again ≡ again
    unfolding last_of
    resettled-still = ap (λ (ps : List Pass). with_sides job (last_of (pass_by again (try again) again.sides) ps).sides_after) run-again

  pub resettled-holds-by : (most : Limits) → LawfulTry job (try job) → (check_job most job).number ≡ 0 → ResettledHoldsBy try most job
  resettled-holds-by most lawful ok =
      let a : Accepted most job = accepted most job true ok in
      let r = run-holds-by most job a.sound (try job) lawful in
      let sides : List ℕ = last_one.sides_after in
      record {
        accepted = check-again job sides most true ok r.next (ap (balanced job) (sym r.size) ∙ r.returns a.balanced);
        cut = pass-from again (try again) sides ∙ ap (cut sides) (same-recipes job sides) ∙ sym r.cut;
        size = same_size job sides 0 sides ∙ sym r.size;
        settled = λ e. (run-again e, none_kept e);
        still = resettled-still;
      }

pub resettled-holds : (edition : ℕ) (most : Limits) (job : Job) → (check_job most job).number ≡ 0 → ResettledHolds edition most job
resettled-holds edition most job ok =
    let e = editions-hold most job (accepted most job true ok).sound in
    resettled-holds-by (tries_by edition) job (e.sideless edition) most (e.lawful edition) ok

-- ---- the run of the program

-- what is asked of a job that is run by an edition
abbrev check_run : ℕ → Limits → Job → Verdict
check_run edition most job = check_edition edition or_else check_job most job

module _ (edition : ℕ) (most : Limits) (job : Job) (s : Sound most job) where
  -- its lists are long enough, so that the check of the run is that of the edition and the job
  run-check : check_lent edition most job (all_lent most job) ≡ check_run edition most job
  run-check = lent-chain edition most job (all_lent most job) ∙ ap (λ (b : Bool). check_edition edition or_else check most job b) (lent-enough most edition job s.few_files s.few_recipes s.few_pins)

  run-refused : (check_run edition most job).number ≢ 0 → (all_run edition most job).answer.figures.verdict ≡ check_run edition most job
  run-refused n =
      ap (λ (e : Ended RunFigures). e.answer.figures.verdict) ((answers edition most job (all_lent most job)).run_refused (λ z. n (sym (ap (λ (v : Verdict). v.number) run-check) ∙ z))) ∙ run-check

  run-done : (check_run edition most job).number ≡ 0 → all_run edition most job ≡ left_by edition job (all_lent most job) (run_figures_of done (first_pass edition job) (run_by edition job)) (last_pass edition job)
  run-done z = (answers edition most job (all_lent most job)).run_done (ap (λ (v : Verdict). v.number) run-check ∙ z)

-- ---- the program

module _ (edition : ℕ) (most : Limits) (input : List ℕ) (read : (read_verdict most input (all_room most)).number ≡ 0) where
  read-sound : Sound most (job_of input)
  read-sound = (read-holds most input (all_room most)).sound read

  -- after reading's verdict the run's
  abbrev ran : Verdict
  ran = (all_run edition most (job_of input)).answer.figures.verdict

  run-no : (check_run edition most (job_of input)).number ≢ 0 → resettles edition most input ≡ record { output = []; errors = refusal (check_run edition most (job_of input)) }
  unfolding resettles
  run-no n =
      let v : Verdict = read_verdict most input (all_room most) or_else ran in
      let e : check_run edition most (job_of input) ≡ v = chain-go refl read (sym (run-refused edition most (job_of input) read-sound n)) in
      rw (ne_eqb v.number 0 (λ z. n (ap (λ (w : Verdict). w.number) e ∙ z)), resettles) (ap (λ (w : Verdict). record { output = []; errors = refusal w }) (sym e))

  module _ (known : is_edition edition ≡ true) (ok : (check_job most (job_of input)).number ≡ 0) where
    let_through : (check_run edition most (job_of input)).number ≡ 0
    unfolding check_edition
    let_through = rw known ok

    abbrev new : Job
    new = resettled edition (job_of input)

    handed : resettles edition most input ≡ record { output = blocks_of new; errors = [] }
    unfolding resettles
    handed =
        let e = run-done edition most (job_of input) read-sound let_through in
        let passed : ran.number ≡ 0 = ap (λ (x : Ended RunFigures). x.answer.figures.verdict.number) e ∙ (unfold run_figures_of figures_of in refl) in
        let both = both-pass (read_verdict most input (all_room most)) ran read passed in
        rw (eq-eqb (read_verdict most input (all_room most) or_else ran).number 0 both, resettles)
        (ap (λ (x : Ended RunFigures). record { output = blocks_of (with_sides (job_of input) x.sides); errors = [] }) e)

    -- the new job passes 1 to 10, and so its blocks are read and run
    new-passes : (check_job most new).number ≡ 0
    new-passes = ap (λ (v : Verdict). v.number) (resettled-holds edition most (job_of input) ok).accepted

    new-sound : (check_sound most new true).number ≡ 0
    new-sound = (passes-both (check_sound most new true) (check_rest most new) (zero_of (rest-chain most new true) new-passes)).0

    new-blocks : BlocksHold most new
    new-blocks = blocks-hold most new (check-writes most new true new-passes)

    new-read : read_verdict most (blocks_of new) (all_room most) ≡ done
    new-read = new-blocks.verdict (all_room most) ∙ ap (λ (b : Bool). refuse_if (not b) 3 0) (let s = sound most new true new-sound in room-enough most (header_for new) s.few_files s.few_recipes s.few_pins)

    new-prints : prints edition most (blocks_of new) ≡ run_text edition new
    new-prints =
        prints-run most (blocks_of new) edition known new-read (ap (check_job most) new-blocks.same ∙ (resettled-holds edition most (job_of input) ok).accepted)
        ∙ ap (run_text edition) new-blocks.same

    -- but for the sides its numbers are those read
    new-small : AllBelow 256 input → TwoByte new
    new-small small =
        let t : TwoByte (job_of input) = (read-holds most input (all_room most)).small small in
        let w = last-sides edition most (job_of input) read-sound in
        record {
          sizes = t.sizes;
          sides = λ i h. omega (arith, w.binary i);
          marks = t.marks;
          bounds = t.bounds;
          pins = t.pins;
          num = t.num;
          den = t.den;
          cap = t.cap;
          k = t.k;
        }

    pub hands-back : HandsBack edition most input
    hands-back =
        let out : (resettles edition most input).output ≡ blocks_of new = ap (λ (x : HandedOut). x.output) handed in
        record {
          hands = handed;
          long = rw out (new-blocks.long ∙ sym (read_length most input (all_room most) read));
          bytes = λ small. rw out (new-blocks.bytes (new-small small) (read-few input small));
          read = rw out new-read;
          same = rw out new-blocks.same;
          night = rw out new-prints;
        }

pub refuses : (edition : ℕ) (most : Limits) (input : List ℕ) → ResettleRefuses edition most input
refuses edition most input = record { by_reading = resettles-no edition most input; by_run = run-no edition most input }
