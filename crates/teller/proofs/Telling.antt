-- What is read, run or passed over, and told: each step's lists are those that document 01's program has. Assumes nothing.
use mathlib.Core.Path.{◌≡◌, refl, sym, ap, ◌∙◌}
use mathlib.Core.Logic.{◌≢◌}
use Prim.Native.Nat.{ℕ, ◌*◌}
use mathlib.Core.Bool.{true}
use mathlib.Core.List.{List}
use lib.ListN.{length, length-replicate}
use lib.IntN.{pos}
use borrow.Author.Tests.{eq-eqb, ne_eqb}
use Rattle.rules.specs.declared.Verdict.{Verdict}
use Rattle.rules.specs.Numbers.{Figures}
use Rattle.rules.specs.Numbers.{RunFigures}
use Rattle.rules.specs.Numbers.{Printed}
use Rattle.rules.specs.Job.{Job, Limits, file_count, Lent}
use Rattle.rules.specs.Run.{Ended, ended_of, no_figures, no_run_figures, pass_ends, run_ends}
use Rattle.rules.specs.Stored.{read_verdict}
use Rattle.rules.specs.Report.{refusal, printed, into_room, reporting, prints, all_room, all_lent, all_run}
use Rattle.rules.specs.Trace.{Listing, listing, holds_pass, tracing, traces}
use Rattle.rules.proofs.Reports.{into-number, reporting-refusal, tracing-refusal, run-told, pass-held, pass-long, pass-traced}
use Rattle.stored.specs.declared.taken.TakenUp.{TakenUp}
use Rattle.std.specs.Prelude.{Result, Ok, Err}
use Rattle.rules.specs.declared.refusal.Refusal.{Refusal}
use Rattle.rules.specs.Numbers.{verdict_of, in_numbers}
use Rattle.rules.specs.declared.Ran.{Ran}
use Rattle.rules.specs.declared.Passed.{Passed}
use Rattle.rules.specs.Cases.{as_figures, as_run_figures, pass_told}
use Rattle.rules.proofs.Exits.{not-done}
use Rattle.report.specs.Tracing.{EnoughTold}
use Rattle.report.specs.Cases.{run_telling, pass_telling}
use Rattle.stored.specs.Room.{taking_up, lists_of, as_taken}
use Rattle.stored.specs.Steps.{job_taken}
use Rattle.stored.proofs.JobTaken.{refused-read, zero_read, job_read}
use Rattle.teller.specs.Telling.{run_report, pass_trace, told_of}

-- an answer by its numbers is told as documents 01 and 02 tell of it
pub run-numbered : (most : Limits) (sizes marks sides room : List ℕ) (answer : Result Ran Refusal) → run_telling most sizes marks (in_numbers answer) sides room ≡ reporting most sizes marks (as_run_figures answer) sides room
run-numbered most sizes marks sides room (Ok r) = refl
run-numbered most sizes marks sides room (Err r) = sym (reporting-refusal most sizes marks (no_run_figures (verdict_of r)) sides room (not-done r))

pub pass-numbered : (most : Limits) (sizes marks sides room : List ℕ) (l : Listing) (answer : Result Passed Refusal) → pass_telling most sizes marks (in_numbers answer) sides l room ≡ tracing most sizes marks (as_figures answer) sides l room
pass-numbered most sizes marks sides room l (Ok p) = refl
pass-numbered most sizes marks sides room l (Err r) = sym (tracing-refusal most sizes marks (no_figures (verdict_of r)) sides l room (not-done r))

pub pass-told : (answer : Result Passed Refusal) → pass_told (in_numbers answer) ≡ as_figures answer
pass-told (Ok p) = refl
pass-told (Err r) = refl

-- room that is enough by other names is enough
pub enough-as : (v : Verdict) (sizes sides marks room : List ℕ) {f g : Figures} {l m : Listing} → f ≡ g → l ≡ m → EnoughTold v sizes f sides marks l room → EnoughTold v sizes g sides marks m room
enough-as v sizes sides marks room p q h = coe 0 1 (i. EnoughTold v sizes (p i) sides marks (q i) room) h

-- a run with the teller's own lists, reported
pub run-printed : (edition : ℕ) (most : Limits) (job : Job) (a : Printed) (f : RunFigures) (sides room room' : List ℕ) (own lent : Lent) → ended_of f sides lent ≡ run_ends edition most job own → own ≡ all_lent most job
    → printed a room' ≡ reporting most job.sizes job.marks f sides room
    → (printed a room' ≡ into_room (run_report edition most job) room) × (a.verdict.number ≢ 3 → a.verdict.number ≡ 0)
run-printed edition most job a f sides room room' own lent e q g =
    let ran : ended_of f sides lent ≡ all_run edition most job = e ∙ ap (run_ends edition most job) q in
    let told : printed a room' ≡ into_room (run_report edition most job) room
    = g ∙ ap (λ (x : Ended RunFigures). reporting most job.sizes job.marks x.answer x.sides room) ran ∙ run-told edition most job (all_lent most job) room in
    (told, into-number (run_report edition most job) room room' a told)

-- one pass with them, traced
pub pass-printed : (edition : ℕ) (most : Limits) (job : Job) (a : Printed) (f : Figures) (sides room room' : List ℕ) (own lent : Lent) → ended_of f sides lent ≡ pass_ends edition most job own → own ≡ all_lent most job
    → printed a room' ≡ tracing most job.sizes job.marks f sides (listing lent) room
    → (printed a room' ≡ into_room (pass_trace edition most job) room) × (a.verdict.number ≢ 3 → a.verdict.number ≡ 0) × (holds_pass job.sizes f (listing lent) ≡ true)
    × (length sides ≡ length job.sides) × (length lent.recipes ≡ 4 * most.recipes)
pass-printed edition most job a f sides room room' own lent e q g =
    let made : ended_of f sides lent ≡ pass_ends edition most job (all_lent most job) = e ∙ ap (pass_ends edition most job) q in
    let long = pass-long edition most job (all_lent most job) in
    let told : printed a room' ≡ into_room (pass_trace edition most job) room
    = g ∙ ap (λ (x : Ended Figures). tracing most job.sizes job.marks x.answer x.sides (listing x.lent) room) made ∙ pass-traced edition most job (all_lent most job) room in (
      told,
      into-number (pass_trace edition most job) room room' a told,
      ap (λ (x : Ended Figures). holds_pass job.sizes x.answer (listing x.lent)) made ∙ pass-held edition most job (all_lent most job) (length-replicate (file_count job) (pos 0)),
      ap (λ (x : Ended Figures). length x.sides) made ∙ long.0,
      ap (λ (x : Ended Figures). length x.lent.recipes) made ∙ long.1 ∙ length-replicate (4 * most.recipes) 0,
    )

-- ---- of a stored job, by what is told of a job

module _ (text : Job → List ℕ) (most : Limits) (bytes : List ℕ) where
  -- what reading refuses
  pub told-refused : (r : Refusal) → as_taken (Err r) ≡ (taking_up most bytes).answer → refusal (verdict_of r) ≡ told_of text most bytes
  unfolding told_of
  told-refused r e =
      let v = refused-read most bytes r e in
      ap refusal v ∙ sym (rw (ne_eqb (read_verdict most bytes (all_room most)).number 0 (λ z. not-done r (ap (λ (x : Verdict). x.number) v ∙ z)), told_of) refl)

  -- and what it lets through
  pub told-read : (t : TakenUp) → as_taken (Ok t) ≡ (taking_up most bytes).answer → lists_of t ≡ (taking_up most bytes).room → text (job_taken t) ≡ told_of text most bytes
  unfolding told_of
  told-read t e f = ap text (job_read most bytes t e f) ∙ sym (rw (eq-eqb (read_verdict most bytes (all_room most)).number 0 (zero_read most bytes t e f), told_of) refl)

-- the night's report and the trace are told so
pub prints-told : (edition : ℕ) (most : Limits) (bytes : List ℕ) → told_of (run_report edition most) most bytes ≡ prints edition most bytes
unfolding told_of prints
prints-told edition most bytes = refl

pub traces-told : (edition : ℕ) (most : Limits) (bytes : List ℕ) → told_of (pass_trace edition most) most bytes ≡ traces edition most bytes
unfolding told_of traces
traces-told edition most bytes = refl
