-- What a report and a trace print of a run and of a pass: the sizes are all that they know of the job, and only the room can be too short.
-- Assumes nothing.
use mathlib.Core.Path.{◌≡◌, refl, sym, ap, ap₂, ◌∙◌}
use mathlib.Core.Logic.{◌≢◌}
use Prim.Native.Nat.{ℕ, ◌≤◌, ◌<◌}
use mathlib.Core.Bool.{Bool, true, false, not, ◌&&◌}
use mathlib.Core.List.{List, [], ◌∷◌}
use native.Mathlib.Decide.{ℕ_discrete}
use native.Mathlib.Omega.{arith}
use lib.ListN.{length, get_or}
use lib.Dec.{leb, ltb, eqb}
use borrow.Author.Tests.{leb-true, leb-false, le-ltb, le-leb, eq-eqb, ne_eqb}
use Rattle.rules.specs.declared.Verdict.{Verdict}
use Rattle.rules.specs.Numbers.{Figures}
use Rattle.rules.specs.Numbers.{RunFigures}
use Rattle.rules.specs.Numbers.{Printed}
use Rattle.rules.specs.Lists.{some_below, onto}
use Rattle.rules.specs.Job.{Job, Limits, file_count, files, Lent, fits}
use Rattle.rules.specs.Split.{size_on}
use Rattle.rules.specs.Check.{done, refuse_if, ◌or_else◌, check_lent}
use Rattle.rules.specs.Pass.{Pass, leaves}
use Rattle.rules.specs.Fronts.{tries_by}
use Rattle.rules.specs.Run.{no_figures, no_run_figures, first_pass, run_by, last_pass, pass_ends, run_ends, figures_of, run_figures_of}
use Rattle.rules.specs.Report.{size_line, figure_lines, tells, report, refusal, of_files, split_verdict, print_verdict, Printing, printed, printing, into_room, telling, reporting, sides_line}
use Rattle.rules.specs.Trace.{Listing, listing, pass_lines, trace, bad_end, holds_pass, tracing}
use Rattle.rules.specs.Theorems.{Binary, Sides, Sound}
use Rattle.rules.proofs.Searches.{some-none}
use Rattle.rules.proofs.Entries.{onto-least}
use Rattle.rules.proofs.Proved.{accepted, lent-passes, answers, left}
use Rattle.rules.proofs.FrontsProved.{editions-hold}
use Rattle.rules.proofs.Told.{pass-made, pass-told}

-- ---- the bytes in the room

-- 3 is the only refusal that is left
pub into-number : (bytes room room' : List ℕ) (a : Printed) → printed a room' ≡ into_room bytes room → a.verdict.number ≢ 3 → a.verdict.number ≡ 0
unfolding printing
into-number bytes room room' a e h = go (leb (length bytes) (length room)) e
  where
    go : (b : Bool) → printed a room' ≡ printing (refuse_if (not b) 3 0) bytes room → a.verdict.number ≡ 0
    go true q = ap (λ (x : Printing). x.answer.verdict.number) q
    go false q = absurd (h (ap (λ (x : Printing). x.answer.verdict.number) q))

pub into-bytes : (bytes room room' : List ℕ) (a : Printed) → printed a room' ≡ into_room bytes room → a.bytes ≤ length room'
unfolding printing
into-bytes bytes room room' a e = go (leb (length bytes) (length room)) e
  where
    go : (b : Bool) → printed a room' ≡ printing (refuse_if (not b) 3 0) bytes room → a.bytes ≤ length room'
    go true q = omega (arith, ap (λ (x : Printing). x.answer.bytes) q, ap (λ (x : Printing). length x.room) q, onto-least bytes room)
    go false q = omega (arith, ap (λ (x : Printing). x.answer.bytes) q)

-- refused, the room was too short for them and stays
pub into-short : (bytes room room' : List ℕ) (a : Printed) → printed a room' ≡ into_room bytes room → a.verdict.number ≢ 0
    → (a.verdict ≡ record { number = 3; place = 0 }) × (room' ≡ room) × (length room < length bytes)
unfolding printing
into-short bytes room room' a e n = go (leb (length bytes) (length room)) refl e
  where
    go : (b : Bool) → leb (length bytes) (length room) ≡ b → printed a room' ≡ printing (refuse_if (not b) 3 0) bytes room
        → (a.verdict ≡ record { number = 3; place = 0 }) × (room' ≡ room) × (length room < length bytes)
    go true h q = absurd (n (ap (λ (x : Printing). x.answer.verdict.number) q))
    go false h q = (ap (λ (x : Printing). x.answer.verdict) q, ap (λ (x : Printing). x.room) q, leb-false (length bytes) (length room) h)

-- else they are in it
pub into-whole : (bytes room room' : List ℕ) (a : Printed) → printed a room' ≡ into_room bytes room → a.verdict.number ≡ 0
    → (a.bytes ≡ length bytes) × (room' ≡ onto bytes room) × (length bytes ≤ length room)
unfolding printing
into-whole bytes room room' a e z = go (leb (length bytes) (length room)) refl e
  where
    go : (b : Bool) → leb (length bytes) (length room) ≡ b → printed a room' ≡ printing (refuse_if (not b) 3 0) bytes room
        → (a.bytes ≡ length bytes) × (room' ≡ onto bytes room) × (length bytes ≤ length room)
    go true h q = (ap (λ (x : Printing). x.answer.bytes) q, ap (λ (x : Printing). x.room) q, leb-true (length bytes) (length room) h)
    go false h q = absurd (omega (arith, z, ap (λ (x : Printing). x.answer.verdict.number) q))

-- ---- what is told of an answer

-- a refusal tells its number and place
tells-refused : (v : Verdict) (lines : List ℕ) → v.number ≢ 0 → tells v lines ≡ refusal v
tells-refused v lines h = rw (ne_eqb v.number 0 h, tells) refl

pub telling-refusal : (most : Limits) (sizes marks sides : List ℕ) (v : Verdict) (held : Bool) (lines room : List ℕ) → v.number ≢ 0
    → telling most sizes marks sides v held (tells v lines) room ≡ into_room (refusal v) room
telling-refusal most sizes marks sides v held lines room h = rw (ne_eqb v.number 0 h) (ap (λ (b : List ℕ). into_room b room) (tells-refused v lines h))

-- the split of what was made is sound, so that only the room can be too short
split-told : (most : Limits) (sizes marks sides : List ℕ) (lent : Bool) → length sizes ≤ most.files → length sides ≡ length sizes → length marks ≡ length sizes → Binary sides
    → split_verdict most sizes marks sides lent ≡ refuse_if (not lent) 3 0
split-told most sizes marks sides lent a b m c =
    let few : ltb most.files (length sizes) ≡ false = le-ltb most.files (length sizes) a in
    let long : eqb (length sides) (length sizes) ≡ true = eq-eqb (length sides) (length sizes) b in
    let none : some_below (λ f. ltb 1 (get_or sides f 0)) (length sides) ≡ false = some-none (λ f. ltb 1 (get_or sides f 0)) (length sides) (λ f h. le-ltb 1 (get_or sides f 0) (c f)) in
    rw (few, long, eq-eqb (length marks) (length sizes) m, none) (last lent)
  where
    last : (lent : Bool) → (refuse_if (not (true && lent)) 3 0 or_else done) ≡ refuse_if (not lent) 3 0
    last true = refl
    last false = refl

pub telling-made : (most : Limits) (job : Job) (sides : List ℕ) (v : Verdict) (held : Bool) (bytes room : List ℕ) → v ≡ done → file_count job ≤ most.files → length job.marks ≡ file_count job → Sides job sides → held ≡ true
    → telling most job.sizes job.marks sides v held bytes room ≡ into_room bytes room
telling-made most job sides v held bytes room e few m w h =
    let short = leb (length bytes) (length room) in
    ap (λ (v : Verdict). printing v bytes room)
    (ap₂ (λ (v : Verdict) (b : Bool). print_verdict most job.sizes job.marks sides v b short) e h ∙ split-told most job.sizes job.marks sides short few w.long m w.binary)

-- ---- the report of a run

report-sizes : (job : Job) (r : RunFigures) (sides : List ℕ) → report (of_files job.sizes job.marks) r sides ≡ report job r sides
unfolding report figure_lines size_line size_on sides_line files
report-sizes job r sides = refl

report-refused : (job : Job) (r : RunFigures) (sides : List ℕ) → r.figures.verdict.number ≢ 0 → report job r sides ≡ refusal r.figures.verdict
unfolding report
report-refused job r sides h = tells-refused r.figures.verdict (figure_lines job r sides) h

-- a refused run tells its number and place
pub reporting-refusal : (most : Limits) (sizes marks : List ℕ) (r : RunFigures) (sides room : List ℕ) → r.figures.verdict.number ≢ 0
    → reporting most sizes marks r sides room ≡ into_room (refusal r.figures.verdict) room
unfolding reporting report
reporting-refusal most sizes marks r sides room h = telling-refusal most sizes marks sides r.figures.verdict true (figure_lines (of_files sizes marks) r sides) room h

made_told : (most : Limits) (job : Job) (r : RunFigures) (sides room : List ℕ) → r.figures.verdict ≡ done → file_count job ≤ most.files → length job.marks ≡ file_count job
    → Sides job sides
    → reporting most job.sizes job.marks r sides room ≡ into_room (report job r sides) room
unfolding reporting
made_told most job r sides room e few m w =
    telling-made most job sides r.figures.verdict true (report (of_files job.sizes job.marks) r sides) room e few m w refl ∙ ap (λ (b : List ℕ). into_room b room) (report-sizes job r sides)

pub last-sides : (edition : ℕ) (most : Limits) (job : Job) → Sound most job → Sides job (last_pass edition job).sides_after
last-sides edition most job s = ((editions-hold most job s).run edition).next

-- what is let through is sound
lent-sound : (edition : ℕ) (most : Limits) (job : Job) (l : Lent) → (check_lent edition most job l).number ≡ 0 → Sound most job
lent-sound edition most job l z = (accepted most job (fits edition job l) (lent-passes edition most job l z).1).sound

pub run-told : (edition : ℕ) (most : Limits) (job : Job) (l : Lent) (room : List ℕ) →
    let e = run_ends edition most job l in reporting most job.sizes job.marks e.answer e.sides room ≡ into_room (report job e.answer e.sides) room
run-told edition most job l room = elim (ℕ_discrete (check_lent edition most job l).number 0) [
  | yes z ↦
      let s : Sound most job = lent-sound edition most job l z in
      rw ((answers edition most job l).run_done z) (made_told most job (run_figures_of done (first_pass edition job) (run_by edition job)) (last_pass edition job).sides_after room (told job) s.few_files s.marks_long (last-sides edition most job s))
  | no n ↦
      let none : RunFigures = no_run_figures (check_lent edition most job l) in
      rw ((answers edition most job l).run_refused n)
      (reporting-refusal most job.sizes job.marks none job.sides room n ∙ ap (λ (b : List ℕ). into_room b room) (sym (report-refused job none job.sides n)))
]
  where
    told : (job : Job) → (run_figures_of done (first_pass edition job) (run_by edition job)).figures.verdict ≡ done
    told job = unfold run_figures_of in unfold figures_of in refl

-- ---- the trace of a pass

trace-sizes : (job : Job) (f : Figures) (sides : List ℕ) (l : Listing) → trace (of_files job.sizes job.marks) f sides l ≡ trace job f sides l
unfolding trace pass_lines size_line size_on sides_line files
trace-sizes job f sides l = refl

pub trace-refused : (job : Job) (f : Figures) (sides : List ℕ) (l : Listing) → f.verdict.number ≢ 0 → trace job f sides l ≡ refusal f.verdict
unfolding trace
trace-refused job f sides l h = tells-refused f.verdict (pass_lines job f sides l) h

pub tracing-refusal : (most : Limits) (sizes marks : List ℕ) (f : Figures) (sides : List ℕ) (l : Listing) (room : List ℕ) → f.verdict.number ≢ 0
    → tracing most sizes marks f sides l room ≡ into_room (refusal f.verdict) room
unfolding tracing trace
tracing-refusal most sizes marks f sides l room h = telling-refusal most sizes marks sides f.verdict (holds_pass sizes f l) (pass_lines (of_files sizes marks) f sides l) room h

made-traced : (most : Limits) (job : Job) (f : Figures) (sides room : List ℕ) (l : Listing) → f.verdict ≡ done → file_count job ≤ most.files → length job.marks ≡ file_count job → Sides job sides → holds_pass job.sizes f l ≡ true
    → tracing most job.sizes job.marks f sides l room ≡ into_room (trace job f sides l) room
unfolding tracing
made-traced most job f sides room l e few m w held =
    telling-made most job sides f.verdict (holds_pass job.sizes f l) (trace (of_files job.sizes job.marks) f sides l) room e few m w held
    ∙ ap (λ (b : List ℕ). into_room b room) (trace-sizes job f sides l)

pass-sides : (edition : ℕ) (most : Limits) (job : Job) → Sound most job → Sides job (first_pass edition job).sides_after
pass-sides edition most job s = (pass-made edition most job s).0.next

-- the lists hold what is told, refused or not
pub pass-held : (edition : ℕ) (most : Limits) (job : Job) (l : Lent) → length l.gains ≡ file_count job → let e = pass_ends edition most job l in holds_pass job.sizes e.answer (listing e.lent) ≡ true
pass-held edition most job l g = elim (ℕ_discrete (check_lent edition most job l).number 0) [
  | yes z ↦ rw ((answers edition most job l).pass_done z) (pass-told edition most job (lent-sound edition most job l z) l ((answers edition most job l).fitting z).1)
  | no n ↦ rw (
    (answers edition most job l).pass_refused n,
    eq-eqb (length l.gains) (file_count job) g,
    le-leb 0 (length job.sizes) (omega arith),
    le-leb 0 (length l.tried) (omega arith),
    le-leb 0 (length l.gained) (omega arith),
    le-leb 0 (length l.cuts) (omega arith),
    le-leb 0 (length l.ends) (omega arith),
    some-none (bad_end (listing l)) 0 (λ i h. absurd (omega arith)),
  ) refl
]

-- and are as long as before
pub pass-long : (edition : ℕ) (most : Limits) (job : Job) (l : Lent) → let e = pass_ends edition most job l in (length e.sides ≡ length job.sides) × (length e.lent.recipes ≡ length l.recipes)
pass-long edition most job l = elim (ℕ_discrete (check_lent edition most job l).number 0) [
  | yes z ↦
      let s : Sound most job = lent-sound edition most job l z in
      let p = pass-made edition most job s in
      rw ((answers edition most job l).pass_done z) (p.0.next.long ∙ sym s.sides_long, (left most job s edition job.sides (tries_by edition job job.sides) l ((answers edition most job l).fitting z).1 p.0 p.1).recipes.long)
  | no n ↦ rw ((answers edition most job l).pass_refused n) (refl, refl)
]

-- what a pass leaves, told; and where it was made its lists hold it
pub pass-traced : (edition : ℕ) (most : Limits) (job : Job) (l : Lent) (room : List ℕ) →
    let e = pass_ends edition most job l in tracing most job.sizes job.marks e.answer e.sides (listing e.lent) room ≡ into_room (trace job e.answer e.sides (listing e.lent)) room
pass-traced edition most job l room = elim (ℕ_discrete (check_lent edition most job l).number 0) [
  | yes z ↦
      let s : Sound most job = lent-sound edition most job l z in
      let p : Pass = first_pass edition job in
      rw ((answers edition most job l).pass_done z)
      (made-traced most job (figures_of done p (p ∷ [])) p.sides_after room (listing (leaves edition job l p)) (told p) s.few_files s.marks_long (pass-sides edition most job s) (pass-told edition most job s l ((answers edition most job l).fitting z).1))
  | no n ↦
      let none : Figures = no_figures (check_lent edition most job l) in
      rw ((answers edition most job l).pass_refused n)
      (tracing-refusal most job.sizes job.marks none job.sides (listing l) room n ∙ ap (λ (b : List ℕ). into_room b room) (sym (trace-refused job none job.sides (listing l) n)))
]
  where
    told : (p : Pass) → (figures_of done p (p ∷ [])).verdict ≡ done
    told p = unfold figures_of in refl
