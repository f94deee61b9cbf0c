-- What is told of two stored jobs is what the program `compare` writes, and a room that is always enough for it. Assumes nothing.
use Rattle.std.proofs.Common.{◌≡◌, ◌≢◌, refl, sym, ap, ◌∙◌, ℕ, ◌+◌, ◌*◌, ◌≤◌, Bool, not, List, [], length, leb, le-leb, eq-eqb, arith}
use native.Mathlib.Decide.{ℕ_discrete}
use Rattle.std.specs.Prelude.{Result, Ok, Err, IsOk, IfOk}
use Rattle.std.proofs.lemmas.Result.{err_from_is_err_and}
use Rattle.rules.specs.declared.Verdict.{Verdict}
use Rattle.rules.specs.declared.refusal.Refusal.{Refusal}
use Rattle.rules.specs.declared.Difference.{Difference}
use Rattle.rules.specs.Numbers.{verdict_of, Compared}
use Rattle.rules.specs.Cases.{as_printed}
use Rattle.rules.specs.Job.{Limits}
use Rattle.rules.specs.Check.{done, refuse_if, ◌or_else◌}
use Rattle.rules.specs.Stored.{job_of}
use Rattle.rules.specs.Report.{printed, printing, into_room}
use Rattle.rules.specs.Compare.{differences, most_differences, read_for, compared, difference_lines, refused_of, compares}
use Rattle.rules.proofs.Reports.{into-number}
use Rattle.rules.proofs.Exits.{not-done}
use Rattle.rules.proofs.Comparing.{compare-holds, prints-first, prints-second, prints-lines}
use Rattle.report.specs.declared.RefusedJob.{RefusedJob}
use Rattle.report.specs.Bytes.{figure_bytes, difference_bytes}
use Rattle.report.specs.Steps.{room_verdict}
use Rattle.report.specs.Cases.{differences_telling, differences_told}
use Rattle.report.specs.Comparison.{records_in, records_verdict, comparison_telling, EnoughLines}
use Rattle.report.specs.Lending.{Answered, Lendable}
use Rattle.report.proofs.Comparisons.{records-few, no_sides, comparison-told}
use Rattle.report.proofs.Lending.{into-lendable}
use Rattle.comparer.specs.Finding.{as_found, answer_of}
use Rattle.comparer.proofs.Found.{Remade, of-first, of-second, of-both, both_read}

-- records that are held and not too many are told where there is room
lines-told : (most : Limits) (a : Compared) (numbers room : List ℕ) → a.verdict.number ≡ 0 → a.count ≤ most_differences most → 4 * a.count ≤ length numbers
    → comparison_telling most a numbers room ≡ into_room (difference_lines (records_in a.count numbers)) room
lines-told most a numbers room z few held =
    let t : List ℕ = difference_lines (records_in a.count numbers) in
    let roomy : Bool = leb (length t) (length room) in
    let pass : records_verdict most a.count (length numbers) ≡ done =
    sym (records-few most a.count (length numbers) few) ∙ ap (λ (b : Bool). refuse_if (not b) 3 0) (le-leb (4 * a.count) (length numbers) held) in
    (comparison-told most a numbers room z).is
    ∙ ap (λ (v : Verdict). printing (v or_else room_verdict [] roomy) t room) pass
    ∙ ap (λ (v : Verdict). printing v t room) (sym (no_sides roomy))

-- a refusal of a job, as a report is handed it
abbrev pub refused_job : ℕ × Refusal → RefusedJob
refused_job p = record { job = p.0; verdict = verdict_of p.1 }

-- an answer that is not refused is an answer
is-done : (r : Result ℕ Refusal) → (as_printed r).verdict.number ≡ 0 → IsOk r
is-done (Ok n) z = refl
is-done (Err e) z = absurd (not-done e z)

lendable : (r : Result ℕ Refusal) (room : List ℕ) → Lendable (as_printed r).bytes room → IfOk r (λ n. Lendable n room)
lendable (Ok n) room h = h
lendable (Err e) room h = tt

module _ (most : Limits) (old new numbers room : List ℕ) where
  -- the text is the program's, and the records are held and not too many
  abbrev Says : Result ℕ RefusedJob → Type 0
  Says m =
      (differences_telling most m numbers room ≡ into_room (compares most old new) room) × (4 * (differences_told m).count ≤ length numbers)
      × ((differences_told m).count ≤ most_differences most)

  -- the line of a refusal
  refused-says : (a : Compared) → a ≡ answer_of most old new → a.verdict.number ≢ 0 → refused_of a.job a.verdict ≡ compares most old new
  refused-says a e m =
      let line : Compared → List ℕ = λ x. refused_of x.job x.verdict in
      elim (ℕ_discrete (read_for most old).number 0) [
        | no p ↦ ap line (e ∙ of-first most old new p) ∙ sym (prints-first most old new p)
        | yes ok ↦ elim (ℕ_discrete (read_for most new).number 0) [
          | no p ↦ ap line (e ∙ of-second most old new ok p) ∙ sym (prints-second most old new p ∙ rw (eq-eqb (read_for most old).number 0 ok) refl)
          | yes fine ↦ absurd (m (ap (λ (x : Compared). x.verdict.number) (e ∙ of-both most old new ok fine)))
        ]
      ]

  -- the lines of the records
  lines-say : (n : ℕ) → compared 0 done n ≡ answer_of most old new → records_in n numbers ≡ differences (job_of old) (job_of new)
      → 4 * most_differences most ≤ length numbers → Says (Ok n)
  lines-say n e w held =
      let both = both_read most old new e refl in
      let few : n ≤ most_differences most =
      omega (arith, ap (λ (a : Compared). a.count) (e ∙ of-both most old new both.0 both.1), ((compare-holds most old new []).read both.0 both.1).few) in (
        lines-told most (compared 0 done n) numbers room refl few (omega arith)
            ∙ ap (λ (ds : List Difference). into_room (difference_lines ds) room) w
            ∙ ap (λ (b : List ℕ). into_room b room) (sym (prints-lines most old new both.0 both.1)),
        omega arith,
        few,
      )

  says : (found : Result ℕ (ℕ × Refusal)) (made : Result ℕ RefusedJob) → as_found found ≡ answer_of most old new
      → IfOk found (λ n. records_in n numbers ≡ differences (job_of old) (job_of new)) → 4 * most_differences most ≤ length numbers → Remade refused_job found made → Says made
  says (Ok n) made e w held remade = rw remade (lines-say n e w held)
  says (Err p) made e w held remade =
      let a = err_from_is_err_and made remade in
      rw (a.1, a.2) (ap (λ (b : List ℕ). into_room b room) (refused-says (as_found (Err p)) e (not-done p.1)), omega arith, omega arith)

  pub tells : (found : Result ℕ (ℕ × Refusal)) (made : Result ℕ RefusedJob) → as_found found ≡ answer_of most old new
      → IfOk found (λ n. records_in n numbers ≡ differences (job_of old) (job_of new)) → 4 * most_differences most ≤ length numbers → Remade refused_job found made
      → (n : ℕ) (r : Result ℕ Refusal) (room' : List ℕ) → printed (as_printed r) room' ≡ differences_telling most made numbers room
      → EnoughLines (as_printed r).verdict (differences_told made) numbers room → figure_bytes + difference_bytes * most_differences most ≤ n
      → (printed (as_printed r) room' ≡ into_room (compares most old new) room) × (Answered n r room × IfOk r (λ k. Lendable k room'))
  tells found made e w held remade n r room' told enough h =
      let s = says found made e w held remade in
      let is : printed (as_printed r) room' ≡ into_room (compares most old new) room = told ∙ s.0 in (
        is,
        (
          λ long. is-done r (into-number (compares most old new) room room' (as_printed r) is (enough s.1 (omega (arith, s.2)))),
          lendable r room' (into-lendable (compares most old new) room room' (as_printed r) is),
        ),
      )
