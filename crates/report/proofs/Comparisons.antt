-- The lines of a comparison: as forms and as pieces, and what is told of its answer. Assumes nothing.
use mathlib.Core.Path.{◌≡◌, refl, sym, ap, ◌∙◌}
use mathlib.Core.Logic.{◌≢◌}
use Prim.Native.Nat.{ℕ, ◌*◌, ◌≤◌, ◌<◌}
use mathlib.Core.Bool.{Bool, true, false, not, cond}
use mathlib.Core.List.{List, [], ◌∷◌, ◌++◌, map, append-nil, append_assoc}
use lib.ListN.{length}
use lib.Dec.{leb, ltb}
use borrow.Author.Tests.{le-leb, lt-ltb, le-ltb, ltb-false, eq-eqb, ne_eqb}
use Rattle.rules.specs.declared.Verdict.{Verdict}
use Rattle.rules.specs.Numbers.{Compared}
use Rattle.rules.specs.Lists.{lowest, up_to}
use Rattle.rules.specs.Job.{Limits}
use Rattle.rules.specs.Check.{refuse_if, ◌or_else◌}
use Rattle.rules.specs.Report.{text, spaced, line, Printing, printing, into_room}
use Rattle.rules.specs.Compare.{difference, most_differences, difference_line, difference_lines, refused_of}
use Rattle.rules.proofs.Verdicts.{passes-both, not-refused, zero_of}
use Rattle.report.specs.Laying.{pieces, shown, filled}
use Rattle.report.specs.Steps.{room_verdict}
use Rattle.report.specs.Comparison.{record_at, records_in, comparison_text, records_verdict, comparison_telling}
use Rattle.report.proofs.Printings.{room-tells, ToldAfter}
use Rattle.report.proofs.Tellings.{at-two}

-- ---- forms filled in

pub refused-form : (job : ℕ) (v : Verdict) → filled (job ∷ v.number ∷ v.place ∷ []) (text "refused 0 1 2\n") ≡ refused_of job v
unfolding refused_of line spaced text pieces shown
refused-form job v = simp (append_assoc, append-nil)

pub difference-form : (what number old new : ℕ) → filled (what ∷ number ∷ old ∷ new ∷ []) (text "0 1 2 3\n") ≡ difference_line (difference what number old new)
unfolding difference_line spaced text pieces shown
difference-form what number old new = simp (append_assoc, append-nil)

-- ---- a line for each record

abbrev pub record_line : List ℕ → ℕ → List ℕ
record_line numbers i = difference_line (record_at numbers i)

lines_of : (numbers is : List ℕ) → pieces (record_line numbers) is ≡ difference_lines (map (record_at numbers) is)
unfolding pieces difference_lines
lines_of numbers [] = refl
lines_of numbers (i ∷ is) = ap (λ (l : List ℕ). record_line numbers i ++ l) (lines_of numbers is)

pub record-pieces : (numbers : List ℕ) (n : ℕ) → pieces (record_line numbers) (up_to n) ≡ difference_lines (records_in n numbers)
unfolding records_in
record-pieces numbers n = lines_of numbers (up_to n)

-- ---- the verdict on the records

module _ (most : Limits) (count n : ℕ) where
  pub records-over : most_differences most < count → record { number = 2; place = 0 } ≡ records_verdict most count n
  unfolding records_verdict
  records-over h = rw (lt-ltb (most_differences most) count h)

  pub records-few : count ≤ most_differences most → refuse_if (not (leb (4 * count) n)) 3 0 ≡ records_verdict most count n
  unfolding records_verdict
  records-few h = rw (le-ltb (most_differences most) count h)

  module _ {v : Verdict} (e : v ≡ records_verdict most count n) where
    pub records-tell : v.number ≡ 0 → (count ≤ most_differences most) × (4 * count ≤ n)
    unfolding records_verdict
    records-tell z =
        let over : Bool = ltb (most_differences most) count in
        let both = passes-both (refuse_if over 2 0) (refuse_if (not (leb (4 * count) n)) 3 0) (zero_of e z) in
        (ltb-false (most_differences most) count (not-refused over 1 0 both.0), room-tells (4 * count) n both.1)

  pub records-enough : {v : Verdict} → v ≡ records_verdict most count n → 4 * count ≤ n → v.number ≢ 3
  unfolding records_verdict
  records-enough e h = rw (e, le-leb (4 * count) n h) (at-two (ltb (most_differences most) count))

-- ---- what is told of an answer

-- neither records nor a refusal are a split, so that no side of it can be bad
pub no_sides : (lent : Bool) → refuse_if (not lent) 3 0 ≡ room_verdict [] lent
unfolding room_verdict lowest
no_sides true = refl
no_sides false = refl

pub as-line : (t room : List ℕ) → printing (room_verdict [] (leb (length t) (length room))) t room ≡ into_room t room
as-line t room = ap (λ (v : Verdict). printing v t room) (sym (no_sides (leb (length t) (length room))))

module _ (most : Limits) (a : Compared) (numbers room : List ℕ) where
  -- as the answer is refused or not
  abbrev telling : Bool → Printing
  telling b =
      let t : List ℕ = cond b (difference_lines (records_in a.count numbers)) (refused_of a.job a.verdict) in
      let short : Verdict = refuse_if (not (leb (length t) (length room))) 3 0 in
      printing (cond b (records_verdict most a.count (length numbers) or_else short) short) t room

  pub comparison-refused : a.verdict.number ≢ 0 → comparison_telling most a numbers room ≡ into_room (refused_of a.job a.verdict) room
  unfolding comparison_telling comparison_text
  comparison-refused h = ap telling (ne_eqb a.verdict.number 0 h)

  pub comparison-told : a.verdict.number ≡ 0 → ToldAfter (comparison_telling most a numbers room)
      (records_verdict most a.count (length numbers)) [] (difference_lines (records_in a.count numbers)) room
  unfolding comparison_telling comparison_text
  comparison-told h =
      let t : List ℕ = difference_lines (records_in a.count numbers) in
      record {
        is = ap telling (eq-eqb a.verdict.number 0 h)
            ∙ ap (λ (w : Verdict). printing (records_verdict most a.count (length numbers) or_else w) t room) (no_sides (leb (length t) (length room)));
      }
