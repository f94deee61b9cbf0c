-- What is told of an answer: the verdict on it in the parts that the steps ask. Assumes nothing.
use mathlib.Core.Path.{◌≡◌, refl, ap, ◌∙◌}
use mathlib.Core.Logic.{◌≢◌}
use Prim.Native.Nat.{ℕ, ◌≤◌}
use mathlib.Core.Bool.{Bool, true, false, not, cond, ◌&&◌}
use mathlib.Core.List.{List}
use native.Mathlib.Omega.{arith}
use lib.ListN.{length, get_or}
use lib.Dec.{leb, ltb, eqb}
use borrow.Author.Tests.{le-leb, ltb-false, eqb-true, eq-eqb}
use Rattle.rules.proofs.Tests.{not-no, and_yes}
use Rattle.rules.proofs.Verdicts.{passes-both, not-refused, zero_of}
use Rattle.rules.specs.declared.Verdict.{Verdict}
use Rattle.rules.specs.Numbers.{Figures, RunFigures, BalanceFigures}
use Rattle.rules.specs.Job.{Limits}
use Rattle.rules.specs.Check.{done, refuse_if, refuse_at, ◌or_else◌}
use Rattle.rules.specs.Report.{refusal, figure_lines, tells, report, of_files, split_verdict, Printing, printing, telling, reporting}
use Rattle.rules.specs.Balance.{balance_lines, balance_report, balance_reporting}
use Rattle.rules.specs.Trace.{Listing, pass_lines, trace, holds_pass, tracing}
use Rattle.report.specs.Steps.{lengths_verdict, room_verdict, EachFile}
use Rattle.report.proofs.Printings.{ToldAfter}

-- ---- the verdict in two parts

two-parts : (over same lent : Bool) (last : Verdict)
    → (refuse_if over 2 0 or_else refuse_if (not (same && lent)) 3 0 or_else last)
    ≡ ((refuse_if over 2 0 or_else refuse_if (not same) 3 0) or_else (refuse_if (not lent) 3 0 or_else last))
two-parts true same lent last = refl
two-parts false true lent last = refl
two-parts false false lent last = refl

split_parts : (most : Limits) (sizes sides marks : List ℕ) (lent : Bool)
    → split_verdict most sizes marks sides lent ≡ (lengths_verdict most.files sizes sides marks or_else room_verdict sides lent)
unfolding lengths_verdict room_verdict
split_parts most sizes sides marks lent =
    two-parts (ltb most.files (length sizes)) (eqb (length sides) (length sizes) && eqb (length marks) (length sizes)) lent
    (refuse_at 6 (λ f. ltb 1 (get_or sides f 0)) (length sides))

-- what is lent is lists that hold the pass, and room
held-part : (v last : Verdict) (held lent : Bool)
    → (v or_else (refuse_if (not (held && lent)) 3 0 or_else last)) ≡ ((v or_else refuse_if (not held) 3 0) or_else (refuse_if (not lent) 3 0 or_else last))
held-part v last held lent = go (eqb v.number 0) refl held
  where
    go : (b : Bool) → eqb v.number 0 ≡ b → (held : Bool)
        → cond b (refuse_if (not (held && lent)) 3 0 or_else last) v ≡ (cond b (refuse_if (not held) 3 0) v or_else (refuse_if (not lent) 3 0 or_else last))
    go true e true = refl
    go true e false = refl
    go false e held = rw e

told-parts : (most : Limits) (sizes sides marks : List ℕ) (held lent : Bool)
    → split_verdict most sizes marks sides (held && lent) ≡ ((lengths_verdict most.files sizes sides marks or_else refuse_if (not held) 3 0) or_else room_verdict sides lent)
unfolding room_verdict
told-parts most sizes sides marks held lent =
    split_parts most sizes sides marks (held && lent)
    ∙ held-part (lengths_verdict most.files sizes sides marks) (refuse_at 6 (λ f. ltb 1 (get_or sides f 0)) (length sides)) held lent

pub lengths-tell : (most : ℕ) (sizes sides marks : List ℕ) {v : Verdict} → v ≡ lengths_verdict most sizes sides marks → v.number ≡ 0 → EachFile most sizes sides marks
unfolding lengths_verdict
lengths-tell most sizes sides marks e z =
    let over : Bool = ltb most (length sizes) in
    let each : Bool = eqb (length sides) (length sizes) && eqb (length marks) (length sizes) in
    let both = passes-both (refuse_if over 2 0) (refuse_if (not each) 3 0) (zero_of e z) in
    let same = and_yes _ _ (not-no each (not-refused (not each) 2 0 both.1)) in
    record {
      few = ltb-false most (length sizes) (not-refused over 1 0 both.0);
      sided = eqb-true (length sides) (length sizes) same.0;
      marked = eqb-true (length marks) (length sizes) same.1;
    }

-- ---- 3 is given for want of room alone

-- a text of n bytes, and room for m at least
module _ (m n : ℕ) (t room : List ℕ) (e : n ≡ length t) (h : n ≤ m) (long : m ≤ length room) where
  text-fits : leb (length t) (length room) ≡ true
  text-fits = le-leb (length t) (length room) (omega (arith, e))

  pub refusal-enough : {v : Verdict} → v ≡ refuse_if (not (leb (length t) (length room))) 3 0 → v.number ≢ 3
  refusal-enough q = rw (q, text-fits) (λ z. omega (arith, z))

pub at-two : (b : Bool) → (refuse_if b 2 0 or_else done).number ≢ 3
at-two true z = omega (arith, z)
at-two false z = omega (arith, z)

pub lengths-enough : (most : ℕ) (sizes sides marks : List ℕ) {v : Verdict} → v ≡ lengths_verdict most sizes sides marks
    → length sides ≡ length sizes → length marks ≡ length sizes → v.number ≢ 3
unfolding lengths_verdict
lengths-enough most sizes sides marks e sided marked =
    rw (e, eq-eqb (length sides) (length sizes) sided, eq-eqb (length marks) (length sizes) marked) (at-two (ltb most (length sizes)))

-- ---- what is told of an answer: its lines, or its refusal

module _ (most : Limits) (sizes sides marks : List ℕ) (v : Verdict) (lines room : List ℕ) (h : v.number ≡ 0) where
  -- where the answer is not refused
  lines-told : (held : Bool) → telling most sizes marks sides v held (tells v lines) room
      ≡ printing (split_verdict most sizes marks sides (held && leb (length lines) (length room))) lines room
  lines-told held = ap answered (eq-eqb v.number 0 h)
    where
      text : Bool → List ℕ
      text b = elim b [ true ↦ lines | false ↦ refusal v ]

      answered : Bool → Printing
      answered b =
          let lent = leb (length (text b)) (length room) in
          printing (cond b (split_verdict most sizes marks sides (held && lent)) (refuse_if (not lent) 3 0)) (text b) room

  -- its text has no other list than the split
  split-lines : ToldAfter (telling most sizes marks sides v true (tells v lines) room) (lengths_verdict most.files sizes sides marks) sides lines room
  split-lines = record { is = lines-told true ∙ ap (λ (w : Verdict). printing w lines room) (split_parts most sizes sides marks (leb (length lines) (length room))) }

pub reporting-told : (most : Limits) (sizes marks : List ℕ) (r : RunFigures) (sides room : List ℕ) → r.figures.verdict.number ≡ 0
    → ToldAfter (reporting most sizes marks r sides room) (lengths_verdict most.files sizes sides marks) sides (figure_lines (of_files sizes marks) r sides) room
unfolding reporting report
reporting-told most sizes marks r sides room h = split-lines most sizes sides marks r.figures.verdict (figure_lines (of_files sizes marks) r sides) room h

pub balance-told : (most : Limits) (sizes marks : List ℕ) (a : BalanceFigures) (sides room : List ℕ) → a.verdict.number ≡ 0
    → ToldAfter (balance_reporting most sizes marks a sides room) (lengths_verdict most.files sizes sides marks) sides (balance_lines (of_files sizes marks) a sides) room
unfolding balance_reporting balance_report
balance-told most sizes marks a sides room h = split-lines most sizes sides marks a.verdict (balance_lines (of_files sizes marks) a sides) room h

pub tracing-told : (most : Limits) (sizes marks : List ℕ) (f : Figures) (sides : List ℕ) (l : Listing) (room : List ℕ) → f.verdict.number ≡ 0
    → ToldAfter (tracing most sizes marks f sides l room)
    (lengths_verdict most.files sizes sides marks or_else refuse_if (not (holds_pass sizes f l)) 3 0) sides (pass_lines (of_files sizes marks) f sides l) room
unfolding tracing trace
tracing-told most sizes marks f sides l room h =
    let lines : List ℕ = pass_lines (of_files sizes marks) f sides l in
    record {
      is = lines-told most sizes sides marks f.verdict lines room h (holds_pass sizes f l)
          ∙ ap (λ (v : Verdict). printing v lines room) (told-parts most sizes sides marks (holds_pass sizes f l) (leb (length lines) (length room)));
    }
