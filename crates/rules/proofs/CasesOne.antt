-- The numbers of an answer tell the whole answer: `verdict_of`, and each `as_x` of specs/Cases.antt, is one to one.
-- Each is undone by a function back: the number tells which refusal it is, and 0 that it is none. Assumes nothing.
use mathlib.Core.Path.{◌≡◌, refl, sym, ap, ◌∙◌}
use Prim.Native.Nat.{ℕ}
use mathlib.Core.Bool.{cond}
use lib.Dec.{eqb}
use Rattle.std.specs.Prelude.{Result, Ok, Err}
use Rattle.rules.specs.declared.refusal.Refusal.{Refusal}
use Rattle.rules.specs.declared.refusal.Refusal.TheVariants.{Empty, OverMost, WrongLength, BadBounds, BadPin, BadFile, BadRatio, NoneFree, Unbalanced, MayEmpty, BadTotal, BadCheck, BadLayout, NoEdition}
use Rattle.rules.specs.declared.Verdict.{Verdict}
use Rattle.rules.specs.declared.Measured.{Measured}
use Rattle.rules.specs.declared.Passed.{Passed}
use Rattle.rules.specs.declared.Ran.{Ran}
use Rattle.rules.specs.declared.Balanced.{Balanced}
use Rattle.rules.specs.declared.HandedOut.{HandedOut}
use Rattle.rules.specs.declared.Header.{Header}
use Rattle.rules.specs.Numbers.{verdict_of, Measure, Figures, RunFigures, ReadFigures, Printed, Handed, BalanceFigures}
use Rattle.rules.specs.Cases.{as_verdict, as_measure, as_figures, as_run_figures, as_read_figures, as_printed, as_handed, as_balance_figures}

-- what is undone is one to one
pub undone : {A B : Type 0} (f : A → B) (back : B → A) → ((x : A) → back (f x) ≡ x) → (x y : A) → f x ≡ f y → x ≡ y
undone f back h x y e = sym (h x) ∙ (ap back e ∙ h y)

-- the refusal of a number and a place
abbrev refusal_of : Verdict → Refusal
refusal_of v =
    cond (eqb v.number 1) Empty
    (cond (eqb v.number 2) OverMost
    (cond (eqb v.number 3) WrongLength
    (cond (eqb v.number 4) (BadBounds v.place)
    (cond (eqb v.number 5) (BadPin v.place)
    (cond (eqb v.number 6) (BadFile v.place)
    (cond (eqb v.number 7) BadRatio
    (cond (eqb v.number 8) NoneFree
    (cond (eqb v.number 9) Unbalanced
    (cond (eqb v.number 10) MayEmpty
    (cond (eqb v.number 20) BadTotal
    (cond (eqb v.number 21) (BadCheck v.place)
    (cond (eqb v.number 22) (BadLayout v.place)
    NoEdition))))))))))))

refusal-back : (r : Refusal) → refusal_of (verdict_of r) ≡ r
refusal-back Empty = refl
refusal-back OverMost = refl
refusal-back WrongLength = refl
refusal-back (BadBounds recipe) = refl
refusal-back (BadPin position) = refl
refusal-back (BadFile file) = refl
refusal-back BadRatio = refl
refusal-back NoneFree = refl
refusal-back Unbalanced = refl
refusal-back MayEmpty = refl
refusal-back BadTotal = refl
refusal-back (BadCheck block) = refl
refusal-back (BadLayout block) = refl
refusal-back NoEdition = refl

pub verdict-one : (r s : Refusal) → verdict_of r ≡ verdict_of s → r ≡ s
verdict-one = undone verdict_of refusal_of refusal-back

-- the answer with this verdict, and this value where it is done
abbrev pub case_of : {A : Type 0} → Verdict → A → Result A Refusal
case_of v x = cond (eqb v.number 0) (Ok x) (Err (refusal_of v))

-- no refusal's number is 0
pub case-refused : {A : Type 0} (r : Refusal) (x : A) → case_of (verdict_of r) x ≡ Err r
case-refused Empty x = refl
case-refused OverMost x = refl
case-refused WrongLength x = refl
case-refused (BadBounds recipe) x = refl
case-refused (BadPin position) x = refl
case-refused (BadFile file) x = refl
case-refused BadRatio x = refl
case-refused NoneFree x = refl
case-refused Unbalanced x = refl
case-refused MayEmpty x = refl
case-refused BadTotal x = refl
case-refused (BadCheck block) x = refl
case-refused (BadLayout block) x = refl
case-refused NoEdition x = refl

verdict-back : (r : Result (Unit {0}) Refusal) → case_of (as_verdict r) tt ≡ r
verdict-back (Ok tt) = refl
verdict-back (Err r) = case-refused r tt

pub as_verdict-one : (r s : Result (Unit {0}) Refusal) → as_verdict r ≡ as_verdict s → r ≡ s
as_verdict-one = undone as_verdict (λ (v : Verdict). case_of v tt) verdict-back

-- each answer with figures, from its numbers
abbrev measured_of : Measure → Measured
measured_of m = record { cut = m.cut; size = m.size; unread = m.unread; holding = m.holding }

abbrev passed_of : Figures → Passed
passed_of f = record {
  before = f.before;
  cut = f.cut;
  size = f.size;
  tried = f.tried;
  kept = f.kept;
  scans = f.scans;
  visits = f.visits;
  unread = f.unread;
  holding = f.holding;
}

abbrev ran_of : RunFigures → Ran
ran_of r = record { figures = passed_of r.figures; passes = r.passes; settled = r.settled }

abbrev handed_out_of : Handed → HandedOut
handed_out_of h = record { output = h.output; errors = h.errors }

abbrev balanced_of : BalanceFigures → Balanced
balanced_of b = record { moves = b.moves; cut = b.cut; size = b.size; unread = b.unread; holding = b.holding }

abbrev measure_case : Measure → Result Measured Refusal
measure_case n = case_of n.verdict (measured_of n)

measure-back : (r : Result Measured Refusal) → measure_case (as_measure r) ≡ r
measure-back (Ok x) = refl
measure-back (Err r) = case-refused r _

pub as_measure-one : (r s : Result Measured Refusal) → as_measure r ≡ as_measure s → r ≡ s
as_measure-one = undone as_measure measure_case measure-back

abbrev figures_case : Figures → Result Passed Refusal
figures_case n = case_of n.verdict (passed_of n)

figures-back : (r : Result Passed Refusal) → figures_case (as_figures r) ≡ r
figures-back (Ok x) = refl
figures-back (Err r) = case-refused r _

pub as_figures-one : (r s : Result Passed Refusal) → as_figures r ≡ as_figures s → r ≡ s
as_figures-one = undone as_figures figures_case figures-back

abbrev run_figures_case : RunFigures → Result Ran Refusal
run_figures_case n = case_of n.figures.verdict (ran_of n)

run_figures-back : (r : Result Ran Refusal) → run_figures_case (as_run_figures r) ≡ r
run_figures-back (Ok x) = refl
run_figures-back (Err r) = case-refused r _

pub as_run_figures-one : (r s : Result Ran Refusal) → as_run_figures r ≡ as_run_figures s → r ≡ s
as_run_figures-one = undone as_run_figures run_figures_case run_figures-back

abbrev read_figures_case : ReadFigures → Result Header Refusal
read_figures_case n = case_of n.verdict n.header

read_figures-back : (r : Result Header Refusal) → read_figures_case (as_read_figures r) ≡ r
read_figures-back (Ok x) = refl
read_figures-back (Err r) = case-refused r _

pub as_read_figures-one : (r s : Result Header Refusal) → as_read_figures r ≡ as_read_figures s → r ≡ s
as_read_figures-one = undone as_read_figures read_figures_case read_figures-back

abbrev printed_case : Printed → Result ℕ Refusal
printed_case n = case_of n.verdict n.bytes

printed-back : (r : Result ℕ Refusal) → printed_case (as_printed r) ≡ r
printed-back (Ok x) = refl
printed-back (Err r) = case-refused r _

pub as_printed-one : (r s : Result ℕ Refusal) → as_printed r ≡ as_printed s → r ≡ s
as_printed-one = undone as_printed printed_case printed-back

abbrev handed_case : Handed → Result HandedOut Refusal
handed_case n = case_of n.verdict (handed_out_of n)

handed-back : (r : Result HandedOut Refusal) → handed_case (as_handed r) ≡ r
handed-back (Ok x) = refl
handed-back (Err r) = case-refused r _

pub as_handed-one : (r s : Result HandedOut Refusal) → as_handed r ≡ as_handed s → r ≡ s
as_handed-one = undone as_handed handed_case handed-back

abbrev balance_figures_case : BalanceFigures → Result Balanced Refusal
balance_figures_case n = case_of n.verdict (balanced_of n)

balance_figures-back : (r : Result Balanced Refusal) → balance_figures_case (as_balance_figures r) ≡ r
balance_figures-back (Ok x) = refl
balance_figures-back (Err r) = case-refused r _

pub as_balance_figures-one : (r s : Result Balanced Refusal) → as_balance_figures r ≡ as_balance_figures s → r ≡ s
as_balance_figures-one = undone as_balance_figures balance_figures_case balance_figures-back
