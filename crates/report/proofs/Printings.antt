-- What is told, printed: refused for want of room or for a bad side, or laid. Assumes nothing.
use mathlib.Core.Path.{◌≡◌, refl, sym, ap, subst, ◌∙◌}
use Prim.Native.Nat.{ℕ, ◌≤◌}
use mathlib.Core.Bool.{true, not}
use mathlib.Core.List.{List, []}
use native.Mathlib.Omega.{arith}
use lib.ListN.{length, get_or}
use lib.Dec.{leb, ltb}
use borrow.Author.Tests.{ltb-false, leb-true, le-leb, ne_eqb}
use Rattle.std.specs.Prelude.{Result, Ok, Err}
use Rattle.std.specs.Result.{IsErrAnd, is_ok}
use Rattle.rules.specs.declared.Verdict.{Verdict}
use Rattle.rules.specs.declared.refusal.Refusal.{Refusal}
use Rattle.rules.specs.Numbers.{verdict_of}
use Rattle.rules.specs.Cases.{as_verdict, as_printed}
use Rattle.rules.specs.Lists.{onto}
use Rattle.rules.specs.Check.{done, refuse_if, refuse_at, ◌or_else◌}
use Rattle.rules.specs.Report.{Printing, printed, printing}
use Rattle.rules.proofs.Exits.{exit-is, not-done, done-goes}
use Rattle.rules.proofs.Tests.{clash, not-no}
use Rattle.rules.proofs.Verdicts.{chain-stop, not-refused, zero_of}
use Rattle.report.specs.Laying.{Laid}
use Rattle.report.specs.Steps.{room_verdict}
use Rattle.report.proofs.Exits.{fewer}
use Rattle.report.proofs.Laying.{counts-text, laid-onto}

pub room-tells : (a b : ℕ) → (refuse_if (not (leb a b)) 3 0).number ≡ 0 → a ≤ b
room-tells a b h = leb-true a b (not-no (leb a b) (not-refused (not (leb a b)) 2 0 h))

-- the verdict settles what is printed
module _ {v : Verdict} (t room : List ℕ) where
  pub not-printed : (x : Result ℕ Refusal) (r : Refusal) → IsErrAnd x (λ y. y ≡ r) → verdict_of r ≡ v → printed (as_printed x) room ≡ printing v t room
  unfolding printing
  not-printed x r h e = rw (exit-is x r h, ← e, ne_eqb (verdict_of r).number 0 (not-done r), printing, e) refl

  pub is-printed : {n : ℕ} {after : List ℕ} → done ≡ v → n ≡ length t → after ≡ onto t room → printed (record { verdict = done; bytes = n }) after ≡ printing v t room
  unfolding printing
  is-printed e l a = rw (← e, l, a) refl

-- the room is long enough, or not, by the count of the text in a room of none
module _ {t : List ℕ} (sides room : List ℕ) {n : ℕ} {last : List ℕ} (l : Laid 0 t [] n last) where
  short-of : {v : Verdict} → v ≡ refuse_if (ltb (length room) n) 3 0 → v ≡ refuse_if (not (leb (length t) (length room))) 3 0
  short-of q = fewer (length room) (length t) (rw (← counts-text l) q)

  pub no-room : (x : Result ℕ Refusal) (r : Refusal) → IsErrAnd x (λ y. y ≡ r) → verdict_of r ≡ refuse_if (ltb (length room) n) 3 0
      → printed (as_printed x) room ≡ printing (room_verdict sides (leb (length t) (length room))) t room
  unfolding room_verdict
  no-room x r h q = not-printed t room x r h (chain-stop _ (short-of q) (not-done r))

  module _ (roomy : done ≡ refuse_if (ltb (length room) n) 3 0) where
    pub bad-sides : (x : Result ℕ Refusal) (r : Refusal) → IsErrAnd x (λ y. y ≡ r) → verdict_of r ≡ refuse_at 6 (λ f. ltb 1 (get_or sides f 0)) (length sides)
        → printed (as_printed x) room ≡ printing (room_verdict sides (leb (length t) (length room))) t room
    unfolding room_verdict
    bad-sides x r h q = not-printed t room x r h (done-goes (short-of roomy) q)

    long-enough : length t ≤ length room
    long-enough = omega (arith, counts-text l, ltb-false (length room) n (not-refused (ltb (length room) n) 2 0 (zero_of roomy refl)))

    pub all-laid : {m : ℕ} {after : List ℕ} → done ≡ refuse_at 6 (λ f. ltb 1 (get_or sides f 0)) (length sides) → Laid 0 t room m after
        → printed (record { verdict = done; bytes = n }) after ≡ printing (room_verdict sides (leb (length t) (length room))) t room
    unfolding room_verdict
    all-laid q w = is-printed t room (done-goes (short-of roomy) q) (counts-text l) (laid-onto w long-enough)

-- a check that lets through is done
pub lets-through : (x : Result (Unit {0}) Refusal) {v : Verdict} → true ≡ is_ok x → as_verdict x ≡ v → done ≡ v
lets-through (Ok u) h e = e
lets-through (Err r) h e = clash h

-- the text is laid at once, where it is known to fit
module _ {t : List ℕ} (sides room : List ℕ) {n : ℕ} {after : List ℕ} (l : Laid 0 t room n after) (few : n ≤ length room) where
  known : length t ≤ length room
  known = omega (arith, counts-text l, few)

  pub laid-at-once : done ≡ refuse_at 6 (λ f. ltb 1 (get_or sides f 0)) (length sides)
      → printed (record { verdict = done; bytes = n }) after ≡ printing (room_verdict sides (leb (length t) (length room))) t room
  unfolding room_verdict
  laid-at-once q =
      let roomy : done ≡ refuse_if (not (leb (length t) (length room))) 3 0 = rw (le-leb (length t) (length room) known) refl in
      is-printed t room (done-goes roomy q) (counts-text l) (laid-onto l known)

-- ---- a text told: refused before it is counted, or then

pub record ToldAfter (whole : Printing) (first : Verdict) (sides t room : List ℕ) : Type 0 where
  pub is : whole ≡ printing (first or_else room_verdict sides (leb (length t) (length room))) t room

module _ {whole : Printing} {first : Verdict} {sides t room : List ℕ} (told : ToldAfter whole first sides t room) where
  pub told-none : (x : Result ℕ Refusal) (r : Refusal) → IsErrAnd x (λ y. y ≡ r) → verdict_of r ≡ first → printed (as_printed x) room ≡ whole
  told-none x r h e = not-printed t room x r h (chain-stop _ e (not-done r)) ∙ sym told.is

  pub told-all : (x : Result ℕ Refusal) (after u : List ℕ) → done ≡ first → u ≡ t
      → printed (as_printed x) after ≡ printing (room_verdict sides (leb (length u) (length room))) u room
      → printed (as_printed x) after ≡ whole
  told-all x after u d e p =
      let P : List ℕ → Type 0 = λ (v : List ℕ). printed (as_printed x) after ≡ printing (room_verdict sides (leb (length v) (length room))) v room in
      subst P e p ∙ ap (λ (v : Verdict). printing v t room) (done-goes d refl) ∙ sym told.is

-- the verdict of what a `?` hands out
pub refused-verdict : (x : Result ℕ Refusal) (r : Refusal) {v : Verdict} → IsErrAnd x (λ y. y ≡ r) → verdict_of r ≡ v → (as_printed x).verdict ≡ v
refused-verdict x r h e = rw (exit-is x r h) e
