-- Tests taken apart and put together. Assumes nothing.
use mathlib.Core.Path.{◌≡◌, refl, sym, ap, ◌∙◌}
use Prim.Native.Nat.{ℕ}
use mathlib.Core.Bool.{Bool, true, false, not, ◌&&◌, ◌||◌}
use native.Mathlib.Omega.{arith}

pub clash {ℓ} : {X : Type ℓ} → true ≡ false → X
clash e = let z : ◌≡◌ {A = ℕ} 0 1 = cc in absurd (omega arith)

pub or_no : (a b : Bool) → (a || b) ≡ false → (a ≡ false) × (b ≡ false)
or_no true b h = clash h
or_no false b h = (refl, h)

pub and_yes : (a b : Bool) → (a && b) ≡ true → (a ≡ true) × (b ≡ true)
and_yes true b h = (refl, h)
and_yes false b h = clash (sym h)

pub and_no : (a b : Bool) → (a && b) ≡ false → a ≡ true → b ≡ false
and_no a b h e = sym (ap (λ (t : Bool). t && b) e) ∙ h

pub and_both : {a b : Bool} → a ≡ true → b ≡ true → (a && b) ≡ true
and_both {a} {b} e z = ap (λ (t : Bool). t && b) e ∙ z

pub and-true : (b : Bool) → (b && true) ≡ b
and-true true = refl
and-true false = refl

pub and-false : (b : Bool) → (b && false) ≡ false
and-false true = refl
and-false false = refl

pub not-no : (a : Bool) → not a ≡ false → a ≡ true
not-no true h = refl
not-no false h = clash h

pub contra : (b : Bool) → (b ≡ true → ⊥) → b ≡ false
contra true h = absurd (h refl)
contra false h = refl

pub contra' : (b : Bool) → (b ≡ false → ⊥) → b ≡ true
contra' true h = refl
contra' false h = absurd (h refl)
