-- A file turned over, and moves taken back one by one, the latest first. Assumes nothing.
use mathlib.Core.Path.{◌≡◌, refl, sym, ap, ◌∙◌}
use mathlib.Core.List.{List, [], ◌∷◌}
use Prim.Native.Nat.{ℕ, zero, suc, ◌+◌, ◌-◌, ◌≤◌, ◌<◌}
use native.Mathlib.Omega.{arith}
use lib.ListN.{length, get_or, set, get_or-eq_default}
use Rattle.rules.specs.Split.{other, side_of}
use Rattle.tables.specs.Ending.{turned, back_to}

-- beyond the list nothing is stored
set_beyond : {A : Type 0} (xs : List A) (i : ℕ) (a : A) → length xs ≤ i → set xs i a ≡ xs
set_beyond [] i a h = refl
set_beyond (x ∷ xs) zero a h = absurd (omega (arith, h))
set_beyond {A = A} (x ∷ xs) (suc i) a h = ap (λ (ys : List A). x ∷ ys) (set_beyond xs i a (omega (arith, h)))

pub turned-beyond : (sides : List ℕ) (f : ℕ) → length sides ≤ f → (1 ≡ 1 - side_of sides f) × (sides ≡ turned sides f)
turned-beyond sides f h = (ap (λ (s : ℕ). 1 - s) (sym (get_or-eq_default sides 0 h)), sym (set_beyond sides f (other (side_of sides f)) h))

module _ (tried : List ℕ) (best k : ℕ) (sides : List ℕ) where
  -- one move more
  pub back-one : best < k → back_to tried best (k - best) sides ≡ back_to tried best (k - 1 - best) (turned sides (get_or tried (k - 1) 0))
  unfolding back_to
  back-one h =
      let e : k - best ≡ suc (k - 1 - best) = omega arith in
      let a : best + (k - 1 - best) ≡ k - 1 = omega arith in
      ap (λ (d : ℕ). back_to tried best d sides) e ∙ ap (λ (i : ℕ). back_to tried best (k - 1 - best) (turned sides (get_or tried i 0))) a

  -- and none
  pub back-none : k ≤ best → sides ≡ back_to tried best (k - best) sides
  unfolding back_to
  back-none h =
      let e : k - best ≡ 0 = omega arith in
      ap (λ (d : ℕ). back_to tried best d sides) (sym e)
