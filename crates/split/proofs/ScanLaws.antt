-- One scan over the pins of a recipe: one pin more, and how far an entry goes. Assumes nothing.
use mathlib.Core.Path.{◌≡◌, refl, sym, ap, ◌∙◌}
use Prim.Native.Nat.{ℕ, zero, suc, ◌+◌, ◌-◌, ◌≤◌, ◌<◌, ◌^◌}
use mathlib.Core.Bool.{Bool, true, false, cond, ◌&&◌}
use mathlib.Core.List.{List, [], ◌∷◌, ◌++◌}
use native.Mathlib.Numerals.{add-one}
use native.Mathlib.Omega.{arith}
use lib.Dec.{eqb}
use lib.IntN.{ℤ, pos, negsuc, ◌+ℤ◌}
use lib.ListN.{length, get_or, set, take, length-take}
use lib.Seq.{take-suc, set-get_or}
use Rattle.rules.specs.Lists.{diff}
use Rattle.rules.specs.Move.{State, reaches, touches, change, raises, scan_pins}
use Rattle.rules.proofs.Signed.{abs, abs-add}
use Rattle.rules.proofs.Steps.{scan-more}
use Rattle.split.specs.Scanning.{shifted_by, RoomFor}

-- a test that picks between a store and none is a store of what is picked
set-cond : (b : Bool) (g : List ℤ) (x : ℕ) (v : ℤ) → set g x (cond b v (get_or g x (pos 0))) ≡ cond b (set g x v) g
set-cond true g x v = refl
set-cond false g x v = set-get_or g x (pos 0)

-- one pin more, as a loop has it: the file's gain is stored, changed or not
pub scan-pin : (st : State) (t k : ℕ) (r : List ℕ) (i : ℕ) (g : List ℤ) {h : List ℤ} → i < length r → h ≡ scan_pins st t k (take i r) g
    → set h (get_or r i 0) (shifted_by (get_or h (get_or r i 0) (pos 0)) (get_or st.locks (get_or r i 0) 0) (get_or st.sides (get_or r i 0) 0) t (1 - t) k)
    ≡ scan_pins st t k (take (i + 1) r) g
scan-pin st t k r i g {h} l e =
    let x : ℕ = get_or r i 0 in
    let q : scan_pins st t k (take (i + 1) r) g ≡ scan_pins st t k (take i r ++ (x ∷ [])) g = rw (add-one, take-suc r i 0) in
    set-cond (touches st t k x) h x (get_or h x (pos 0) +ℤ change k)
    ∙ ap (λ (y : List ℤ). cond (touches st t k x) (set y x (get_or y x (pos 0) +ℤ change k)) y) e
    ∙ sym (scan-more st t k (take i r) x g)
    ∙ sym q

step-abs : (z : ℤ) (b : Bool) → abs (z +ℤ cond b (pos 1) (negsuc 0)) ≤ abs z + 1
unfolding diff
step-abs z true = abs-add z 1 0
step-abs z false = abs-add z 0 1

-- a scan changes a gain by at most one
pub change-abs : (z : ℤ) (k : ℕ) → abs (z +ℤ change k) ≤ abs z + 1
change-abs z k = step-abs z (raises k)

set-abs : (g : List ℤ) (x f k : ℕ) → abs (get_or (set g x (get_or g x (pos 0) +ℤ change k)) f (pos 0)) ≤ abs (get_or g f (pos 0)) + 1
set-abs [] x f k = omega arith
set-abs (a ∷ g) zero zero k = change-abs a k
set-abs (a ∷ g) zero (suc f) k = omega arith
set-abs (a ∷ g) (suc x) zero k = omega arith
set-abs (a ∷ g) (suc x) (suc f) k = set-abs g x f k

cond-abs : (b : Bool) (g : List ℤ) (x f k : ℕ)
    → abs (get_or (cond b (set g x (get_or g x (pos 0) +ℤ change k)) g) f (pos 0)) ≤ abs (get_or g f (pos 0)) + 1
cond-abs true g x f k = set-abs g x f k
cond-abs false g x f k = omega arith

-- an entry goes up or down by at most the number of pins
pub scan-abs : (st : State) (t k : ℕ) (r : List ℕ) (g : List ℤ) (f : ℕ) → abs (get_or (scan_pins st t k r g) f (pos 0)) ≤ abs (get_or g f (pos 0)) + length r
unfolding scan_pins
scan-abs st t k [] g f = omega arith
scan-abs st t k (x ∷ r) g f = omega (arith, scan-abs st t k r (cond (touches st t k x) (set g x (get_or g x (pos 0) +ℤ change k)) g) f, cond-abs (touches st t k x) g x f k)

-- on the way an entry has room for one step more
pub scan-room : (st : State) (t k : ℕ) (r : List ℕ) (i : ℕ) (g : List ℤ) {h : List ℤ} → i < length r → h ≡ scan_pins st t k (take i r) g → RoomFor g (length r)
    → (f : ℕ) → abs (get_or h f (pos 0)) < 2 ^ 31 - 1
scan-room st t k r i g {h} l e room f =
    omega (arith, ap (λ (y : List ℤ). abs (get_or y f (pos 0))) e, scan-abs st t k (take i r) g f, length-take i r, room f)

-- ---- the cases of a scan's change, by the tests of the definition

module _ (g : ℤ) (lock side there left kind : ℕ) where
  abbrev reached : Bool
  reached = eqb lock 0 && reaches (eqb side there) (eqb side left) kind

  pub shifts-up : reached ≡ true → raises kind ≡ true → g +ℤ pos 1 ≡ shifted_by g lock side there left kind
  shifts-up p q = sym (ap (λ (t : Bool). cond t (g +ℤ change kind) g) p ∙ ap (λ (t : Bool). g +ℤ cond t (pos 1) (negsuc 0)) q)

  pub shifts-down : reached ≡ true → raises kind ≡ false → g +ℤ negsuc 0 ≡ shifted_by g lock side there left kind
  shifts-down p q = sym (ap (λ (t : Bool). cond t (g +ℤ change kind) g) p ∙ ap (λ (t : Bool). g +ℤ cond t (pos 1) (negsuc 0)) q)

  pub shifts_none : reached ≡ false → g ≡ shifted_by g lock side there left kind
  shifts_none p = sym (ap (λ (t : Bool). cond t (g +ℤ change kind) g) p)
