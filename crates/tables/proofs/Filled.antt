-- Entries made one value, over any kind of entry. Assumes nothing.
use mathlib.Core.Path.{◌≡◌, refl, sym, ap, ap₂, ◌∙◌}
use Prim.Native.Nat.{ℕ, ◌+◌, ◌-◌, ◌≤◌, ◌<◌}
use mathlib.Core.Bool.{true, false, ◌&&◌, ◌||◌}
use mathlib.Core.List.{List, [], ◌∷◌, ◌++◌, append-nil}
use native.Mathlib.Numerals.{add-one}
use native.Mathlib.Omega.{arith}
use lib.Dec.{leb, ltb}
use lib.ListN.{length, set, take, drop, replicate, length-take, length-drop, replicate-append-replicate, drop_of_length-le}
use lib.Seq.{take-suc-set, drop-drop, take_all}
use borrow.Author.Tests.{ltb-false, leb-true, le-ltb, le-leb}
use borrow.Rule.Slice.PartMut.{put_mid}
use Rattle.rules.proofs.Tests.{clash, or_no, and_yes, contra}
use Rattle.tables.specs.Clearing.{cleared, cleared_in}

-- a list has the places, by two tests
pub places-in : (a b n : ℕ) → (ltb b a || ltb n b) ≡ false → (a ≤ b) × (b ≤ n)
places-in a b n e =
    let p = or_no (ltb b a) (ltb n b) e in
    (ltb-false b a p.0, ltb-false n b p.1)

module _ {A : Type 0} (a b : ℕ) (v : A) (xs : List A) where
  pub cleared-in : a ≤ b → b ≤ length xs → cleared_in a b v xs ≡ cleared a b v xs
  cleared-in h k = rw (le-leb a b h, le-leb b (length xs) k) refl

  pub cleared-out : (ltb b a || ltb (length xs) b) ≡ true → xs ≡ cleared_in a b v xs
  cleared-out e =
      let none : (leb a b && leb b (length xs)) ≡ false = contra (leb a b && leb b (length xs)) (λ t.
      let p = and_yes (leb a b) (leb b (length xs)) t in
      clash (sym e ∙ rw (le-ltb b a (leb-true a b p.0), le-ltb (length xs) b (leb-true b (length xs) p.1)))) in
      rw none refl

  -- a part that was lent and came back all v
  pub cleared-lent : a ≤ b → b ≤ length xs → (ys : List A) (m : ℕ) → length ys ≡ length (take (b - a) (drop a xs)) → m ≡ length ys → take m ys ≡ replicate m v
      → put_mid a (b - a) xs ys ≡ cleared_in a b v xs
  cleared-lent h k ys m l n e =
      let end : a + (b - a) ≡ b = omega arith in
      let long : length ys ≡ b - a = omega (arith, l, length-take (b - a) (drop a xs), length-drop a xs) in
      let all : ys ≡ replicate (b - a) v = sym (take_all m ys (omega arith)) ∙ e ∙ ap (λ (i : ℕ). replicate i v) (n ∙ long) in
      ap (put_mid a (b - a) xs) all ∙ ap (λ (t : List A). take a xs ++ (replicate (b - a) v ++ t)) (drop-drop (b - a) a xs ∙ ap (λ (i : ℕ). drop i xs) end) ∙ sym (cleared-in h k)

module _ {A : Type 0} where
  -- one entry more is v
  pub front-more : (v : A) (k : ℕ) (xs : List A) → k < length xs → take k xs ≡ replicate k v → take (k + 1) (set xs k v) ≡ replicate (k + 1) v
  front-more v k xs h e = ap (λ (m : ℕ). take m (set xs k v)) (add-one k) ∙ take-suc-set xs k v h ∙ ap (λ (t : List A). t ++ (v ∷ [])) e ∙ replicate-append-replicate k 1 v

  -- a list cleared whole, and up to n
  pub cleared-all : (v : A) (old : List A) → cleared_in 0 (length old) v old ≡ replicate (length old) v
  cleared-all v old =
      let e : length old - 0 ≡ length old = omega arith in
      let l : length old ≤ length old = omega arith in
      cleared-in 0 (length old) v old (omega arith) l
      ∙ ap₂ (λ (m : ℕ) (t : List A). replicate m v ++ t) e (drop_of_length-le old l) ∙ append-nil (replicate (length old) v)

  pub cleared-front : (v : A) (n : ℕ) (old : List A) → cleared 0 n v old ≡ replicate n v ++ drop n old
  cleared-front v n old =
      let e : n - 0 ≡ n = omega arith in
      ap (λ (m : ℕ). replicate m v ++ drop n old) e
