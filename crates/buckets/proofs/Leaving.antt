-- A file leaves: what named it names its next. Assumes nothing.
use mathlib.Core.Path.{◌≡◌, refl, sym, ap, ◌∙◌}
use mathlib.Core.Logic.{inl, inr, ⊎_elim, ◌≢◌}
use Prim.Native.Nat.{ℕ, ◌+◌, ◌<◌}
use mathlib.Core.Bool.{not}
use mathlib.Core.List.{List}
use native.Mathlib.Omega.{arith}
use lib.ListN.{length, get_or}
use lib.Dec.{eqb}
use borrow.Author.Tests.{eqb-false, not-true}
use Rattle.rules.specs.Fronts.{without, to_front}
use Rattle.buckets.specs.Links.{joined, entered, left}
use Rattle.buckets.specs.StandFor.{◌∈◌, in_slot, Follows, Joined, Linked}
use Rattle.buckets.proofs.Stores.{joined_length, joined-else, joins, stays}
use Rattle.buckets.proofs.Rows.{those-pass, those-swap, source, target, before, next, closes}
use Rattle.buckets.proofs.Linking.{Row, own-bucket, elsewhere, place-below, file-below, same_place}
use Rattle.buckets.proofs.Entering.{enters}

pub gone : (f g : ℕ) (order : List ℕ) → g ∈ without order f → g ≢ f
gone f g order m = eqb-false g f (not-true (eqb g f) (those-pass (λ g. not (eqb g f)) g order m).0)

module _ {files slots : ℕ} {slot : ℕ → ℕ} {order z : List ℕ} (l : Linked files slots slot order z) (f : ℕ) (held : f ∈ order) where
  abbrev back : ℕ
  back = files + slots

  hf : f < files
  hf = (l.known f held).0

  hs : slot f < slots
  hs = (l.known f held).1

  -- the place that names f, and f's next
  ahead : (u : ℕ) × Row l (slot f) u f
  ahead = before files (in_slot slot (slot f) order) (files + slot f) f (own-bucket l f held)

  behind : (v : ℕ) × Row l (slot f) f v
  behind = next files (in_slot slot (slot f) order) (files + slot f) f (own-bucket l f held)

  abbrev p : ℕ
  p = ahead.0

  abbrev q : ℕ
  q = behind.0

  p-names-f : Joined files back z p f
  p-names-f = l.rows (slot f) p f hs ahead.1

  f-names-q : Joined files back z f q
  f-names-q = l.rows (slot f) f q hs behind.1

  fits : (p < back) × (back + q < length z)
  fits = (place-below l (slot f) p f ahead.1 hs, omega (arith, file-below l (slot f) f q behind.1, l.long))

  rows : (s u v : ℕ) → s < slots → Follows files (files + s) (in_slot slot s (without order f)) u v → Joined files back (joined back p q z) u v
  rows s u v h n = elim (closes files f (in_slot slot s order) (files + s) u v n') [
    | inl k ↦
        let j = l.rows s u v h k in
        stays files back p q z fits.0 fits.1 j (place-below l s u v k h)
        (λ e. not-next (sym j.next ∙ ap (λ (x : ℕ). get_or z x 0) e ∙ p-names-f.next))
        (λ x e. not-place (same_place x j (rw (sym e) at f-names-q)))
    | inr k ↦
        let a : u ≡ p = same_place (λ e. omega (arith, hf)) (l.rows s u f h k.0) p-names-f in
        let b : v ≡ q = sym (l.rows s f v h k.1).next ∙ f-names-q.next in
        rw (a, b) (joins files back p q z fits.0 fits.1)
  ]
    where
      n' : Follows files (files + s) (without (in_slot slot s order) f) u v
      n' = rw (those-swap (λ g. eqb (slot g) s) (λ g. not (eqb g f)) order) at n

      not-place : u ≢ f
      not-place e = ⊎_elim (λ m. omega (arith, hf)) (λ m. gone f u (in_slot slot s order) m e) (source files (without (in_slot slot s order) f) (files + s) u v n')

      not-next : v ≢ f
      not-next e = ⊎_elim (λ m. omega (arith, hf)) (λ m. gone f v (in_slot slot s order) m e) (target files (without (in_slot slot s order) f) (files + s) u v n')

  pub leaves : Linked files slots slot (without order f) (left back f z)
  leaves = record {
    long = simp joined_length l.long;
    known = λ g m. l.known g (those-pass (λ g. not (eqb g f)) g order m).1;
    rows = rw (p-names-f.previous (λ e. omega (arith, hf)), f-names-q.next) rows;
  }

  -- what stands behind the previouses stays
  pub left-else : (at : ℕ) → back + files < at → get_or (left back f z) at 0 ≡ get_or z at 0
  left-else at h =
      let b = file-below l (slot f) f q behind.1 in
      rw (p-names-f.previous (λ e. omega (arith, hf)), f-names-q.next)
      (joined-else back p q z at (λ e. omega (arith, fits.0)) (λ e. omega arith))

  -- ---- its slot changes, and no other's: it leaves and enters anew

  module _ (slot' : ℕ → ℕ) (same : (g : ℕ) → g ≢ f → slot' g ≡ slot g) (hs' : slot' f < slots) where
    out : Linked files slots slot' (without order f) (left back f z)
    out = elsewhere leaves slot' (λ g m. same g (gone f g order m))

    pub reenters : Linked files slots slot' (to_front order f) (entered back (files + slot' f) f (left back f z))
    reenters = enters out f (λ m. gone f f order m refl) hf hs'
