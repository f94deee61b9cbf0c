-- A file enters: it stands between its bucket's head and the file that was first. Assumes nothing.
use mathlib.Core.Path.{◌≡◌, refl, sym, ap, ◌∙◌}
use mathlib.Core.Logic.{inl, inr, ⊎_elim, ◌≢◌}
use Prim.Native.Nat.{ℕ, ◌+◌, ◌<◌}
use mathlib.Core.Bool.{Bool, true, false, cond}
use mathlib.Core.List.{List, ◌∷◌}
use native.Mathlib.Omega.{arith}
use lib.ListN.{length, get_or}
use lib.Dec.{eqb}
use borrow.Author.Tests.{eqb-true, eqb-false}
use Rattle.rules.specs.Lists.{those}
use Rattle.buckets.specs.Links.{joined, entered}
use Rattle.buckets.specs.StandFor.{◌∈◌, in_slot, first_or, Follows, Joined, Linked}
use Rattle.buckets.proofs.Stores.{joined_length, joined-else, joins, stays}
use Rattle.buckets.proofs.Rows.{rehead}
use Rattle.buckets.proofs.Linking.{Row, Held, in-bucket, has-next, is-next, place-below, file-below, heads-row, names-front, same_place}

module _ {files slots : ℕ} {slot : ℕ → ℕ} {order z : List ℕ} (l : Linked files slots slot order z)
    (f : ℕ) (fresh : ¬ (f ∈ order)) (hf : f < files) (hs : slot f < slots) where
  abbrev back : ℕ
  back = files + slots

  abbrev head : ℕ
  head = files + slot f

  abbrev first : ℕ
  first = first_or files (in_slot slot (slot f) order)

  -- after the first store of a pair, and after both
  abbrev once : List ℕ
  once = joined back f first z

  abbrev twice : List ℕ
  twice = joined back head f once

  fits : (back + first < length z) × (back + f < length once)
  fits = (omega (arith, file-below l (slot f) head first (heads-row l (slot f)), l.long), omega (arith, joined_length back f first z, l.long))

  stranger : (s g : ℕ) → Held l s g → g ≢ f
  stranger s g m e = fresh (rw e at m.2)

  stranger-next : (s u v : ℕ) → Row l s u v → v ≢ files → v ≢ f
  stranger-next s u v n x = ⊎_elim (λ e. absurd (x e)) (λ m. stranger s v m) (is-next l s u v n)

  head-names-f : Joined files back twice head f
  head-names-f = joins files back head f once (omega arith) fits.1

  f-names-first : Joined files back twice f first
  f-names-first =
      stays files back head f once (omega arith) fits.1 (joins files back f first z (omega arith) fits.0)
      (omega arith) (λ e. omega arith) (stranger-next (slot f) head first (heads-row l (slot f)))

  others-stay : (s u v : ℕ) → s < slots → Row l s u v → u ≢ head → Joined files back twice u v
  others-stay s u v h n d =
      let j = l.rows s u v h n in
      let b = place-below l s u v n h in
      let other : u ≢ f = ⊎_elim (λ e q. omega arith) (λ m. stranger s u m) (has-next l s u v n) in
      let apart : v ≢ files → v ≢ first = λ x e. d (same_place x j (rw (sym e) at (l.rows (slot f) head first hs (heads-row l (slot f))))) in
      stays files back head f once (omega arith) fits.1
      (stays files back f first z (omega arith) fits.0 j b other apart)
      b d (stranger-next s u v n)

  rows : (s u v : ℕ) → s < slots → Follows files (files + s) (in_slot slot s (f ∷ order)) u v → Joined files back twice u v
  unfolding those Follows
  rows s u v h n = go (eqb (slot f) s) refl n
    where
      go : (t : Bool) → eqb (slot f) s ≡ t → Follows files (files + s) (cond t (f ∷ in_slot slot s order) (in_slot slot s order)) u v → Joined files back twice u v
      go true e (inl q) = let p : u ≡ head = omega (arith, eqb-true (slot f) s e, q.0) in rw (p, q.1) head-names-f
      go true e (inr m) = elim (rehead files (in_slot slot s order) f (files + s) u v m) [
        | inl k ↦
            let p : v ≡ first =
            sym (l.rows s (files + s) v h k.1).next ∙ names-front l s h
            ∙ ap (λ (x : ℕ). first_or files (in_slot slot x order)) (sym (eqb-true (slot f) s e)) in
            rw (k.0, p) f-names-first
        | inr k ↦ others-stay s u v h k.1 (λ q. omega (arith, (in-bucket l s u k.0).0))
      ]
      go false e m =
          let d : u ≢ head = λ q. ⊎_elim (λ p. eqb-false (slot f) s e (omega arith)) (λ k. omega (arith, k.0)) (has-next l s u v m) in
          others-stay s u v h m d

  pub enters : Linked files slots slot (f ∷ order) (entered back head f z)
  unfolding ◌∈◌
  enters = record {
    long = simp joined_length l.long;
    known = λ g m. ⊎_elim (λ e. rw e (hf, hs)) (λ k. l.known g k) m;
    rows = rw (names-front l (slot f) hs) rows;
  }

  -- what stands behind the previouses stays
  pub entered-else : (at : ℕ) → back + files < at → get_or (entered back head f z) at 0 ≡ get_or z at 0
  entered-else at h =
      let b = file-below l (slot f) head first (heads-row l (slot f)) in
      rw (names-front l (slot f) hs)
      (joined-else back head f once at (λ e. omega arith) (λ e. omega arith) ∙ joined-else back f first z at (λ e. omega arith) (λ e. omega arith))
