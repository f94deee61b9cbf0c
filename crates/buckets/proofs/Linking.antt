-- What the links show where they stand for the files in their order. Assumes nothing.
use mathlib.Core.Path.{◌≡◌, refl, sym, ◌∙◌}
use mathlib.Core.Logic.{◌⊎◌, inl, inr, ⊎_elim, ◌≢◌}
use Prim.Native.Nat.{ℕ, ◌+◌, ◌≤◌, ◌<◌}
use mathlib.Core.List.{List, []}
use native.Mathlib.Omega.{arith}
use lib.ListN.{length, get_or}
use lib.Dec.{eqb}
use borrow.Author.Tests.{eqb-true, eq-eqb}
use Rattle.rules.specs.Lists.{those}
use Rattle.buckets.specs.Links.{emptied}
use Rattle.buckets.specs.StandFor.{◌∈◌, in_slot, first_or, Follows, Joined, Linked}
use Rattle.buckets.proofs.Stores.{emptied-length, emptied-head}
use Rattle.buckets.proofs.Rows.{those-pass, pass-those, those-same, source, target, opens}

-- heads that name none stand for no file
pub empties : (files slots : ℕ) (slot : ℕ → ℕ) (z : List ℕ) → files + slots + files < length z → Linked files slots slot [] (emptied files z slots)
unfolding those ◌∈◌ Follows
empties files slots slot z h = record {
  long = rw (emptied-length files z slots) h;
  known = λ f m. absurd m;
  rows = λ s u v k n. record { next = rw (n.0, n.1) (emptied-head files z slots s (omega arith) k); previous = λ x. absurd (x n.1) };
}

module _ {files slots : ℕ} {slot : ℕ → ℕ} {order z : List ℕ} (l : Linked files slots slot order z) where
  -- only the slots of the files in the list matter
  pub elsewhere : (slot' : ℕ → ℕ) → ((f : ℕ) → f ∈ order → slot' f ≡ slot f) → Linked files slots slot' order z
  elsewhere slot' e = record {
    long = l.long;
    known = λ f m. rw (e f m) (l.known f m);
    rows = λ s u v h n. l.rows s u v h (rw (those-same (λ f. eqb (slot' f) s) (λ f. eqb (slot f) s) order (λ f m. rw (e f m) refl)) at n);
  }

  -- ---- the row of slot s

  abbrev pub Row : ℕ → ℕ → ℕ → Type 0
  Row s u v = Follows files (files + s) (in_slot slot s order) u v

  abbrev pub Held : ℕ → ℕ → Type 0
  Held s f = (f < files) × (slot f ≡ s) × (f ∈ order)

  pub in-bucket : (s f : ℕ) → f ∈ in_slot slot s order → Held s f
  in-bucket s f m =
      let t = those-pass (λ g. eqb (slot g) s) f order m in
      ((l.known f t.1).0, eqb-true (slot f) s t.0, t.1)

  pub own-bucket : (f : ℕ) → f ∈ order → f ∈ in_slot slot (slot f) order
  own-bucket f m = pass-those (λ g. eqb (slot g) (slot f)) f order (eq-eqb (slot f) (slot f) refl) m

  module _ (s u v : ℕ) (n : Row s u v) where
    -- who has a next, and who is one
    pub has-next : (u ≡ files + s) ⊎ Held s u
    has-next = ⊎_elim (λ e. inl e) (λ m. inr (in-bucket s u m)) (source files (in_slot slot s order) (files + s) u v n)

    pub is-next : (v ≡ files) ⊎ Held s v
    is-next = ⊎_elim (λ e. inl e) (λ m. inr (in-bucket s v m)) (target files (in_slot slot s order) (files + s) u v n)

    pub place-below : s < slots → u < files + slots
    place-below h = ⊎_elim (λ e. omega arith) (λ m. omega (arith, m.0)) has-next

    pub file-below : v ≤ files
    file-below = ⊎_elim (λ e. omega arith) (λ m. omega (arith, m.0)) is-next

  -- the head names the front file
  pub heads-row : (s : ℕ) → Row s (files + s) (first_or files (in_slot slot s order))
  heads-row s = opens files (in_slot slot s order) (files + s)

  pub names-front : (s : ℕ) → s < slots → get_or z (files + s) 0 ≡ first_or files (in_slot slot s order)
  names-front s h = (l.rows s (files + s) (first_or files (in_slot slot s order)) h (heads-row s)).next

-- two places with one next are one
pub same_place : {none back : ℕ} {z : List ℕ} {u u' v : ℕ} → v ≢ none → Joined none back z u v → Joined none back z u' v → u ≡ u'
same_place n j k = sym (j.previous n) ∙ k.previous n
