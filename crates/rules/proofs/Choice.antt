-- The choice of document 01: greatest gain, then least distance, then lowest number. Assumes nothing.
use mathlib.Core.Path.{◌≡◌, refl, sym, ap, ap₂, ◌∙◌}
use mathlib.Core.Logic.{◌⊎◌, inl, inr, ⊎_elim}
use Prim.Native.Nat.{ℕ, ◌+◌, ◌≤◌, ◌<◌}
use mathlib.Core.Bool.{Bool, true, false, not, ◌&&◌, ◌||◌}
use mathlib.Core.List.{List}
use mathlib.Core.Option.{none, some}
use native.Mathlib.Decide.{dec_lt}
use native.Mathlib.Omega.{arith}
use lib.Dec.{ltb}
use lib.IntN.{ℤ, pos}
use lib.Signed.{lt_z}
use lib.ListN.{length, get_or}
use borrow.Author.Tests.{not-true, ltb-true, ltb-false, eqb-true}
use Rattle.rules.specs.Job.{Job, file_count, recipes}
use Rattle.rules.specs.Split.{gain, balanced}
use Rattle.rules.specs.Move.{State, lock_of, free, size_after, legal, dist_after, better, first_below, choose}
use Rattle.rules.specs.Theorems.{Chosen}
use Rattle.rules.proofs.Signed.{up, down, lt_z-true, lt_z-false}
use Rattle.rules.proofs.GainKept.{Fresh}
use Rattle.rules.proofs.Tests.{or_no, and_yes, and_no, contra, contra'}
use Rattle.rules.proofs.First.{Order, first_some, first-none, first-same}

-- ---- greater gain, then less distance, is such an order

module _ (G : ℕ → ℤ) (D : ℕ → ℕ) where
  -- the gain of a is below that of b
  less : ℕ → ℕ → Type 0
  less a b = up (G a) + down (G b) < up (G b) + down (G a)

  yes-cases : (f g : ℕ) → better G D f g ≡ true → less g f ⊎ ((¬ less f g) × (D f < D g))
  unfolding less
  yes-cases f g h = go (lt_z (G g) (G f)) refl h
    where
      go : (b : Bool) → lt_z (G g) (G f) ≡ b → (b || (not (lt_z (G f) (G g)) && ltb (D f) (D g))) ≡ true → less g f ⊎ ((¬ less f g) × (D f < D g))
      go true e k = inl (lt_z-true (G g) (G f) e)
      go false e k =
          let t = and_yes (not (lt_z (G f) (G g))) (ltb (D f) (D g)) k in
          let l = lt_z-false (G f) (G g) (not-true (lt_z (G f) (G g)) t.0) in
          inr ((λ z. omega arith), ltb-true (D f) (D g) t.1)

  no_cases : (f g : ℕ) → better G D f g ≡ false → (¬ less g f) × (less f g ⊎ (D g ≤ D f))
  unfolding less
  no_cases f g h =
      let t = or_no (lt_z (G g) (G f)) (not (lt_z (G f) (G g)) && ltb (D f) (D g)) h in
      let l = lt_z-false (G g) (G f) t.0 in
      ((λ z. omega arith), go (lt_z (G f) (G g)) refl t.1)
    where
      go : (b : Bool) → lt_z (G f) (G g) ≡ b → (not b && ltb (D f) (D g)) ≡ false → less f g ⊎ (D g ≤ D f)
      go true e k = inl (lt_z-true (G f) (G g) e)
      go false e k = inr (ltb-false (D f) (D g) k)

  is-yes : (f g : ℕ) → less g f ⊎ ((¬ less f g) × (D f < D g)) → better G D f g ≡ true
  unfolding less
  is-yes f g c = contra' (better G D f g) (λ h. let n = no_cases f g h in ⊎_elim (λ a. n.0 a) (λ b. ⊎_elim (λ x. b.0 x) (λ y. omega (arith, b.1)) n.1) c)

  is-no : (f g : ℕ) → (¬ less g f) × (less f g ⊎ (D g ≤ D f)) → better G D f g ≡ false
  unfolding less
  is-no f g c = contra (better G D f g) (λ h. ⊎_elim (λ a. c.0 a) (λ b. ⊎_elim (λ x. b.0 x) (λ y. omega (arith, b.1)) c.1) (yes-cases f g h))

  pub better-order : Order (better G D)
  unfolding less
  better-order = record {
    irrefl = λ a. is-no a a ((λ z. omega arith), inr (omega arith));
    trans = λ a b c p q. is-yes a c
        (⊎_elim
        (λ x. ⊎_elim (λ y. inl (omega arith)) (λ y. inl (omega (arith, y.0))) (yes-cases b c q))
        (λ x. ⊎_elim (λ y. inl (omega (arith, x.0))) (λ y. inr ((λ z. omega (arith, x.0, y.0)), omega (arith, x.1, y.1))) (yes-cases b c q))
        (yes-cases a b p));
    weak = λ a b c p q.
        let x = no_cases a b p in
        let y = no_cases b c q in
        is-no a c (
          (λ z. omega (arith, x.0, y.0)),
          ⊎_elim
              (λ u. inl (omega (arith, y.0)))
              (λ u. ⊎_elim (λ v. inl (omega (arith, x.0))) (λ v. inr (omega arith)) y.1)
              x.1,
        );
  }

-- ---- the choice of document 01

pub chosen : (job : Job) (st : State) (f : ℕ) → choose job st ≡ some f → Chosen job st f
unfolding choose
chosen job st f e =
    let G : ℕ → ℤ = gain st.sides (recipes job) in
    let D : ℕ → ℕ = dist_after job st in
    let r = first_some (legal job st) (better G D) (better-order G D) (file_count job) f e in
    record {
      below = r.below;
      lawful = r.fine;
      greatest = λ g h k. (or_no (lt_z (G f) (G g)) (not (lt_z (G g) (G f)) && ltb (D g) (D f)) (r.before g h k)).0;
      nearest = λ g h k z. ltb-false (D g) (D f)
          (and_no (not (lt_z (G g) (G f))) (ltb (D g) (D f)) (or_no (lt_z (G f) (G g)) (not (lt_z (G g) (G f)) && ltb (D g) (D f)) (r.before g h k)).1 (ap not z));
      lowest = λ g h k z. ltb-true (D f) (D g)
          (and_yes (not (lt_z (G f) (G g))) (ltb (D f) (D g))
          (sym (ap (λ (b : Bool). b || (not (lt_z (G f) (G g)) && ltb (D f) (D g))) z) ∙ r.lower g h k)).1;
    }

pub nothing_left : (job : Job) (st : State) → choose job st ≡ none → (g : ℕ) → g < file_count job → legal job st g ≡ false
unfolding choose
nothing_left job st e = first-none (legal job st) (better (gain st.sides (recipes job)) (dist_after job st)) (file_count job) e

-- so there is only one such file
pub chosen-one : (job : Job) (st : State) (f g : ℕ) → Chosen job st f → Chosen job st g → f ≡ g
chosen-one job st f g p q = elim (dec_lt f g) [
  | yes l ↦ absurd (further f g l p q)
  | no n ↦ elim (dec_lt g f) [
    | yes l ↦ absurd (further g f l q p)
    | no m ↦ omega arith
  ]
]
  where
    further : (f g : ℕ) → f < g → Chosen job st f → Chosen job st g → ⊥
    further f g l p q =
        omega (
          arith,
          q.lowest f l p.lawful (p.greatest g q.below q.lawful),
          p.nearest g q.below q.lawful (q.greatest f p.below p.lawful),
        )

-- the choice by a gain list that is fresh is the choice by the gains afresh
pub choose-listed : (job : Job) (st : State) (g : List ℤ) → length g ≡ file_count job → Fresh (recipes job) st g
    → first_below (legal job st) (better (λ f. get_or g f (pos 0)) (dist_after job st)) (file_count job) ≡ choose job st
unfolding choose legal
choose-listed job st g long fresh =
    first-same (legal job st) (legal job st) (better (λ f. get_or g f (pos 0)) (dist_after job st)) (better (gain st.sides (recipes job)) (dist_after job st)) (file_count job)
    (λ f h. refl)
    (λ f x h k p q. ap₂ (λ (y z : ℤ). lt_z y z || (not (lt_z z y) && ltb (dist_after job st f) (dist_after job st x))) (same x k q) (same f h p))
  where
    same : (f : ℕ) → f < file_count job → (free st f && balanced job (size_after job st f)) ≡ true → get_or g f (pos 0) ≡ gain st.sides (recipes job) f
    same f h p = fresh f (omega arith) (eqb-true (lock_of st f) 0 (and_yes (free st f) (balanced job (size_after job st f)) p).0)
