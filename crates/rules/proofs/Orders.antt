-- Orders of files, two of them one after the other, and the choice of a legal move by one. Assumes nothing.
use mathlib.Core.Path.{◌≡◌, refl, sym, ap, ◌∙◌}
use mathlib.Core.Logic.{◌⊎◌, inl, inr, ⊎_elim}
use Prim.Native.Nat.{ℕ, ◌<◌}
use mathlib.Core.Bool.{Bool, true, false, not, ◌&&◌, ◌||◌}
use mathlib.Core.Option.{Option, none, some}
use native.Mathlib.Decide.{dec_lt}
use native.Mathlib.Omega.{arith}
use lib.Dec.{ltb}
use lib.IntN.{ℤ}
use lib.Signed.{lt_z}
use borrow.Author.Tests.{not-true, ltb-true, ltb-false}
use Rattle.rules.specs.Job.{Job, file_count}
use Rattle.rules.specs.Move.{State, legal, dist_after, greater, first_below}
use Rattle.rules.specs.Levels.{better_by}
use Rattle.rules.specs.LevelsHold.{ChosenBy}
use Rattle.rules.proofs.Signed.{lt_z-true, lt_z-false}
use Rattle.rules.proofs.Tests.{clash, or_no, and_yes, and_no, contra, contra'}
use Rattle.rules.proofs.First.{Order, first_some, first-none}

-- the greater number goes first
pub greater-order : (G : ℕ → ℤ) → Order (greater G)
greater-order G = record {
  irrefl = λ a. contra (lt_z (G a) (G a)) (λ h. omega (arith, lt_z-true (G a) (G a) h));
  trans = λ a b c p q. contra' (lt_z (G c) (G a)) (λ h. omega (arith, lt_z-false (G c) (G a) h, lt_z-true (G b) (G a) p, lt_z-true (G c) (G b) q));
  weak = λ a b c p q. contra (lt_z (G c) (G a)) (λ h. omega (arith, lt_z-true (G c) (G a) h, lt_z-false (G b) (G a) p, lt_z-false (G c) (G b) q));
}

-- the less number goes first
pub less-order : (D : ℕ → ℕ) → Order (λ f g. ltb (D f) (D g))
less-order D = record {
  irrefl = λ a. contra (ltb (D a) (D a)) (λ h. omega (arith, ltb-true (D a) (D a) h));
  trans = λ a b c p q. contra' (ltb (D a) (D c)) (λ h. omega (arith, ltb-false (D a) (D c) h, ltb-true (D a) (D b) p, ltb-true (D b) (D c) q));
  weak = λ a b c p q. contra (ltb (D a) (D c)) (λ h. omega (arith, ltb-true (D a) (D c) h, ltb-false (D a) (D b) p, ltb-false (D b) (D c) q));
}

-- none goes first
pub none-order : Order (λ f g. false)
none-order = record { irrefl = λ a. refl; trans = λ a b c p q. p; weak = λ a b c p q. p }

-- by p, and where p puts neither first by q
module _ {p q : ℕ → ℕ → Bool} (P : Order p) (Q : Order q) where
  both : ℕ → ℕ → Bool
  both f g = p f g || (not (p g f) && q f g)

  yes-cases : (a b : ℕ) → both a b ≡ true → (p a b ≡ true) ⊎ ((p b a ≡ false) × (q a b ≡ true))
  unfolding both
  yes-cases a b h = go (p a b) refl h
    where
      go : (t : Bool) → p a b ≡ t → (t || (not (p b a) && q a b)) ≡ true → (p a b ≡ true) ⊎ ((p b a ≡ false) × (q a b ≡ true))
      go true e k = inl e
      go false e k = let s = and_yes (not (p b a)) (q a b) k in inr (not-true (p b a) s.0, s.1)

  no_cases : (a b : ℕ) → both a b ≡ false → (p a b ≡ false) × ((p b a ≡ true) ⊎ (q a b ≡ false))
  unfolding both
  no_cases a b h = let s = or_no (p a b) (not (p b a) && q a b) h in (s.0, go (p b a) refl s.1)
    where
      go : (t : Bool) → p b a ≡ t → (not t && q a b) ≡ false → (p b a ≡ true) ⊎ (q a b ≡ false)
      go true e k = inl e
      go false e k = inr k

  is-yes : (a b : ℕ) → (p a b ≡ true) ⊎ ((p b a ≡ false) × (q a b ≡ true)) → both a b ≡ true
  is-yes a b c = contra' (both a b) (λ h.
      let n = no_cases a b h in
      ⊎_elim (λ x. clash (sym x ∙ n.0)) (λ x. ⊎_elim (λ y. clash (sym y ∙ x.0)) (λ y. clash (sym x.1 ∙ y)) n.1) c)

  is-no : (a b : ℕ) → (p a b ≡ false) × ((p b a ≡ true) ⊎ (q a b ≡ false)) → both a b ≡ false
  is-no a b c = contra (both a b) (λ h.
      ⊎_elim (λ x. clash (sym x ∙ c.0)) (λ x. ⊎_elim (λ y. clash (sym y ∙ x.0)) (λ y. clash (sym x.1 ∙ y)) c.1) (yes-cases a b h))

  -- what goes before b, from what b goes before or is level with
  ahead : (a b c : ℕ) → p a b ≡ true → p c b ≡ false → p a c ≡ true
  ahead a b c x y = contra' (p a c) (λ h. clash (sym x ∙ P.weak a c b h y))

  behind : (a b c : ℕ) → p b a ≡ false → p b c ≡ true → p a c ≡ true
  behind a b c x y = contra' (p a c) (λ h. clash (sym y ∙ P.weak b a c x h))

  pub then-order : Order (λ f g. p f g || (not (p g f) && q f g))
  unfolding both
  then-order = record {
    irrefl = λ a. is-no a a (P.irrefl a, inr (Q.irrefl a));
    trans = λ a b c x y. is-yes a c
        (⊎_elim
        (λ u. ⊎_elim (λ v. inl (P.trans a b c u v)) (λ v. inl (ahead a b c u v.0)) (yes-cases b c y))
        (λ u. ⊎_elim (λ v. inl (behind a b c u.0 v)) (λ v. inr (P.weak c b a v.0 u.0, Q.trans a b c u.1 v.1)) (yes-cases b c y))
        (yes-cases a b x));
    weak = λ a b c x y.
        let s = no_cases a b x in
        let t = no_cases b c y in
        is-no a c (
          P.weak a b c s.0 t.0,
          ⊎_elim
              (λ u. inl (behind c b a t.0 u))
              (λ u. ⊎_elim (λ v. inl (ahead c b a v s.0)) (λ v. inr (Q.weak a b c u v)) t.1)
              s.1,
        );
  }

-- ---- the choice: of the legal moves the one that goes first, then the nearest, then the lowest

module _ (job : Job) (st : State) {goes : ℕ → ℕ → Bool} (ord : Order goes) where
  abbrev D : ℕ → ℕ
  D = dist_after job st

  abbrev choice : Option ℕ
  choice = first_below (legal job st) (better_by goes D) (file_count job)

  pub chosen_by : (f : ℕ) → choice ≡ some f → ChosenBy job st goes f
  chosen_by f e =
      let r = first_some (legal job st) (better_by goes D) (then-order ord (less-order D)) (file_count job) f e in
      record {
        below = r.below;
        lawful = r.fine;
        greatest = λ g h k. (or_no (goes g f) (not (goes f g) && ltb (D g) (D f)) (r.before g h k)).0;
        nearest = λ g h k z. ltb-false (D g) (D f)
            (and_no (not (goes f g)) (ltb (D g) (D f)) (or_no (goes g f) (not (goes f g) && ltb (D g) (D f)) (r.before g h k)).1 (ap not z));
        lowest = λ g h k z. ltb-true (D f) (D g)
            (and_yes (not (goes g f)) (ltb (D f) (D g))
            (sym (ap (λ (b : Bool). b || (not (goes g f) && ltb (D f) (D g))) z) ∙ r.lower g h k)).1;
      }

  pub nothing-by : choice ≡ none → (g : ℕ) → g < file_count job → legal job st g ≡ false
  nothing-by e = first-none (legal job st) (better_by goes D) (file_count job) e

  -- there is only one such file
  pub only-by : (f g : ℕ) → ChosenBy job st goes f → ChosenBy job st goes g → f ≡ g
  only-by f g p q = elim (dec_lt f g) [
    | yes l ↦ absurd (further f g l p q)
    | no n ↦ elim (dec_lt g f) [
      | yes l ↦ absurd (further g f l q p)
      | no m ↦ omega arith
    ]
  ]
    where
      further : (f g : ℕ) → f < g → ChosenBy job st goes f → ChosenBy job st goes g → ⊥
      further f g l p q =
          omega (
            arith,
            q.lowest f l p.lawful (p.greatest g q.below q.lawful),
            p.nearest g q.below q.lawful (q.greatest f p.below p.lawful),
          )

  -- and it is chosen
  pub found-by : (f : ℕ) → ChosenBy job st goes f → choice ≡ some f
  found-by f p = go choice refl
    where
      go : (o : Option ℕ) → choice ≡ o → o ≡ some f
      go none e = clash (sym p.lawful ∙ nothing-by e f p.below)
      go (some g) e = ap some (only-by g f (chosen_by g e) p)

  pub stuck-by : ((g : ℕ) → g < file_count job → legal job st g ≡ false) → choice ≡ none
  stuck-by h = go choice refl
    where
      go : (o : Option ℕ) → choice ≡ o → o ≡ none
      go none e = refl
      go (some g) e = let c = chosen_by g e in clash (sym c.lawful ∙ h g c.below)
