-- Of the numbers below n that are ok, the one that goes first, for any order. Assumes nothing.
use mathlib.Core.Path.{◌≡◌, refl, sym, ap, ap₂, ◌∙◌}
use Prim.Native.Nat.{ℕ, zero, suc, ◌<◌}
use mathlib.Core.Bool.{Bool, true, false, cond, ◌&&◌}
use mathlib.Core.Option.{Option, none, some}
use native.Mathlib.Decide.{ℕ_discrete}
use native.Mathlib.Omega.{arith}
use Rattle.rules.specs.Move.{challenge, first_below}
use Rattle.rules.proofs.Tests.{clash, and_yes, and_no, contra, contra'}

pub record Order (goes : ℕ → ℕ → Bool) : Type 0 where
  pub irrefl : (a : ℕ) → goes a a ≡ false
  pub trans : (a b c : ℕ) → goes a b ≡ true → goes b c ≡ true → goes a c ≡ true
  pub weak : (a b c : ℕ) → goes a b ≡ false → goes b c ≡ false → goes a c ≡ false

pub record First (ok : ℕ → Bool) (goes : ℕ → ℕ → Bool) (n f : ℕ) : Type 0 where
  pub below : f < n
  pub fine : ok f ≡ true
  -- none goes before it, and it goes before those of lower number
  pub before : (g : ℕ) → g < n → ok g ≡ true → goes g f ≡ false
  pub lower : (g : ℕ) → g < f → ok g ≡ true → goes f g ≡ true

pub some_inj : (a b : ℕ) → ◌≡◌ {A = Option ℕ} (some a) (some b) → a ≡ b
some_inj a b e = cc

pub no-some {ℓ} : {X : Type ℓ} (a : ℕ) → ◌≡◌ {A = Option ℕ} none (some a) → X
no-some a e = let z : ◌≡◌ {A = ℕ} 0 1 = cc in absurd (omega arith)

module _ (ok : ℕ → Bool) (goes : ℕ → ℕ → Bool) where
  pub first-none : (n : ℕ) → first_below ok goes n ≡ none → (g : ℕ) → g < n → ok g ≡ false
  unfolding first_below challenge
  first-none zero e g h = absurd (omega arith)
  first-none (suc n) e g h = go (first_below ok goes n) refl e (first-none n)
    where
      last : (b : Bool) → ok n ≡ b → ◌≡◌ {A = Option ℕ} (cond b (some n) none) none → ok n ≡ false
      last true p q = no-some n (sym q)
      last false p q = p

      keep : (b : Bool) (m : ℕ) → ◌≡◌ {A = Option ℕ} (cond b (some n) (some m)) none → ok g ≡ false
      keep true m q = no-some n (sym q)
      keep false m q = no-some m (sym q)

      go : (o : Option ℕ) → first_below ok goes n ≡ o → challenge ok goes o n ≡ none
          → (first_below ok goes n ≡ none → (g : ℕ) → g < n → ok g ≡ false) → ok g ≡ false
      go none p q ih = elim (ℕ_discrete g n) [
        | yes r ↦ ap ok r ∙ last (ok n) refl q
        | no r ↦ ih p g (omega arith)
      ]
      go (some m) p q ih = keep (ok n && goes n m) m q

  module _ (ord : Order goes) where
    beats : (n m : ℕ) → ok n ≡ true → goes n m ≡ true → First ok goes n m → First ok goes (suc n) n
    beats n m p q r = record {
      below = omega arith;
      fine = p;
      before = λ g h k. elim (ℕ_discrete g n) [
        | yes e ↦ ap (λ x. goes x n) e ∙ ord.irrefl n
        | no z ↦ contra (goes g n) (λ t. clash (sym (ord.trans g n m t q) ∙ r.before g (omega arith) k))
      ];
      lower = λ g h k. contra' (goes n g) (λ t. clash (sym q ∙ ord.weak n g m t (r.before g h k)));
    }

    remains : (n m : ℕ) → (ok n ≡ true → goes n m ≡ false) → First ok goes n m → First ok goes (suc n) m
    remains n m q r = record {
      below = omega (arith, r.below);
      fine = r.fine;
      before = λ g h k. elim (ℕ_discrete g n) [
        | yes e ↦ ap (λ x. goes x m) e ∙ q (sym (ap ok e) ∙ k)
        | no z ↦ r.before g (omega arith) k
      ];
      lower = r.lower;
    }

    only_one : (n : ℕ) → ok n ≡ true → ((g : ℕ) → g < n → ok g ≡ false) → First ok goes (suc n) n
    only_one n p empty = record {
      below = omega arith;
      fine = p;
      before = λ g h k. elim (ℕ_discrete g n) [
        | yes e ↦ ap (λ x. goes x n) e ∙ ord.irrefl n
        | no z ↦ clash (sym k ∙ empty g (omega arith))
      ];
      lower = λ g h k. clash (sym k ∙ empty g h);
    }

    pub first_some : (n f : ℕ) → first_below ok goes n ≡ some f → First ok goes n f
    unfolding first_below challenge
    first_some zero f e = no-some f e
    first_some (suc n) f e = go (first_below ok goes n) refl e (first_some n)
      where
        new : (b : Bool) → ok n ≡ b → first_below ok goes n ≡ none → ◌≡◌ {A = Option ℕ} (cond b (some n) none) (some f) → First ok goes (suc n) f
        new true p q r = rw (← some_inj n f r) (only_one n p (first-none n q))
        new false p q r = no-some f r

        either : (b : Bool) (m : ℕ) → (ok n && goes n m) ≡ b → First ok goes n m → ◌≡◌ {A = Option ℕ} (cond b (some n) (some m)) (some f) → First ok goes (suc n) f
        either true m p q r =
            let t = and_yes (ok n) (goes n m) p in
            rw (← some_inj n f r) (beats n m t.0 t.1 q)
        either false m p q r = rw (← some_inj m f r) (remains n m (and_no (ok n) (goes n m) p) q)

        go : (o : Option ℕ) → first_below ok goes n ≡ o → challenge ok goes o n ≡ some f
            → ((f : ℕ) → first_below ok goes n ≡ some f → First ok goes n f) → First ok goes (suc n) f
        go none p q ih = new (ok n) refl p q
        go (some m) p q ih = either (ok n && goes n m) m refl (ih m p) q

-- what is found is below n and ok
pub first-ok : (ok : ℕ → Bool) (goes : ℕ → ℕ → Bool) (n f : ℕ) → first_below ok goes n ≡ some f → (f < n) × (ok f ≡ true)
unfolding first_below challenge
first-ok ok goes zero f e = no-some f e
first-ok ok goes (suc n) f e = go (first_below ok goes n) refl e (first-ok ok goes n)
  where
    new : (b : Bool) → ok n ≡ b → ◌≡◌ {A = Option ℕ} (cond b (some n) none) (some f) → (f < suc n) × (ok f ≡ true)
    new true p r = let q = some_inj n f r in (omega arith, ap ok (sym q) ∙ p)
    new false p r = no-some f r

    either : (b : Bool) (m : ℕ) → (ok n && goes n m) ≡ b → (m < n) × (ok m ≡ true) → ◌≡◌ {A = Option ℕ} (cond b (some n) (some m)) (some f) → (f < suc n) × (ok f ≡ true)
    either true m p k r = let q = some_inj n f r in (omega arith, ap ok (sym q) ∙ (and_yes (ok n) (goes n m) p).0)
    either false m p k r = let q = some_inj m f r in (omega (arith, k.0), ap ok (sym q) ∙ k.1)

    go : (o : Option ℕ) → first_below ok goes n ≡ o → challenge ok goes o n ≡ some f → ((f : ℕ) → first_below ok goes n ≡ some f → (f < n) × (ok f ≡ true)) → (f < suc n) × (ok f ≡ true)
    go none p q ih = new (ok n) refl q
    go (some m) p q ih = either (ok n && goes n m) m refl (ih m p) q

-- the choice by a gain list, say, is that by the gains afresh, where the two agree on what is ok
pub first-same : (ok ok' : ℕ → Bool) (goes goes' : ℕ → ℕ → Bool) (n : ℕ) → ((f : ℕ) → f < n → ok f ≡ ok' f)
    → ((f g : ℕ) → f < n → g < n → ok f ≡ true → ok g ≡ true → goes f g ≡ goes' f g)
    → first_below ok goes n ≡ first_below ok' goes' n
unfolding first_below challenge
first-same ok ok' goes goes' zero p q = refl
first-same ok ok' goes goes' (suc n) p q =
    step (first_below ok goes n) refl
    ∙ ap (λ o. challenge ok' goes' o n) (first-same ok ok' goes goes' n (λ f h. p f (omega arith)) (λ f g h k. q f g (omega arith) (omega arith)))
  where
    tests : (b : Bool) (m : ℕ) → ok n ≡ b → (m < n) × (ok m ≡ true) → (ok n && goes n m) ≡ (ok' n && goes' n m)
    tests true m e k = ap₂ ◌&&◌ (p n (omega arith)) (q n m (omega arith) (omega (arith, k.0)) e k.1)
    tests false m e k = ap (λ (b : Bool). b && goes n m) e ∙ sym (ap (λ (b : Bool). b && goes' n m) (sym (p n (omega arith)) ∙ e))

    step : (o : Option ℕ) → first_below ok goes n ≡ o → challenge ok goes o n ≡ challenge ok' goes' o n
    step none e = ap (λ (b : Bool). cond b (some n) none) (p n (omega arith))
    step (some m) e = ap (λ (b : Bool). cond b (some n) (some m)) (tests (ok n) m refl (first-ok ok goes n m e))
