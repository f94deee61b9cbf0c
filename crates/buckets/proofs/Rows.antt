-- Rows: who stands next to whom, after one is put in front or taken out. Assumes nothing.
use mathlib.Core.Path.{◌≡◌, refl, sym, ap, ◌∙◌}
use mathlib.Core.Logic.{◌⊎◌, inl, inr, ⊎_elim}
use Prim.Native.Nat.{ℕ}
use mathlib.Core.Bool.{Bool, true, false, not, cond}
use mathlib.Core.List.{List, [], ◌∷◌}
use lib.Dec.{eqb}
use borrow.Author.Tests.{eqb-true}
use Rattle.rules.specs.Lists.{those}
use Rattle.rules.specs.Fronts.{without}
use Rattle.buckets.specs.StandFor.{◌∈◌, first_or, Follows}

-- ---- those that pass a test

pub those-pass : (p : ℕ → Bool) (f : ℕ) (xs : List ℕ) → f ∈ those p xs → (p f ≡ true) × (f ∈ xs)
unfolding those ◌∈◌
those-pass p f [] h = absurd h
those-pass p f (x ∷ xs) h = go (p x) refl (those-pass p f xs) h
  where
    go : (t : Bool) → p x ≡ t → (f ∈ those p xs → (p f ≡ true) × (f ∈ xs)) → f ∈ cond t (x ∷ those p xs) (those p xs) → (p f ≡ true) × (f ∈ x ∷ xs)
    go true e ih (inl q) = (ap p q ∙ e, inl q)
    go true e ih (inr m) = ((ih m).0, inr (ih m).1)
    go false e ih m = ((ih m).0, inr (ih m).1)

pub pass-those : (p : ℕ → Bool) (f : ℕ) (xs : List ℕ) → p f ≡ true → f ∈ xs → f ∈ those p xs
unfolding those ◌∈◌
pass-those p f [] e m = elim m [ ]
pass-those p f (x ∷ xs) e (inl q) = let h : p x ≡ true = rw q at e in rw h (inl q)
pass-those p f (x ∷ xs) e (inr m) = go (p x) (pass-those p f xs e m)
  where
    go : (t : Bool) → f ∈ those p xs → f ∈ cond t (x ∷ those p xs) (those p xs)
    go true m = inr m
    go false m = m

pub those-swap : (p q : ℕ → Bool) (xs : List ℕ) → those p (those q xs) ≡ those q (those p xs)
unfolding those
those-swap p q [] = refl
those-swap p q (x ∷ xs) = go (p x) (q x) refl refl (those-swap p q xs)
  where
    go : (s t : Bool) → p x ≡ s → q x ≡ t → those p (those q xs) ≡ those q (those p xs)
        → those p (cond t (x ∷ those q xs) (those q xs)) ≡ those q (cond s (x ∷ those p xs) (those p xs))
    go true true e f ih = rw (e, f) (ap (λ (l : List ℕ). x ∷ l) ih)
    go true false e f ih = rw f ih
    go false true e f ih = rw e ih
    go false false e f ih = ih

pub those-same : (p q : ℕ → Bool) (xs : List ℕ) → ((f : ℕ) → f ∈ xs → p f ≡ q f) → those p xs ≡ those q xs
unfolding those ◌∈◌
those-same p q [] e = refl
those-same p q (x ∷ xs) e = rw (e x (inl refl), those-same p q xs (λ f m. e f (inr m))) refl

pub those-none : (p : ℕ → Bool) (xs : List ℕ) → ((f : ℕ) → f ∈ xs → p f ≡ false) → those p xs ≡ []
unfolding those ◌∈◌
those-none p [] e = refl
those-none p (x ∷ xs) e = rw (e x (inl refl), those-none p xs (λ f m. e f (inr m))) refl

-- ---- neighbours; every row here ends in none

module _ (none : ℕ) where
  -- whoever has a next is the head or a member
  pub source : (xs : List ℕ) (a u v : ℕ) → Follows none a xs u v → (u ≡ a) ⊎ (u ∈ xs)
  unfolding Follows ◌∈◌
  source [] a u v n = inl n.0
  source (x ∷ xs) a u v (inl n) = inl n.0
  source (x ∷ xs) a u v (inr n) = inr (source xs x u v n)

  -- and the next is none or a member
  pub target : (xs : List ℕ) (a u v : ℕ) → Follows none a xs u v → (v ≡ none) ⊎ (v ∈ xs)
  unfolding Follows ◌∈◌
  target [] a u v n = inl n.1
  target (x ∷ xs) a u v (inl n) = inr (inl n.1)
  target (x ∷ xs) a u v (inr n) = ⊎_elim (λ e. inl e) (λ m. inr (inr m)) (target xs x u v n)

  -- the head's next is the first member
  pub opens : (xs : List ℕ) (a : ℕ) → Follows none a xs a (first_or none xs)
  unfolding Follows
  opens [] a = (refl, refl)
  opens (x ∷ xs) a = inl (refl, refl)

  -- every member is the next of someone, and has a next
  pub before : (xs : List ℕ) (a x : ℕ) → x ∈ xs → (u : ℕ) × Follows none a xs u x
  unfolding Follows ◌∈◌
  before [] a x m = elim m [ ]
  before (y ∷ ys) a x (inl e) = (a, inl (refl, e))
  before (y ∷ ys) a x (inr m) = let b = before ys y x m in (b.0, inr b.1)

  pub next : (xs : List ℕ) (a x : ℕ) → x ∈ xs → (v : ℕ) × Follows none a xs x v
  unfolding Follows ◌∈◌
  next [] a x m = elim m [ ]
  next (y ∷ ys) a x (inl e) = (first_or none ys, inr (rw e (opens ys y)))
  next (y ∷ ys) a x (inr m) = let b = next ys y x m in (b.0, inr b.1)

  -- the row behind another head
  pub rehead : (xs : List ℕ) (a b u v : ℕ) → Follows none a xs u v → ((u ≡ a) × Follows none b xs b v) ⊎ ((u ∈ xs) × Follows none b xs u v)
  unfolding Follows ◌∈◌
  rehead [] a b u v n = inl (n.0, (refl, n.1))
  rehead (x ∷ xs) a b u v (inl n) = inl (n.0, inl (refl, n.1))
  rehead (x ∷ xs) a b u v (inr n) = inr (source xs x u v n, inr n)

  -- v stood next after u, or x alone between them
  abbrev pub Near : ℕ → List ℕ → ℕ → ℕ → ℕ → Type 0
  Near x xs a u v = Follows none a xs u v ⊎ (Follows none a xs u x × Follows none a xs x v)

  deeper : (x y : ℕ) (ys : List ℕ) (a u v : ℕ) → Near x ys y u v → Near x (y ∷ ys) a u v
  unfolding Follows
  deeper x y ys a u v (inl m) = inl (inr m)
  deeper x y ys a u v (inr m) = inr (inr m.0, inr m.1)

  -- who are neighbours once x is taken out
  pub closes : (x : ℕ) (xs : List ℕ) (a u v : ℕ) → Follows none a (without xs x) u v → Near x xs a u v
  unfolding Follows those
  closes x [] a u v n = inl n
  closes x (y ∷ ys) a u v n = go (eqb y x) refl (closes x ys) n
    where
      go : (t : Bool) → eqb y x ≡ t → ((a u v : ℕ) → Follows none a (without ys x) u v → Near x ys a u v)
          → Follows none a (cond (not t) (y ∷ without ys x) (without ys x)) u v → Near x (y ∷ ys) a u v
      go true e ih n =
          let q = sym (eqb-true y x e) in
          elim (rehead (without ys x) a y u v n) [
            | inl m ↦ inr (inl (m.0, q), inr (⊎_elim (λ k. rw q k) (λ k. k.1) (ih y y v m.1)))
            | inr m ↦ deeper x y ys a u v (ih y u v m.1)
          ]
      go false e ih (inl q) = inl (inl q)
      go false e ih (inr n) = deeper x y ys a u v (ih y u v n)
