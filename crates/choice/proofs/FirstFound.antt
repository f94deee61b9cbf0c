-- What `find_map` finds in a range, said of the numbers in it: the call at each number before gave none. Assumes nothing.
use Rattle.std.proofs.Common.{◌≡◌, ℕ, ◌+◌, ◌-◌, ◌≤◌, ◌<◌, Option, Some, None, IsTrue, MatchOption, IfSome, IsSomeAnd, arith, subst}
use Rattle.std.specs.Option.{option_map}
use Rattle.std.specs.declared.ops.Range.{Range}
use Rattle.std.specs.Iterator.Runs.{Run, SomeRun, AllItemsGive, IsFirstToGive, CallKeepsClosure, ItemsCountUp}
use Rattle.std.proofs.iter.Yields.{nat_range_steps}
use Rattle.std.proofs.iter.runs.Sources.{range_runs}
use denote.Param.Members.{Mut, Called}

module _ (o : Option ℕ) (n : ℕ) (P : ℕ → Type 0) {Q : ℕ → Type 0} (f : (n : ℕ) → P n → Q n) where
  and-at : option_map (λ y. y) o ≡ Some n → IsSomeAnd o P → Q n
  and-at e h = go o e h
    where
      go : (o : Option ℕ) → option_map (λ y. y) o ≡ Some n → IsSomeAnd o P → Q n
      go None e h = absurd h
      go (Some x) e h = let q : x ≡ n = cc in rw q at (f x h)

  if-at : option_map (λ y. y) o ≡ Some n → IfSome o P → Q n
  if-at e h = go o e h
    where
      go : (o : Option ℕ) → option_map (λ y. y) o ≡ Some n → IfSome o P → Q n
      go None e h = cc
      go (Some x) e h = let q : x ≡ n = cc in rw q at (f x h)

-- r is what came of the first number from a on, and below b, that gave something; R says what a number gives
abbrev pub FirstFound : {B : Type 0} → (ℕ → Option B → Type 0) → ℕ → ℕ → Option B → Type 0
FirstFound R a b r = MatchOption r ((k : ℕ) → a ≤ k → k < b → R k None)
    (λ y. (i : ℕ) × (a ≤ i) × (i < b) × R i (Some y) × ((k : ℕ) → a ≤ k → k < i → R k None))

module _ {B F : Type 0} (g : Mut F (ℕ × Unit {0}) (Option B)) (s : Range ℕ) (f : F) (R : ℕ → Option B → Type 0)
    (gives : (k : ℕ) (o : Option B) (q : F) → Called g f (k, tt) o q → (q ≡ f) × R k o) where
  given : (o : Option B) (k : ℕ) → Called g f (k, tt) o f → R k o
  given o k h = (gives k o f h).1

  keeps : CallKeepsClosure g f
  keeps a o q h = (gives a.0 o q h).0

  counts : (p : Run nat_range_steps) → p.from ≡ s → ItemsCountUp p s.start s.end
  counts p e = subst (λ (t : Range ℕ). ItemsCountUp p t.start t.end) e (range_runs p p.seen)

  pub first-found : (r : Option B)
      → SomeRun nat_range_steps s (λ p. MatchOption r (IsTrue p.whole × AllItemsGive p g f None) (λ y. (i : ℕ) × (i < p.len) × (p.len ≡ i + 1) × IsFirstToGive p g f (Some y) None i))
      → FirstFound R s.start s.end r
  first-found None d = λ k l h.
      let c = counts d.0 d.1 in
      let n = c.1 d.2.0 in
      let e : s.start + (k - s.start) ≡ k = omega arith in
      rw e at (if-at (d.0.at (k - s.start)) (s.start + (k - s.start)) (λ (n : ℕ). Called g f (n, tt) None f) (given None) (c.3 (k - s.start) (omega arith)) (d.2.1 keeps (k - s.start)))
  first-found (Some y) d =
      let c = counts d.0 d.1 in
      let i = d.2.0 in
      let first = d.2.3 keeps in (
        s.start + i,
        omega arith,
        omega (arith, c.0, d.2.1),
        and-at (d.0.at i) (s.start + i) (λ (n : ℕ). Called g f (n, tt) (Some y) f) (given (Some y)) (c.3 i d.2.1) first.0,
        λ k l h.
            let e : s.start + (k - s.start) ≡ k = omega arith in
            rw e at (and-at (d.0.at (k - s.start)) (s.start + (k - s.start)) (λ (n : ℕ). Called g f (n, tt) None f) (given None) (c.3 (k - s.start) (omega (arith, d.2.1))) (first.1 (k - s.start) (omega arith))),
      )
