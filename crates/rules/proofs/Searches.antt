-- The lowest number that passes a test, a loop that goes up to it, and the least and shortest of costs. Assumes nothing.
use mathlib.Core.Path.{◌≡◌, refl, sym, ap, ◌∙◌}
use Prim.Native.Nat.{ℕ, zero, suc, ◌+◌, ◌≤◌, ◌<◌}
use mathlib.Core.Bool.{Bool, true, false, cond, ◌||◌}
use native.Mathlib.Decide.{ℕ_discrete, dec_lt}
use native.Mathlib.Omega.{arith}
use lib.Dec.{ltb}
use borrow.Author.Tests.{ltb-true, ltb-false, lt-ltb, le-ltb}
use Rattle.rules.specs.Lists.{lowest, some_below, displaces, best_up_to}
use Rattle.rules.proofs.Tests.{clash, contra'}

pub lowest-le : (p : ℕ → Bool) (n : ℕ) → lowest p n ≤ n
unfolding lowest
lowest-le p zero = omega arith
lowest-le p (suc n) = go (ltb (lowest p n) n || p n) (lowest-le p n)
  where
    go : (b : Bool) → lowest p n ≤ n → cond b (lowest p n) (suc n) ≤ suc n
    go true h = omega arith
    go false h = omega arith

pub none_below : (p : ℕ → Bool) (n : ℕ) → some_below p n ≡ false → (i : ℕ) → i < n → p i ≡ false
unfolding lowest
none_below p zero h i l = absurd (omega arith)
none_below p (suc n) h i l = go (ltb (lowest p n) n) (p n) refl refl h (none_below p n)
  where
    go : (a b : Bool) → ltb (lowest p n) n ≡ a → p n ≡ b → ltb (cond (a || b) (lowest p n) (suc n)) (suc n) ≡ false
        → (some_below p n ≡ false → (i : ℕ) → i < n → p i ≡ false) → p i ≡ false
    go true b ea eb k ih = clash (sym (lt-ltb (lowest p n) (suc n) (omega (arith, ltb-true (lowest p n) n ea))) ∙ k)
    go false true ea eb k ih = clash (sym (lt-ltb (lowest p n) (suc n) (omega (arith, lowest-le p n))) ∙ k)
    go false false ea eb k ih = elim (ℕ_discrete i n) [
      | yes e ↦ ap p e ∙ eb
      | no z ↦ ih ea i (omega arith)
    ]

-- a lowest below n passes, and none below it does
pub lowest-passes : (p : ℕ → Bool) (n : ℕ) → lowest p n < n → p (lowest p n) ≡ true
unfolding lowest
lowest-passes p zero h = absurd (omega arith)
lowest-passes p (suc n) h = go (ltb (lowest p n) n) (p n) refl refl h (lowest-passes p n)
  where
    go : (a b : Bool) → ltb (lowest p n) n ≡ a → p n ≡ b → cond (a || b) (lowest p n) (suc n) < suc n
        → (lowest p n < n → p (lowest p n) ≡ true) → p (cond (a || b) (lowest p n) (suc n)) ≡ true
    go true b ea eb k ih = ih (ltb-true (lowest p n) n ea)
    go false true ea eb k ih =
        let e : lowest p n ≡ n = omega (arith, ltb-false (lowest p n) n ea, lowest-le p n) in
        ap p e ∙ eb
    go false false ea eb k ih = absurd (omega arith)

pub below-lowest : (p : ℕ → Bool) (n i : ℕ) → i < lowest p n → p i ≡ false
unfolding lowest
below-lowest p zero i h = absurd (omega arith)
below-lowest p (suc n) i h = go (ltb (lowest p n) n) (p n) refl refl h (below-lowest p n i)
  where
    go : (a b : Bool) → ltb (lowest p n) n ≡ a → p n ≡ b → i < cond (a || b) (lowest p n) (suc n) → (i < lowest p n → p i ≡ false) → p i ≡ false
    go true b ea eb k ih = ih k
    go false true ea eb k ih = ih k
    go false false ea eb k ih = elim (ℕ_discrete i n) [
      | yes e ↦ ap p e ∙ eb
      | no z ↦ ih (omega (arith, ltb-false (lowest p n) n ea))
    ]

-- what a loop that goes up finds: the first that passes, or none
pub lowest-is : (p : ℕ → Bool) (n i : ℕ) → i < n → p i ≡ true → ((k : ℕ) → k < i → p k ≡ false) → lowest p n ≡ i
lowest-is p n i h e low = elim (dec_lt (lowest p n) i) [
  | yes l ↦ clash (sym (lowest-passes p n (omega arith)) ∙ low (lowest p n) l)
  | no g ↦ elim (dec_lt i (lowest p n)) [
    | yes l ↦ clash (sym e ∙ below-lowest p n i l)
    | no l ↦ omega arith
  ]
]

pub lowest-none : (p : ℕ → Bool) (n : ℕ) → ((k : ℕ) → k < n → p k ≡ false) → lowest p n ≡ n
lowest-none p n low = elim (dec_lt (lowest p n) n) [
  | yes l ↦ clash (sym (lowest-passes p n l) ∙ low (lowest p n) l)
  | no g ↦ omega (arith, lowest-le p n)
]

pub some-here : (p : ℕ → Bool) (n i : ℕ) → i < n → p i ≡ true → some_below p n ≡ true
some-here p n i h e = contra' (some_below p n) (λ z. clash (sym e ∙ none_below p n z i h))

pub some-none : (p : ℕ → Bool) (n : ℕ) → ((i : ℕ) → i < n → p i ≡ false) → some_below p n ≡ false
some-none p n low = le-ltb (lowest p n) n (omega (arith, lowest-none p n low))

-- where only j can pass, some number below n passes if j does
pub some_at : (p : ℕ → Bool) (n j : ℕ) → j < n → ((i : ℕ) → i < n → (i ≡ j → ⊥) → p i ≡ false) → some_below p n ≡ p j
some_at p n j h off = go (p j) refl
  where
    go : (b : Bool) → p j ≡ b → some_below p n ≡ p j
    go true e = some-here p n j h e ∙ sym e
    go false e = some-none p n (λ k l. elim (ℕ_discrete k j) [ yes q ↦ ap p q ∙ e | no z ↦ off k l z ]) ∙ sym e

-- ---- a loop that goes up: the search up to n has come to i, and the test held nowhere so far

pub record Passed (p : ℕ → Bool) (n i : ℕ) : Type 0 where
  pub stop : i ≤ n
  pub miss : (k : ℕ) → k < i → p k ≡ false

pub passed_none : {p : ℕ → Bool} {n : ℕ} → Passed p n 0
passed_none = record { stop = omega arith; miss = λ k l. absurd (omega arith) }

module _ {p : ℕ → Bool} {n i : ℕ} (x : Passed p n i) where
  pub passed-more : i < n → p i ≡ false → Passed p n (i + 1)
  passed-more h e = record {
    stop = omega arith;
    miss = λ k l. elim (ℕ_discrete k i) [
      | yes q ↦ ap p q ∙ e
      | no z ↦ x.miss k (omega arith)
    ];
  }

  pub passed-hit : i < n → p i ≡ true → i ≡ lowest p n
  passed-hit h e = sym (lowest-is p n i h e x.miss)

  pub passed-end : n ≤ i → n ≡ lowest p n
  passed-end h = sym (lowest-none p n (λ k l. x.miss k (omega arith)))

  -- whether any passes
  pub passed-some : i < n → p i ≡ true → true ≡ some_below p n
  passed-some h e = sym (some-here p n i h e)

  pub passed-no : n ≤ i → false ≡ some_below p n
  passed-no h = sym (some-none p n (λ k l. x.miss k (omega arith)))

-- ---- the best prefix

displaces-yes : (new old : ℕ) → displaces new old ≡ true → new < old
displaces-yes new old e = ltb-true new old e

displaces-no : (new old : ℕ) → displaces new old ≡ false → old ≤ new
displaces-no new old e = ltb-false new old e

module _ (cost : ℕ → ℕ) where
  -- one more: it displaces the best so far, or not
  abbrev more : ℕ → Bool
  more n = displaces (cost (suc n)) (cost (best_up_to cost n))

  pub best-le : (n : ℕ) → best_up_to cost n ≤ n
  unfolding best_up_to
  best-le zero = omega arith
  best-le (suc n) = go (more n) (best-le n)
    where
      go : (b : Bool) → best_up_to cost n ≤ n → cond b (suc n) (best_up_to cost n) ≤ suc n
      go true h = omega arith
      go false h = omega arith

  -- least of all
  pub best-least : (n k : ℕ) → k ≤ n → cost (best_up_to cost n) ≤ cost k
  unfolding best_up_to
  best-least zero k h = let e : k ≡ 0 = omega arith in omega (arith, ap cost e)
  best-least (suc n) k h = go (more n) refl (best-least n)
    where
      go : (b : Bool) → more n ≡ b → ((k : ℕ) → k ≤ n → cost (best_up_to cost n) ≤ cost k) → cost (cond b (suc n) (best_up_to cost n)) ≤ cost k
      go true e ih = elim (ℕ_discrete k (suc n)) [
        | yes q ↦ omega (arith, ap cost q)
        | no z ↦ omega (arith, ih k (omega arith), displaces-yes (cost (suc n)) (cost (best_up_to cost n)) e)
      ]
      go false e ih = elim (ℕ_discrete k (suc n)) [
        | yes q ↦ omega (arith, ap cost q, displaces-no (cost (suc n)) (cost (best_up_to cost n)) e)
        | no z ↦ ih k (omega arith)
      ]

  -- and less than at every shorter one
  pub best-shortest : (n k : ℕ) → k < best_up_to cost n → cost (best_up_to cost n) < cost k
  unfolding best_up_to
  best-shortest zero k h = absurd (omega arith)
  best-shortest (suc n) k h = go (more n) refl h (best-shortest n k)
    where
      go : (b : Bool) → more n ≡ b → k < cond b (suc n) (best_up_to cost n)
          → (k < best_up_to cost n → cost (best_up_to cost n) < cost k) → cost (cond b (suc n) (best_up_to cost n)) < cost k
      go true e l ih = omega (arith, best-least n k (omega arith), displaces-yes (cost (suc n)) (cost (best_up_to cost n)) e)
      go false e l ih = ih l
