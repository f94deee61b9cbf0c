-- A search that begins late, and one that goes part by part. Assumes nothing.
use mathlib.Core.Path.{◌≡◌, sym, ap, ◌∙◌}
use Prim.Native.Nat.{ℕ, ◌+◌, ◌≤◌, ◌<◌}
use mathlib.Core.Bool.{Bool, true, false, ◌&&◌}
use native.Mathlib.Decide.{dec_lt}
use native.Mathlib.Omega.{arith}
use borrow.Author.Tests.{le-leb, lt-leb}
use Rattle.std.specs.Prelude.{Option, Some, None, MatchOption}
use Rattle.rules.specs.Lists.{lowest}
use Rattle.rules.proofs.Tests.{clash}
use Rattle.rules.proofs.Searches.{lowest-le, lowest-passes, below-lowest, lowest-is, lowest-none, Passed, passed-more, passed-hit, passed-end}
use Rattle.job.specs.Pins.{onwards, IsFirst}

pub onwards-below : (a : ℕ) (p : ℕ → Bool) (k : ℕ) → k < a → onwards a p k ≡ false
onwards-below a p k l = ap (λ (b : Bool). b && p k) (lt-leb a k l)

onwards-from : (a : ℕ) (p : ℕ → Bool) (k : ℕ) → a ≤ k → onwards a p k ≡ p k
onwards-from a p k l = ap (λ (b : Bool). b && p k) (le-leb a k l)

-- the search from a on has come to i
pub record Onwards (p : ℕ → Bool) (a n i : ℕ) : Type 0 where
  pub start : a ≤ i
  pub passed : Passed (onwards a p) n i

pub onwards-none : {p : ℕ → Bool} {a n : ℕ} → a ≤ n → Onwards p a n a
onwards-none {p} {a} h = record { start = omega arith; passed = record { stop = h; miss = onwards-below a p } }

module _ {p : ℕ → Bool} {a n i : ℕ} (x : Onwards p a n i) where
  pub onwards-more : i < n → p i ≡ false → Onwards p a n (i + 1)
  onwards-more h e = record { start = omega (arith, x.start); passed = passed-more x.passed h (onwards-from a p i x.start ∙ e) }

  pub onwards-hit : i < n → p i ≡ true → i ≡ lowest (onwards a p) n
  onwards-hit h e = passed-hit x.passed h (onwards-from a p i x.start ∙ e)

  pub onwards-end : n ≤ i → n ≡ lowest (onwards a p) n
  onwards-end h = passed-end x.passed h

-- ---- a search part by part: the part from i up to m was searched by a test q that agrees with p there, and came to r
module _ {p q : ℕ → Bool} {n i : ℕ} (x : Passed p n i) (m r : ℕ) (room : m ≤ n) (agree : (k : ℕ) → i ≤ k → k < m → p k ≡ q k) (e : r ≡ lowest (onwards i q) m) where
  miss-to : (k : ℕ) → k < r → p k ≡ false
  miss-to k l = elim (dec_lt k i) [
    | yes h ↦ x.miss k h
    | no h ↦
        let l' : k < lowest (onwards i q) m = omega arith in
        let le : i ≤ k = omega arith in
        agree k le (omega (arith, lowest-le (onwards i q) m)) ∙ sym (onwards-from i q k le) ∙ below-lowest (onwards i q) m k l'
  ]

  pub part_end : m ≤ r → Passed p n m
  part_end h = record { stop = room; miss = λ k l. miss-to k (omega arith) }

  pub part-hit : r < m → r ≡ lowest p n
  part-hit l =
      let l' : lowest (onwards i q) m < m = omega arith in
      let hit : onwards i q r ≡ true = ap (onwards i q) e ∙ lowest-passes (onwards i q) m l' in
      let le : i ≤ r = elim (dec_lt r i) [ yes h ↦ clash (sym hit ∙ onwards-below i q r h) | no h ↦ omega arith ] in
      sym (lowest-is p n r (omega arith) (agree r le l ∙ sym (onwards-from i q r le) ∙ hit) miss-to)

-- ---- a search by `find` over the numbers below n

pub find-first : (p : ℕ → Bool) (n : ℕ) (r : Option ℕ)
    → MatchOption r ((k : ℕ) → 0 ≤ k → k < n → p k ≡ false) (λ i. (0 ≤ i) × (i < n) × (p i ≡ true) × ((k : ℕ) → 0 ≤ k → k < i → p k ≡ false)) → IsFirst p n r
find-first p n (Some i) (z, l, e, m) = (l, sym (lowest-is p n i l e (λ k h. m k (omega arith) h)))
find-first p n None m = sym (lowest-none p n (λ k h. m k (omega arith) h))
