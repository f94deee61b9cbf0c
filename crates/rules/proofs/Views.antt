-- Bounds that rise, and the cases of the view. Assumes nothing.
use mathlib.Core.Path.{◌≡◌, ap, ◌∙◌}
use Prim.Native.Nat.{ℕ, zero, suc, ◌+◌, ◌-◌, ◌≤◌, ◌<◌}
use mathlib.Core.List.{List, []}
use native.Mathlib.Omega.{arith}
use native.Mathlib.Numerals.{add-one}
use lib.ListN.{length, get_or, take, drop}
use borrow.Author.Tests.{le-ltb, lt-ltb, le-leb, lt-leb}
use Rattle.rules.specs.Job.{view_of}

-- bounds of which none of the first n is over the next one rise
module _ (bs : List ℕ) (n : ℕ) (up : (j : ℕ) → j < n → get_or bs j 0 ≤ get_or bs (suc j) 0) where
  rises : (d i j : ℕ) → i + d ≡ j → j ≤ n → get_or bs i 0 ≤ get_or bs j 0
  rises zero i j e h = let q : i ≡ j = omega arith in omega (arith, ap (λ (k : ℕ). get_or bs k 0) q)
  rises (suc d) i j e h = omega (arith, up i (omega arith), rises d (suc i) j (omega arith) h)

  pub bounds-rise : (i j : ℕ) → i ≤ j → j ≤ n → get_or bs i 0 ≤ get_or bs j 0
  bounds-rise i j l h = rises (j - i) i j (omega arith) h

module _ (bs ps : List ℕ) (j : ℕ) where
  pub none-past : length bs - 1 ≤ j → [] ≡ view_of bs ps j
  unfolding view_of
  none-past h = rw (le-ltb (suc j) (length bs) (omega arith))

  -- there is a recipe j, and its bounds are a and b
  module _ (a b : ℕ) (h : j < length bs - 1) (p : a ≡ get_or bs j 0) (q : b ≡ get_or bs (j + 1) 0) where
    next : b ≡ get_or bs (suc j) 0
    next = q ∙ ap (λ (k : ℕ). get_or bs k 0) (add-one j)

    pub none-order : b < a → [] ≡ view_of bs ps j
    unfolding view_of
    none-order k = rw (lt-ltb (suc j) (length bs) (omega arith), ← p, ← next, lt-leb a b k)

    pub none-beyond : a ≤ b → length ps < b → [] ≡ view_of bs ps j
    unfolding view_of
    none-beyond k l = rw (lt-ltb (suc j) (length bs) (omega arith), ← p, ← next, le-leb a b k, lt-leb b (length ps) l)

    pub is-part : a ≤ b → b ≤ length ps → take (b - a) (drop a ps) ≡ view_of bs ps j
    unfolding view_of
    is-part k l = rw (lt-ltb (suc j) (length bs) (omega arith), ← p, ← next, le-leb a b k, le-leb b (length ps) l)
