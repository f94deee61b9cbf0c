-- The counts of recipe after recipe, for each side. Assumes nothing.
use mathlib.Core.Path.{◌≡◌, ap, ◌∙◌}
use mathlib.Core.Logic.{◌≢◌}
use Prim.Native.Nat.{ℕ, zero, suc, ◌+◌, ◌*◌, ◌≤◌, ◌<◌}
use mathlib.Core.List.{List, []}
use native.Mathlib.Omega.{arith}
use lib.ListN.{length, get_or, set, length-set}
use lib.Seq.{get_or-set_other}
use borrow.Author.Count.{below_more}
use Rattle.rules.specs.Split.{count_on}
use Rattle.rules.specs.Move.{State}
use Rattle.rules.specs.Move.{locked_on}
use Rattle.tables.specs.Zones.{side_at, CountsOf, Counts}
use Rattle.tables.specs.Counting.{counted_side, counted}
use Rattle.tables.proofs.Parts.{at_set}

-- ---- one side of a recipe

module _ (st : State) (n u i : ℕ) (r z : List ℕ) where
  abbrev one : List ℕ
  one = set z i (count_on st.sides u r)

  side-long : length (counted_side st n u i r z) ≡ length z
  side-long = length-set one (i + 2 * n) _ ∙ length-set z i _

  -- every other place stays
  side-off : (k : ℕ) → k ≢ i → k ≢ i + 2 * n → get_or (counted_side st n u i r z) k 0 ≡ get_or z k 0
  side-off k a b = get_or-set_other one (i + 2 * n) k _ 0 b ∙ get_or-set_other z i k _ 0 a

  module _ (some : 0 < n) (h : i + 2 * n < length z) where
    side-on : (k : ℕ) → k ≡ i → get_or (counted_side st n u i r z) k 0 ≡ count_on st.sides u r
    side-on k e = get_or-set_other one (i + 2 * n) k _ 0 (λ q. omega arith) ∙ at_set z i k _ e (omega arith)

    side-locked : (k : ℕ) → k ≡ i + 2 * n → get_or (counted_side st n u i r z) k 0 ≡ locked_on st u r
    side-locked k e = at_set one (i + 2 * n) k _ e (omega (arith, length-set z i (count_on st.sides u r)))

-- ---- both sides

module _ (st : State) (n j : ℕ) (r z : List ℕ) (h : j < n) (e : length z ≡ 4 * n) where
  abbrev first : List ℕ
  first = counted_side st n 0 j r z

  first-long : length first ≡ 4 * n
  first-long = side-long st n 0 j r z ∙ e

  counted-long : length (counted st n j r z) ≡ 4 * n
  unfolding counted
  counted-long = side-long st n 1 (n + j) r first ∙ first-long

  -- the counts of another recipe stay
  counted-off : (k : ℕ) → k ≢ j → k ≢ j + 2 * n → k ≢ n + j → k ≢ n + j + 2 * n → get_or (counted st n j r z) k 0 ≡ get_or z k 0
  unfolding counted
  counted-off k a b c d = side-off st n 1 (n + j) r first k c d ∙ side-off st n 0 j r z k a b

  counts-stay : (rs : List (List ℕ)) (i : ℕ) → i < n → i ≢ j → CountsOf rs st 0 n z i → CountsOf rs st 0 n (counted st n j r z) i
  counts-stay rs i l d s = record { on = on; locked = locked }
    where
      on : (u : ℕ) → u ≤ 1 → get_or (counted st n j r z) (side_at 0 n u + i) 0 ≡ count_on st.sides u (get_or rs i [])
      on zero m = counted-off (0 + i) (λ q. d (omega arith)) (λ q. omega arith) (λ q. omega arith) (λ q. omega arith) ∙ s.on 0 m
      on (suc zero) m = counted-off (0 + n + i) (λ q. omega arith) (λ q. omega arith) (λ q. d (omega arith)) (λ q. omega arith) ∙ s.on 1 m
      on (suc (suc u)) m = absurd (omega arith)

      locked : (u : ℕ) → u ≤ 1 → get_or (counted st n j r z) (side_at 0 n u + i + 2 * n) 0 ≡ locked_on st u (get_or rs i [])
      locked zero m = counted-off (0 + i + 2 * n) (λ q. omega arith) (λ q. d (omega arith)) (λ q. omega arith) (λ q. omega arith) ∙ s.locked 0 m
      locked (suc zero) m = counted-off (0 + n + i + 2 * n) (λ q. omega arith) (λ q. omega arith) (λ q. omega arith) (λ q. d (omega arith)) ∙ s.locked 1 m
      locked (suc (suc u)) m = absurd (omega arith)

  counts-set : (rs : List (List ℕ)) → r ≡ get_or rs j [] → CountsOf rs st 0 n (counted st n j r z) j
  unfolding counted
  counts-set rs q = record { on = on; locked = locked }
    where
      on : (u : ℕ) → u ≤ 1 → get_or (counted st n j r z) (side_at 0 n u + j) 0 ≡ count_on st.sides u (get_or rs j [])
      on zero m =
          side-off st n 1 (n + j) r first (0 + j) (λ q. omega arith) (λ q. omega arith) ∙ side-on st n 0 j r z (omega arith) (omega arith) (0 + j) (omega arith)
          ∙ ap (count_on st.sides 0) q
      on (suc zero) m = side-on st n 1 (n + j) r first (omega arith) (omega (arith, first-long)) (0 + n + j) (omega arith) ∙ ap (count_on st.sides 1) q
      on (suc (suc u)) m = absurd (omega arith)

      locked : (u : ℕ) → u ≤ 1 → get_or (counted st n j r z) (side_at 0 n u + j + 2 * n) 0 ≡ locked_on st u (get_or rs j [])
      locked zero m =
          side-off st n 1 (n + j) r first (0 + j + 2 * n) (λ q. omega arith) (λ q. omega arith) ∙ side-locked st n 0 j r z (omega arith) (omega arith) (0 + j + 2 * n) (omega arith)
          ∙ ap (locked_on st 0) q
      locked (suc zero) m = side-locked st n 1 (n + j) r first (omega arith) (omega (arith, first-long)) (0 + n + j + 2 * n) (omega arith) ∙ ap (locked_on st 1) q
      locked (suc (suc u)) m = absurd (omega arith)

-- the first j recipes are counted
pub record CountedTo (rs : List (List ℕ)) (st : State) (n j : ℕ) (z : List ℕ) : Type 0 where
  pub long : length z ≡ 4 * n
  pub each : (i : ℕ) → i < j → CountsOf rs st 0 n z i

pub counted_none : (rs : List (List ℕ)) (st : State) (n : ℕ) (z : List ℕ) → length z ≡ 4 * n → CountedTo rs st n 0 z
counted_none rs st n z e = record { long = e; each = λ i l. absurd (omega arith) }

pub counted-more : {rs : List (List ℕ)} {st : State} {n j : ℕ} {z : List ℕ} (r : List ℕ) → CountedTo rs st n j z → j < n → r ≡ get_or rs j []
    → CountedTo rs st n (j + 1) (counted st n j r z)
counted-more {rs} {st} {n} {j} {z} r s h q =
    record {
      long = counted-long st n j r z h s.long;
      each = below_more (λ i. CountsOf rs st 0 n (counted st n j r z) i) j
          (λ i l. counts-stay st n j r z h s.long rs i (omega arith) (λ e. omega arith) (s.each i l))
          (counts-set st n j r z h s.long rs q);
    }

pub counted-end : {rs : List (List ℕ)} {st : State} {n j : ℕ} {z : List ℕ} → CountedTo rs st n j z → n ≤ j → Counts rs st 0 n z
counted-end s h = record { each = λ i l. s.each i (omega arith) }
