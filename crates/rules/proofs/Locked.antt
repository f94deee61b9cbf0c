-- "T is 1 and that file is free", by the locked files of a side: nobody has to look for the file. Assumes nothing.
use mathlib.Core.Path.{◌≡◌, refl, sym, ap, ap₂, ◌∙◌}
use Prim.Native.Nat.{ℕ, ◌+◌, ◌≤◌}
use mathlib.Core.Bool.{Bool, true, false, not, cond, ◌&&◌}
use mathlib.Core.List.{List, [], ◌∷◌, ◌++◌}
use native.Mathlib.Omega.{arith}
use lib.Dec.{eqb}
use lib.ListN.{length}
use native.Mathlib.Nat.{zero-add}
use borrow.Author.Tests.{eqb-true, eq-eqb, ne_eqb}
use Rattle.rules.specs.Lists.{bit, total, count}
use Rattle.rules.specs.Split.{other, side_of, on_side, count_on}
use Rattle.rules.specs.Move.{State, free, locked_on, moved, file_on, kind_if, kinds_in}
use Rattle.rules.proofs.Count.{and-le, total-le, count-le}

pub locked-le : (st : State) (u : ℕ) (r : List ℕ) → locked_on st u r ≤ count_on st.sides u r
unfolding locked_on count_on count
locked-le st u r =
    total-le (λ x. bit (on_side st.sides u x)) (λ x. bit (on_side st.sides u x && not (free st x)))
    (λ x. and-le (on_side st.sides u x) (not (free st x))) r

pub locked_on-le : (st : State) (u : ℕ) (r : List ℕ) → locked_on st u r ≤ length r
unfolding locked_on
locked_on-le st u r = count-le (λ x. on_side st.sides u x && not (free st x)) r

-- where one file of r is on side u, it is free exactly if none there is locked
pub one_free : (st : State) (u : ℕ) (r : List ℕ) → count_on st.sides u r ≡ 1 → free st (file_on st.sides u r) ≡ eqb (locked_on st u r) 0
unfolding count_on locked_on count total file_on
one_free st u [] h = absurd (omega arith)
one_free st u (x ∷ r) h = go (on_side st.sides u x) (free st x) refl h (one_free st u r)
  where
    on : ℕ
    on = total (λ y. bit (on_side st.sides u y)) r

    locked : ℕ
    locked = total (λ y. bit (on_side st.sides u y && not (free st y))) r

    less : locked ≤ on
    less = unfold locked_on count_on count in locked-le st u r

    go : (a b : Bool) → free st x ≡ b → bit a + on ≡ 1 → (on ≡ 1 → free st (file_on st.sides u r) ≡ eqb locked 0)
        → free st (cond a x (file_on st.sides u r)) ≡ eqb (bit (a && not b) + locked) 0
    go true true e q ih = e ∙ sym (eq-eqb (0 + locked) 0 (omega (arith, less)))
    go true false e q ih = e ∙ sym (ne_eqb (1 + locked) 0 (λ z. omega arith))
    go false b e q ih = ih (omega arith) ∙ ap (λ (n : ℕ). eqb n 0) (sym (zero-add locked))

-- the kinds of scan by T and F, of which Lt and LF are locked
unfoldable pub kinds_by : ℕ → ℕ → ℕ → ℕ → List ℕ
kinds_by T Lt F LF =
    kind_if (eqb T 0) 1 ++ kind_if (eqb T 1 && eqb Lt 0) 2 ++ kind_if (eqb F 0) 3 ++ kind_if (eqb F 1 && eqb LF 0) 4

one-and : (st : State) (u : ℕ) (r : List ℕ)
    → (eqb (count_on st.sides u r) 1 && free st (file_on st.sides u r)) ≡ (eqb (count_on st.sides u r) 1 && eqb (locked_on st u r) 0)
one-and st u r = go (eqb (count_on st.sides u r) 1) refl
  where
    go : (b : Bool) → eqb (count_on st.sides u r) 1 ≡ b → (b && free st (file_on st.sides u r)) ≡ (b && eqb (locked_on st u r) 0)
    go true e = one_free st u r (eqb-true (count_on st.sides u r) 1 e)
    go false e = refl

pub kinds-by : (st : State) (f : ℕ) (r : List ℕ)
    → kinds_in st f r
    ≡ kinds_by (count_on st.sides (other (side_of st.sides f)) r) (locked_on st (other (side_of st.sides f)) r)
    (count_on (moved st f).sides (side_of st.sides f) r) (locked_on (moved st f) (side_of st.sides f) r)
unfolding kinds_in kinds_by
kinds-by st f r =
    let s = side_of st.sides f in
    let T = count_on st.sides (other s) r in
    let F = count_on (moved st f).sides s r in
    ap₂ (λ (two four : Bool). kind_if (eqb T 0) 1 ++ kind_if two 2 ++ kind_if (eqb F 0) 3 ++ kind_if four 4)
    (one-and st (other s) r) (one-and (moved st f) s r)
