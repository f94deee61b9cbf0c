-- No recipe is scanned over four times, at most 4N scans, at most 4P visits: one law over a weight for each recipe number. Assumes nothing.
--
-- A recipe's potential: 4 where no side of it holds a locked file; where just one does, 1 more than the files on the other side,
-- of which at most two count; 0 where both do. A move of a file of the recipe lowers it by at least the number of its scans.
use mathlib.Core.Path.{◌≡◌, refl, ◌∙◌}
use Prim.Native.Nat.{ℕ, zero, suc, ◌+◌, ◌-◌, ◌*◌, ◌≤◌, ◌<◌, min}
use mathlib.Core.Bool.{Bool, true, false, cond, ◌&&◌}
use mathlib.Core.List.{List, [], ◌∷◌, map}
use native.Mathlib.Omega.{arith}
use native.Mathlib.Nat.{mul-le-mul_left}
use lib.Dec.{eqb}
use lib.ListN.{length, get_or, length-append, length-map}
use Rattle.rules.specs.Lists.{bit, total, count, up_to}
use Rattle.rules.specs.Split.{side_of, count_on, times, holds, recipes_with}
use Rattle.rules.specs.Move.{steps_by, State, locked_on, moved, after, Frees, stop, move, Scan, kind_if, kinds_in, kinds_of, scans_from, scans_of, scans, visits}
use Rattle.rules.specs.Theorems.{Binary, Distinct}
use Rattle.rules.proofs.Count.{is0, is1, total-append, total-map, total-const, sum_from, sum_from-up_to, total-index, length-up_to, times-up_to, holds-yes, holds-no}
use Rattle.rules.proofs.OneMove.{Moves, move-of, stays-binary, left-count, there-count, left-locked, there-locked, out-count, out-locked}
use Rattle.rules.proofs.Locked.{locked-le, kinds_by, kinds-by}

-- ---- numbers alone: the scans that a side with n files, l of them locked, causes

few : ℕ → ℕ → ℕ
few n l = bit (eqb n 0) + bit (eqb n 1 && eqb l 0)

length-kind_if : (b : Bool) (k : ℕ) → length (kind_if b k) ≡ bit b
length-kind_if true k = refl
length-kind_if false k = refl

length-kinds_by : (T Lt F LF : ℕ) → length (kinds_by T Lt F LF) ≡ few T Lt + few F LF
unfolding kinds_by few
length-kinds_by T Lt F LF = simp (length-append, length-kind_if) (omega arith)

few-le : (n l : ℕ) → few n l ≤ 1
unfolding few
few-le zero l = omega arith
few-le (suc zero) zero = omega arith
few-le (suc zero) (suc l) = simp is0 (omega arith)
few-le (suc (suc n)) l = simp (is0, is1) (omega arith)

few-locked : (n l : ℕ) → l < n → few n (suc l) ≡ 0
unfolding few
few-locked zero l h = absurd (omega arith)
few-locked (suc zero) l h = simp is0
few-locked (suc (suc n)) l h = simp (is0, is1)

few-free : (n : ℕ) → few n 0 + min n 2 ≤ min (suc n) 2
unfolding few
few-free zero = omega arith
few-free (suc zero) = omega arith
few-free (suc (suc n)) = simp (is0, is1) (omega arith)

-- a move scans a recipe of its file at most twice
pub two-kinds : (st : State) (f : ℕ) (r : List ℕ) → length (kinds_of st f r) ≤ 2 * bit (holds r f)
unfolding kinds_of
two-kinds st f r = go (holds r f)
  where
    go : (b : Bool) → length (cond b (kinds_in st f r) []) ≤ 2 * bit b
    go true = rw (kinds-by st f r, length-kinds_by) (omega (arith, few-le (count_on st.sides (1 - side_of st.sides f) r) (locked_on st (1 - side_of st.sides f) r), few-le (count_on (moved st f).sides (side_of st.sides f) r) (locked_on (moved st f) (side_of st.sides f) r)))
    go false = omega arith

pub move-scans : (st : State) (f j : ℕ) (rs : List (List ℕ)) → length (scans_from st f j rs) ≤ 2 * recipes_with rs f
unfolding scans_from count total
move-scans st f j [] = omega arith
move-scans st f j (r ∷ rs) =
    let tag : ℕ → Scan = λ k. record { recipe = j; kind = k } in
    omega (arith, length-append (map tag (kinds_of st f r)) (scans_from st f (suc j) rs), length-map (kinds_of st f r) tag, two-kinds st f r, move-scans st f (suc j) rs)

-- from the locked files of two sides, and all their files
φ : ℕ → ℕ → ℕ → ℕ → ℕ
φ zero zero a b = 4
φ zero (suc l) a b = suc (min a 2)
φ (suc k) zero a b = suc (min b 2)
φ (suc k) (suc l) a b = 0

φ-swap : (k l a b : ℕ) → φ k l a b ≡ φ l k b a
unfolding φ
φ-swap zero zero a b = refl
φ-swap zero (suc l) a b = refl
φ-swap (suc k) zero a b = refl
φ-swap (suc k) (suc l) a b = refl

φ-le : (k l a b : ℕ) → φ k l a b ≤ 4
unfolding φ
φ-le zero zero a b = omega arith
φ-le zero (suc l) a b = omega arith
φ-le (suc k) zero a b = omega arith
φ-le (suc k) (suc l) a b = omega arith

φ-step : (T Lt F LF : ℕ) → Lt ≤ T → LF ≤ F → few T Lt + few F LF + φ LF (suc Lt) F (suc T) ≤ φ LF Lt (suc F) T
unfolding φ
φ-step T zero F zero p q = omega (arith, few-le T 0, few-free F)
φ-step T (suc Lt) F zero p q = omega (arith, few-locked T Lt p, few-free F)
φ-step T zero F (suc LF) p q = omega (arith, few-le T 0, few-locked F LF q)
φ-step T (suc Lt) F (suc LF) p q = omega (arith, few-locked T Lt p, few-locked F LF q)

-- ---- one recipe

potential : State → List ℕ → ℕ
potential st r = φ (locked_on st 0 r) (locked_on st 1 r) (count_on st.sides 0 r) (count_on st.sides 1 r)

potential-at : (st : State) (s : ℕ) (r : List ℕ) → s ≤ 1
    → potential st r ≡ φ (locked_on st s r) (locked_on st (1 - s) r) (count_on st.sides s r) (count_on st.sides (1 - s) r)
unfolding potential
potential-at st zero r h = refl
potential-at st (suc zero) r h = φ-swap (locked_on st 0 r) (locked_on st 1 r) (count_on st.sides 0 r) (count_on st.sides 1 r)
potential-at st (suc (suc s)) r h = absurd (omega arith)

potential-le : (st : State) (r : List ℕ) → potential st r ≤ 4
unfolding potential
potential-le st r = φ-le (locked_on st 0 r) (locked_on st 1 r) (count_on st.sides 0 r) (count_on st.sides 1 r)

module _ (st : State) (f : ℕ) (m : Moves st (moved st f) f) where
  -- a move lowers a recipe's potential by at least the number of its scans
  falls : (r : List ℕ) → times f r ≤ 1 → length (kinds_of st f r) + potential (moved st f) r ≤ potential st r
  unfolding kinds_of
  falls r p = go (holds r f) refl
    where
      go : (b : Bool) → holds r f ≡ b → length (cond b (kinds_in st f r) []) + potential (moved st f) r ≤ potential st r
      go false e = let o = holds-no f r e in unfold potential in rw (out-count m 0 r o, out-count m 1 r o, out-locked m 0 r o, out-locked m 1 r o) (omega arith)
      go true e =
          let o = holds-yes f r p e in
          rw (kinds-by st f r, potential-at (moved st f) (side_of st.sides f) r (m.binary f), potential-at st (side_of st.sides f) r (m.binary f), left-count m r o, there-count m r o, there-locked m r o, left-locked m r o, length-kinds_by)
          (φ-step (count_on st.sides (1 - side_of st.sides f) r) (locked_on st (1 - side_of st.sides f) r) (count_on (moved st f).sides (side_of st.sides f) r) (locked_on st (side_of st.sides f) r)
          (locked-le st (1 - side_of st.sides f) r) (rw (← left-locked m r o) (locked-le (moved st f) (side_of st.sides f) r)))

-- ---- all recipes, w a weight for each recipe number

module _ (w : ℕ → ℕ) where
  scan_weight : List Scan → ℕ
  scan_weight cs = total (λ c. w c.recipe) cs

  stored : State → ℕ → List (List ℕ) → ℕ
  stored st j [] = 0
  stored st j (r ∷ rs) = w j * potential st r + stored st (suc j) rs

  fall-from : (st : State) (f : ℕ) → Moves st (moved st f) f → (j : ℕ) (rs : List (List ℕ)) → ((i : ℕ) → times f (get_or rs i []) ≤ 1)
      → scan_weight (scans_from st f j rs) + stored (moved st f) j rs ≤ stored st j rs
  unfolding scan_weight stored scans_from
  fall-from st f m j [] d = unfold total in omega arith
  fall-from st f m j (r ∷ rs) d =
      let ks : List ℕ = kinds_of st f r in
      let tag : ℕ → Scan = λ k. record { recipe = j; kind = k } in
      omega (
        arith,
        total-append (λ c. w c.recipe) (map tag ks) (scans_from st f (suc j) rs),
        total-map (λ c. w c.recipe) tag ks ∙ total-const (w j) ks,
        mul-le-mul_left (w j) (falls st f m r (d 0)),
        fall-from st f m (suc j) rs (λ i. d (suc i)),
      )

  fall-all : (rs : List (List ℕ)) → Distinct rs → (st : State) (fs : List ℕ) → Frees st fs → Binary st.sides
      → scan_weight (scans rs st fs) + stored (after st fs) 0 rs ≤ stored st 0 rs
  unfolding scans steps_by scan_weight
  fall-all rs dis st [] stop bin = unfold total in omega arith
  fall-all rs dis st (f ∷ fs) (move a b e rest) bin =
      let m : Moves st (moved st f) f = move-of st f a b e bin in
      omega (
        arith,
        total-append (λ c. w c.recipe) (scans_of rs st f) (scans rs (moved st f) fs),
        fall-from st f m 0 rs (λ i. dis i f),
        fall-all rs dis (moved st f) fs rest (stays-binary m),
      )

  stored-le : (st : State) (j : ℕ) (rs : List (List ℕ)) → stored st j rs ≤ 4 * sum_from w j (length rs)
  unfolding stored sum_from
  stored-le st j [] = omega arith
  stored-le st j (r ∷ rs) = omega (arith, mul-le-mul_left (w j) (potential-le st r), stored-le st (suc j) rs)

  -- a weight of the scanned recipes, summed over the scans of any moves, is at most four times its sum over all recipes
  pub at-most-four : (rs : List (List ℕ)) → Distinct rs → (st : State) (fs : List ℕ) → Frees st fs → Binary st.sides
      → total (λ c. w c.recipe) (scans rs st fs) ≤ 4 * total w (up_to (length rs))
  unfolding scan_weight
  at-most-four rs dis st fs l bin = omega (arith, fall-all rs dis st fs l bin, stored-le st 0 rs, sum_from-up_to w (length rs))

module _ (rs : List (List ℕ)) (dis : Distinct rs) (st : State) (fs : List ℕ) (l : Frees st fs) (bin : Binary st.sides) where
  -- no recipe is scanned over four times
  pub recipe-scans : (j : ℕ) → count (λ c. eqb c.recipe j) (scans rs st fs) ≤ 4
  unfolding count times
  recipe-scans j = omega (arith, at-most-four (λ i. bit (eqb i j)) rs dis st fs l bin, times-up_to j (length rs))

  pub all-scans : length (scans rs st fs) ≤ 4 * length rs
  all-scans = omega (arith, at-most-four (λ i. 1) rs dis st fs l bin, total-const 1 (scans rs st fs), total-const 1 (up_to (length rs)), length-up_to (length rs))

  -- `whole` has for each recipe all its files
  pub all-visits : (whole : List (List ℕ)) → length whole ≡ length rs → visits whole (scans rs st fs) ≤ 4 * total length whole
  unfolding visits
  all-visits whole e = omega (arith, at-most-four (λ i. length (get_or whole i [])) rs dis st fs l bin, rw e at (total-index length [] whole))
