-- The changes of a move go one way: a file of the vault left gains, one of the vault moved to loses. Assumes nothing.
use mathlib.Core.Path.{◌≡◌, refl, sym, ap, ◌∙◌}
use mathlib.Core.Logic.{◌≢◌}
use Prim.Native.Nat.{ℕ, zero, suc, ◌+◌, ◌≤◌}
use mathlib.Core.Bool.{Bool, true, false, cond, ◌&&◌}
use mathlib.Core.List.{List, [], ◌∷◌, ◌++◌, map}
use native.Mathlib.Decide.{ℕ_discrete}
use native.Mathlib.Nat.{add-zero, add-suc, suc-add, zero-add}
use native.Mathlib.Omega.{arith}
use lib.Dec.{eqb}
use lib.IntN.{pos, negsuc}
use lib.ListN.{get_or}
use borrow.Author.Tests.{eqb-true, eqb-false, eq-eqb, ne_eqb}
use Rattle.rules.specs.Lists.{bit, total, count, those}
use Rattle.rules.specs.Split.{other, side_of, on_side, count_on, times, holds}
use Rattle.rules.specs.Move.{State, lock_of, free, moved, file_on, kind_if, kinds_in, kinds_of, Scan, scans_from, reaches, touches, change, Change, change_of, changes_in, changes_by}
use Rattle.rules.specs.FrontsHold.{OneWay}
use Rattle.rules.proofs.Tests.{clash, and_yes, contra}
use Rattle.rules.proofs.Count.{hit-ne}
use Rattle.rules.proofs.InTurn.{Every, every_append}
use Rattle.rules.proofs.OneMove.{Moves, stays-binary}
use Rattle.rules.proofs.Latest.{held_first, held_more}

-- where a recipe has no file, none of its files is
none-there : (sides : List ℕ) (u x : ℕ) (r : List ℕ) → count_on sides u r ≡ 0 → 1 ≤ times x r → on_side sides u x ≡ false
unfolding count_on times count total
none-there sides u x [] z h = absurd (omega arith)
none-there sides u x (y ∷ r) z h = elim (ℕ_discrete y x) [
  | yes e ↦ contra (on_side sides u x) (λ q. omega (arith, ap bit (ap (on_side sides u) e ∙ q)))
  | no n ↦ none-there sides u x r (omega arith) (omega (arith, hit-ne n))
]

module _ (rs : List (List ℕ)) (st : State) (f : ℕ) (m : Moves st (moved st f) f) where
  abbrev from : ℕ
  from = side_of st.sides f

  abbrev to : ℕ
  to = other from

  abbrev now : State
  now = moved st f

  -- a scan of kind k over r changes each file one way
  abbrev Fits : List ℕ → ℕ → Type 0
  Fits r k = (x : ℕ) → 1 ≤ times x r → touches now to k x ≡ true → change k ≡ cond (on_side now.sides to x) (negsuc 0) (pos 1)

  not-moved : (k x : ℕ) → touches now to k x ≡ true → x ≢ f
  not-moved k x h e =
      let q = eqb-true (lock_of now x) 0 (and_yes (free now x) (reaches (on_side now.sides to x) (on_side now.sides (other to) x) k) h).0 in
      omega (arith, ap (lock_of now) e, m.lock)

  fits1 : (r : List ℕ) → eqb (count_on st.sides to r) 0 ≡ true → Fits r 1
  fits1 r z x h k =
      let q : on_side now.sides to x ≡ false
      = ap (λ (y : ℕ). eqb y to) (m.sides x (not-moved 1 x k)) ∙ none-there st.sides to x r (eqb-true (count_on st.sides to r) 0 z) h in
      rw q refl

  fits2 : (r : List ℕ) → Fits r 2
  fits2 r x h k = go (on_side now.sides to x) (and_yes (free now x) (reaches (on_side now.sides to x) (on_side now.sides (other to) x) 2) k).1
    where
      go : (t : Bool) → reaches t (on_side now.sides (other to) x) 2 ≡ true → negsuc 0 ≡ cond t (negsuc 0) (pos 1)
      go true e = refl
      go false e = clash (sym e)

  fits3 : (r : List ℕ) → eqb (count_on now.sides from r) 0 ≡ true → Fits r 3
  fits3 r z x h k =
      let n = eqb-false (side_of now.sides x) from (none-there now.sides from x r (eqb-true (count_on now.sides from r) 0 z) h) in
      let q : side_of now.sides x ≡ to = omega (arith, n, m.binary f, stays-binary m x) in
      rw (eq-eqb (side_of now.sides x) to q) refl

  fits4 : (r : List ℕ) → Fits r 4
  fits4 r x h k =
      let l : on_side now.sides (other to) x ≡ true = go (on_side now.sides (other to) x) (and_yes (free now x) (reaches (on_side now.sides to x) (on_side now.sides (other to) x) 4) k).1 in
      let e = eqb-true (side_of now.sides x) (other to) l in
      rw (ne_eqb (side_of now.sides x) to (λ q. omega (arith, m.binary f))) refl
    where
      go : (t : Bool) → reaches (on_side now.sides to x) t 4 ≡ true → t ≡ true
      go true e = refl
      go false e = e

  if-fits : (r : List ℕ) (b : Bool) (k : ℕ) → (b ≡ true → Fits r k) → Every 0 (Fits r) (kind_if b k)
  if-fits r true k h zero l = h refl
  if-fits r true k h (suc i) l = absurd (omega arith)
  if-fits r false k h i l = absurd (omega arith)

  kinds-fit : (r : List ℕ) → Every 0 (Fits r) (kinds_in st f r)
  unfolding kinds_in
  kinds-fit r =
      let T : ℕ = count_on st.sides to r in
      let F : ℕ = count_on now.sides from r in
      let second : Bool = eqb T 1 && free st (file_on st.sides to r) in
      let fourth : Bool = eqb F 1 && free now (file_on now.sides from r) in
      every_append 0 (Fits r) (kind_if (eqb T 0) 1 ++ kind_if second 2 ++ kind_if (eqb F 0) 3) (kind_if fourth 4)
      (every_append 0 (Fits r) (kind_if (eqb T 0) 1 ++ kind_if second 2) (kind_if (eqb F 0) 3)
      (every_append 0 (Fits r) (kind_if (eqb T 0) 1) (kind_if second 2) (if-fits r (eqb T 0) 1 (fits1 r)) (if-fits r second 2 (λ e. fits2 r)))
      (if-fits r (eqb F 0) 3 (fits3 r)))
      (if-fits r fourth 4 (λ e. fits4 r))

  module _ (d : Change) where
    abbrev Way : Change → Type 0
    Way c = c.by ≡ cond (on_side now.sides to c.file) (negsuc 0) (pos 1)

    scan-way : (k : ℕ) (r : List ℕ) → Fits r k → Every d Way (changes_in now to k r)
    unfolding changes_in those
    scan-way k [] fit = λ i h. absurd (omega arith)
    scan-way k (y ∷ r) fit = go (touches now to k y) refl (scan-way k r (λ x h. fit x (held_more y x r h)))
      where
        go : (b : Bool) → touches now to k y ≡ b → Every d Way (map (change_of k) (those (touches now to k) r))
            → Every d Way (map (change_of k) (cond b (y ∷ those (touches now to k) r) (those (touches now to k) r)))
        go true e ih zero h = fit y (held_first y r) e
        go true e ih (suc i) h = ih i (omega arith)
        go false e ih i h = ih i h

    recipe-way : (j : ℕ) (r : List ℕ) → get_or rs j [] ≡ r → (ks : List ℕ) → Every 0 (Fits r) ks → (cs : List Scan) → Every d Way (changes_by rs now to cs)
        → Every d Way (changes_by rs now to (map (λ k. record { recipe = j; kind = k }) ks ++ cs))
    unfolding changes_by
    recipe-way j r e [] all cs rest = rest
    recipe-way j r e (k ∷ ks) all cs rest =
        every_append d Way (changes_in now to k (get_or rs j [])) (changes_by rs now to (map (λ k. record { recipe = j; kind = k }) ks ++ cs))
        (rw e (scan-way k r (all 0 (omega arith)))) (recipe-way j r e ks (λ i h. all (suc i) (omega arith)) cs rest)

    scans-way : (rest : List (List ℕ)) (j : ℕ) → ((i : ℕ) → get_or rs (j + i) [] ≡ get_or rest i []) → Every d Way (changes_by rs now to (scans_from st f j rest))
    unfolding scans_from kinds_of
    scans-way [] j e = unfold changes_by in λ i h. absurd (omega arith)
    scans-way (r ∷ rest) j e =
        go (holds r f) (scans-way rest (suc j) (λ i. ap (λ k. get_or rs k []) (suc-add j i ∙ sym (add-suc j i)) ∙ e (suc i)))
      where
        this : get_or rs j [] ≡ r
        this = ap (λ k. get_or rs k []) (sym (add-zero j)) ∙ e 0

        go : (b : Bool) → Every d Way (changes_by rs now to (scans_from st f (suc j) rest))
            → Every d Way (changes_by rs now to (map (λ k. record { recipe = j; kind = k }) (cond b (kinds_in st f r) []) ++ scans_from st f (suc j) rest))
        go true ih = recipe-way j r this (kinds_in st f r) (kinds-fit r) (scans_from st f (suc j) rest) ih
        go false ih = ih

  pub one_way : OneWay rs st f
  one_way d = scans-way d rs 0 (λ i. ap (λ k. get_or rs k []) (zero-add i))
