-- One move and one recipe, for either direction: side counts, shares of a gain, scans and the cut. Assumes nothing.
use mathlib.Core.Path.{◌≡◌, refl, sym, ap, ap₂, ◌∙◌}
use mathlib.Core.Logic.{◌≢◌}
use Prim.Native.Nat.{ℕ, zero, suc, ◌+◌, ◌-◌, ◌≤◌, ◌<◌}
use mathlib.Core.Bool.{Bool, true, false, not, cond, ◌&&◌}
use mathlib.Core.List.{List, []}
use native.Mathlib.Decide.{ℕ_discrete}
use native.Mathlib.Omega.{arith}
use lib.Dec.{eqb, ltb}
use lib.ListN.{length}
use lib.Seq.{get_or-set_same, get_or-set_other}
use borrow.Author.Tests.{eq-eqb, ne_eqb, lt-ltb}
use Rattle.rules.specs.Lists.{bit, total, count}
use Rattle.rules.specs.Split.{side_of, on_side, count_on, is_cut, times, holds, alone, together}
use Rattle.rules.specs.Move.{State, lock_of, free, locked_on, moved, reaches, touches, raises}
use Rattle.rules.specs.Theorems.{Binary}
use Rattle.rules.proofs.Tests.{and-true, and-false}
use Rattle.rules.proofs.Locked.{kinds_by}
use Rattle.rules.proofs.Count.{is0, is1, hit-self, hit-ne, and-le, total-out, total-move, total-has, total-zero, holds-yes, holds-no}

-- f moves, from the state st to st'
pub record Moves (st st' : State) (f : ℕ) : Type 0 where
  pub side : side_of st'.sides f ≡ 1 - side_of st.sides f
  pub sides : (x : ℕ) → x ≢ f → side_of st'.sides x ≡ side_of st.sides x
  pub free : lock_of st f ≡ 0
  pub lock : lock_of st' f ≡ 1
  pub locks : (x : ℕ) → x ≢ f → lock_of st' x ≡ lock_of st x
  pub binary : Binary st.sides

pub move-of : (st : State) (f : ℕ) → f < length st.sides → f < length st.locks → lock_of st f ≡ 0 → Binary st.sides → Moves st (moved st f) f
unfolding moved
move-of st f a b e bin = record {
  side = get_or-set_same st.sides f (1 - side_of st.sides f) 0 a;
  sides = λ x n. get_or-set_other st.sides f x (1 - side_of st.sides f) 0 n;
  free = e;
  lock = get_or-set_same st.locks f 1 0 b;
  locks = λ x n. get_or-set_other st.locks f x 1 0 n;
  binary = bin;
}

-- ---- numbers alone

pos0 : (n : ℕ) → ltb 0 (suc n) ≡ true
pos0 n = lt-ltb 0 (suc n) (omega arith)

-- what the scans give a free file that they reach, and take from it
abbrev pub ups : Bool → Bool → List ℕ → ℕ
ups there left ks = total (λ k. bit (reaches there left k && raises k)) ks

abbrev pub downs : Bool → Bool → List ℕ → ℕ
downs there left ks = total (λ k. bit (reaches there left k && not (raises k))) ks

-- a file on the side left, and one on the side moved to
stays : (T Lt F LF : ℕ) → LF < F
    → bit (eqb F 1) + bit (eqb T 0) + downs false true (kinds_by T Lt F LF)
    ≡ bit (eqb (suc F) 1) + ups false true (kinds_by T Lt F LF) + bit (eqb (suc T) 0)
unfolding total kinds_by
stays T Lt zero LF h = absurd (omega arith)
stays T Lt (suc zero) (suc LF) h = absurd (omega arith)
stays zero Lt (suc zero) zero h = refl
stays (suc zero) zero (suc zero) zero h = refl
stays (suc zero) (suc Lt) (suc zero) zero h = simp is0
stays (suc (suc T)) Lt (suc zero) zero h = simp (is0, is1)
stays zero Lt (suc (suc F)) LF h = simp (is0, is1)
stays (suc zero) zero (suc (suc F)) LF h = simp (is0, is1)
stays (suc zero) (suc Lt) (suc (suc F)) LF h = simp (is0, is1)
stays (suc (suc T)) Lt (suc (suc F)) LF h = simp (is0, is1)

comes : (T Lt F LF : ℕ) → Lt < T
    → bit (eqb (suc T) 1) + bit (eqb (suc F) 0) + downs true false (kinds_by T Lt F LF)
    ≡ bit (eqb T 1) + ups true false (kinds_by T Lt F LF) + bit (eqb F 0)
unfolding total kinds_by
comes zero Lt F LF h = absurd (omega arith)
comes (suc zero) (suc Lt) F LF h = absurd (omega arith)
comes (suc zero) zero zero LF h = refl
comes (suc zero) zero (suc zero) zero h = refl
comes (suc zero) zero (suc zero) (suc LF) h = simp is0
comes (suc zero) zero (suc (suc F)) LF h = simp (is0, is1)
comes (suc (suc T)) Lt zero LF h = simp (is0, is1)
comes (suc (suc T)) Lt (suc zero) zero h = simp (is0, is1)
comes (suc (suc T)) Lt (suc zero) (suc LF) h = simp (is0, is1)
comes (suc (suc T)) Lt (suc (suc F)) LF h = simp (is0, is1)

on_both : ℕ → ℕ → Bool
on_both a b = ltb 0 a && ltb 0 b

both-comm : (a b : ℕ) → on_both a b ≡ on_both b a
unfolding on_both
both-comm zero zero = refl
both-comm zero (suc b) = simp pos0
both-comm (suc a) zero = simp pos0
both-comm (suc a) (suc b) = simp pos0

cut-numbers : (F T : ℕ) → bit (on_both F (suc T)) + bit (eqb (suc F) 1) ≡ bit (on_both (suc F) T) + bit (eqb T 0)
unfolding on_both
cut-numbers zero zero = refl
cut-numbers zero (suc T) = simp (pos0, is0)
cut-numbers (suc F) zero = simp (pos0, is1)
cut-numbers (suc F) (suc T) = simp (pos0, is1, is0)

-- ---- counts

-- a free file of r on side u is counted there, and not among the locked ones
pub has-free : (st : State) (g u : ℕ) (r : List ℕ) → side_of st.sides g ≡ u → lock_of st g ≡ 0 → times g r ≡ 1 → locked_on st u r < count_on st.sides u r
unfolding count_on locked_on count
has-free st g u r e l o =
    omega (
      arith,
      total-has (λ x. bit (on_side st.sides u x)) (λ x. bit (on_side st.sides u x && not (free st x))) g
          (λ x. and-le (on_side st.sides u x) (not (free st x)))
          (rw (eq-eqb (side_of st.sides g) u e, eq-eqb (lock_of st g) 0 l) (omega arith)) r,
    )

cut_at : (sides : List ℕ) (s : ℕ) (r : List ℕ) → s ≤ 1 → on_both (count_on sides 0 r) (count_on sides 1 r) ≡ on_both (count_on sides s r) (count_on sides (1 - s) r)
cut_at sides zero r h = refl
cut_at sides (suc zero) r h = both-comm (count_on sides 0 r) (count_on sides 1 r)
cut_at sides (suc (suc s)) r h = absurd (omega arith)

module _ {st st' : State} {f : ℕ} (m : Moves st st' f) where
  -- a file that is free after the move is not the one moved, and was free before
  pub not-moved : (g : ℕ) → lock_of st' g ≡ 0 → g ≢ f
  not-moved g l e = omega (arith, ap (lock_of st') e, m.lock)

  pub was_free : (g : ℕ) → lock_of st' g ≡ 0 → lock_of st g ≡ 0
  was_free g l = sym (m.locks g (not-moved g l)) ∙ l

  pub stays-binary : Binary st'.sides
  stays-binary x = elim (ℕ_discrete x f) [
    | yes e ↦ rw (e, m.side) (omega arith)
    | no n ↦ rw (m.sides x n) (m.binary x)
  ]

  -- the weights of which the counts are totals
  on : State → ℕ → ℕ → ℕ
  on s u x = bit (on_side s.sides u x)

  lk : State → ℕ → ℕ → ℕ
  lk s u x = bit (on_side s.sides u x && not (free s x))

  on_same : (u x : ℕ) → x ≢ f → on st' u x ≡ on st u x
  unfolding on
  on_same u x n = ap (λ y. bit (eqb y u)) (m.sides x n)

  lk-same : (u x : ℕ) → x ≢ f → lk st' u x ≡ lk st u x
  unfolding lk
  lk-same u x n = ap₂ (λ y z. bit (eqb y u && not (eqb z 0))) (m.sides x n) (m.locks x n)

  pub out-count : (u : ℕ) (r : List ℕ) → times f r ≡ 0 → count_on st'.sides u r ≡ count_on st.sides u r
  unfolding count_on count on
  out-count u r o = total-out (on st' u) (on st u) f (on_same u) r o

  pub out-locked : (u : ℕ) (r : List ℕ) → times f r ≡ 0 → locked_on st' u r ≡ locked_on st u r
  unfolding locked_on count lk
  out-locked u r o = total-out (lk st' u) (lk st u) f (lk-same u) r o

  move-count : (u : ℕ) (r : List ℕ) → times f r ≡ 1
      → count_on st'.sides u r + bit (eqb (side_of st.sides f) u) ≡ count_on st.sides u r + bit (eqb (1 - side_of st.sides f) u)
  unfolding count_on count on
  move-count u r o = rw (← m.side) (total-move (on st' u) (on st u) f (on_same u) r o)

  move-locked : (u : ℕ) (r : List ℕ) → times f r ≡ 1 → locked_on st' u r ≡ locked_on st u r + bit (eqb (1 - side_of st.sides f) u)
  unfolding locked_on count lk
  move-locked u r o =
      let h = total-move (lk st' u) (lk st u) f (lk-same u) r o in
      let a : lk st u f ≡ 0 = ap (λ z. bit (on_side st.sides u f && not (eqb z 0))) m.free ∙ ap bit (and-false (on_side st.sides u f)) in
      let b : lk st' u f ≡ bit (eqb (1 - side_of st.sides f) u)
      = ap₂ (λ y z. bit (eqb y u && not (eqb z 0))) m.side m.lock ∙ ap bit (and-true (eqb (1 - side_of st.sides f) u)) in
      omega (arith)

  there-ne : (1 - side_of st.sides f) ≢ side_of st.sides f
  there-ne = omega (arith, m.binary f)

  left-ne : side_of st.sides f ≢ 1 - side_of st.sides f
  left-ne = omega (arith, m.binary f)

  -- the side left loses f, the side moved to gets it, locked
  pub left-count : (r : List ℕ) → times f r ≡ 1 → count_on st.sides (side_of st.sides f) r ≡ suc (count_on st'.sides (side_of st.sides f) r)
  left-count r o = omega (arith, move-count (side_of st.sides f) r o, hit-self (side_of st.sides f), hit-ne there-ne)

  pub there-count : (r : List ℕ) → times f r ≡ 1 → count_on st'.sides (1 - side_of st.sides f) r ≡ suc (count_on st.sides (1 - side_of st.sides f) r)
  there-count r o = omega (arith, move-count (1 - side_of st.sides f) r o, hit-self (1 - side_of st.sides f), hit-ne left-ne)

  pub left-locked : (r : List ℕ) → times f r ≡ 1 → locked_on st' (side_of st.sides f) r ≡ locked_on st (side_of st.sides f) r
  left-locked r o = omega (arith, move-locked (side_of st.sides f) r o, hit-ne there-ne)

  pub there-locked : (r : List ℕ) → times f r ≡ 1 → locked_on st' (1 - side_of st.sides f) r ≡ suc (locked_on st (1 - side_of st.sides f) r)
  there-locked r o = omega (arith, move-locked (1 - side_of st.sides f) r o, hit-self (1 - side_of st.sides f))

  -- ---- the law of one recipe r and a file g that stays free

  -- the kinds of r's scans, where r holds f
  ks : List ℕ → List ℕ
  ks r =
      kinds_by (count_on st.sides (1 - side_of st.sides f) r) (locked_on st (1 - side_of st.sides f) r)
      (count_on st'.sides (side_of st.sides f) r) (locked_on st' (side_of st.sides f) r)

  -- hf and hg say whether r holds f and g
  unfoldable pub law : Bool → Bool → ℕ → List ℕ → Type 0
  unfolding ks
  law hf hg g r =
      bit (hg && eqb (count_on st'.sides (side_of st'.sides g) r) 1)
      + bit (hg && eqb (count_on st.sides (1 - side_of st.sides g) r) 0)
      + total (λ k. bit (hg && (touches st' (1 - side_of st.sides f) k g && not (raises k)))) (cond hf (ks r) [])
      ≡ bit (hg && eqb (count_on st.sides (side_of st.sides g) r) 1)
      + total (λ k. bit (hg && (touches st' (1 - side_of st.sides f) k g && raises k))) (cond hf (ks r) [])
      + bit (hg && eqb (count_on st'.sides (1 - side_of st'.sides g) r) 0)

  law-both : (r : List ℕ) (g : ℕ) → times f r ≡ 1 → times g r ≡ 1 → lock_of st' g ≡ 0 → law true true g r
  unfolding law ks
  law-both r g o og l =
      let back : 1 - (1 - side_of st.sides f) ≡ side_of st.sides f = omega (arith, m.binary f) in
      elim (ℕ_discrete (side_of st.sides g) (side_of st.sides f)) [
        | yes e ↦
            let s : side_of st'.sides g ≡ side_of st.sides f = m.sides g (not-moved g l) ∙ e in
            rw (s, e, l, back, eq-eqb (side_of st.sides f) (side_of st.sides f) refl, ne_eqb (side_of st.sides f) (1 - side_of st.sides f) left-ne, left-count r o, there-count r o)
            (stays _ _ _ _ (has-free st' g (side_of st.sides f) r s l og))
        | no n ↦
            let e : side_of st.sides g ≡ 1 - side_of st.sides f = omega (arith, m.binary f, m.binary g) in
            let s : side_of st'.sides g ≡ 1 - side_of st.sides f = m.sides g (not-moved g l) ∙ e in
            rw (s, e, l, back, eq-eqb (1 - side_of st.sides f) (1 - side_of st.sides f) refl, ne_eqb (1 - side_of st.sides f) (side_of st.sides f) there-ne, left-count r o, there-count r o)
            (comes _ _ _ _ (has-free st g (1 - side_of st.sides f) r e (was_free g l) og))
      ]

  law-out : (r : List ℕ) (g : ℕ) → times f r ≡ 0 → lock_of st' g ≡ 0 → law false true g r
  unfolding law total
  law-out r g o l = rw (m.sides g (not-moved g l), out-count (side_of st.sides g) r o, out-count (1 - side_of st.sides g) r o) (omega arith)

  pub recipe-law : (r : List ℕ) (g : ℕ) → times f r ≤ 1 → times g r ≤ 1 → lock_of st' g ≡ 0 → law (holds r f) (holds r g) g r
  unfolding law
  recipe-law r g p q l = go (holds r f) (holds r g) refl refl
    where
      go : (hf hg : Bool) → holds r f ≡ hf → holds r g ≡ hg → law hf hg g r
      go hf false a b = rw (total-zero (cond hf (ks r) [])) refl
      go true true a b = law-both r g (holds-yes f r p a) (holds-yes g r q b) l
      go false true a b = law-out r g (holds-no f r a) l

  -- the cut of one recipe
  pub cut-law : (r : List ℕ) → times f r ≤ 1
      → bit (is_cut st'.sides r) + bit (alone st.sides f r) ≡ bit (is_cut st.sides r) + bit (together st.sides f r)
  unfolding alone together is_cut on_both
  cut-law r p = go (holds r f) refl
    where
      go : (hf : Bool) → holds r f ≡ hf
          → bit (is_cut st'.sides r) + bit (hf && eqb (count_on st.sides (side_of st.sides f) r) 1)
          ≡ bit (is_cut st.sides r) + bit (hf && eqb (count_on st.sides (1 - side_of st.sides f) r) 0)
      go false a = let o = holds-no f r a in rw (out-count 0 r o, out-count 1 r o) refl
      go true a =
          let o = holds-yes f r p a in
          rw (cut_at st'.sides (side_of st.sides f) r (m.binary f), cut_at st.sides (side_of st.sides f) r (m.binary f), left-count r o, there-count r o)
          (cut-numbers (count_on st'.sides (side_of st.sides f) r) (count_on st.sides (1 - side_of st.sides f) r))
