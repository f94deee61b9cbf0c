-- A gain and its level; a vault's slots among all. Assumes nothing.
use mathlib.Core.Path.{◌≡◌, refl, sym, ap, ap₂, ◌∙◌}
use Prim.Native.Nat.{ℕ, suc, ◌+◌, ◌*◌, ◌≤◌, ◌<◌}
use mathlib.Core.Bool.{Bool, true, false, not, cond, ◌&&◌}
use native.Mathlib.Decide.{dec_lt}
use native.Mathlib.Omega.{arith}
use lib.Dec.{eqb, ltb}
use lib.IntN.{ℤ, pos, negsuc, ◌+ℤ◌}
use lib.Signed.{lt_z}
use borrow.Author.Tests.{eqb-true, eqb-false, ltb-true, ltb-false, eq-eqb, ne_eqb, lt-ltb, le-ltb}
use Rattle.rules.specs.Lists.{diff}
use Rattle.rules.specs.Fronts.{equal}
use Rattle.rules.proofs.Signed.{up, down, abs, ltb-same, lt_z-key, diff-key}
use Rattle.buckets.specs.Slots.{levels, slots, cut_off, level_of, vault_at, slot_of}

-- ---- the level

module _ (top : ℕ) where
  pub too-low : (s : ℤ) → lt_z s (pos 0) ≡ true → 0 ≡ cut_off top s
  too-low (pos n) e = absurd (omega (arith, ltb-true n 0 e))
  too-low (negsuc n) e = refl

  pub too-high : (s : ℤ) → lt_z (pos top) s ≡ true → top ≡ cut_off top s
  too-high (pos n) e = omega (arith, ltb-true top n e)
  too-high (negsuc n) e = cc

  pub within : (s : ℤ) → lt_z s (pos 0) ≡ false → lt_z (pos top) s ≡ false → s ≡ pos (cut_off top s)
  within (pos n) e f = let q : n ≡ cut_off top (pos n) = omega (arith, ltb-false top n f) in ap pos q
  within (negsuc n) e f = cc

  cut_most : (s : ℤ) → cut_off top s ≤ top
  cut_most (pos n) = omega arith
  cut_most (negsuc n) = omega arith

pub level-most : (p : ℕ) (g : ℤ) → level_of p g ≤ 2 * p
level-most p g = cut_most (2 * p) (g +ℤ pos p)

-- ---- slots

pub vault-within : (p side : ℕ) → vault_at p side ≤ levels p
vault-within p side = go (eqb side 0)
  where
    go : (t : Bool) → cond t 0 (levels p) ≤ levels p
    go true = omega arith
    go false = omega arith

pub slot-within : (p side : ℕ) (g : ℤ) → slot_of p side g < slots p
slot-within p side g = omega (arith, vault-within p side, level-most p g)

-- ---- the slot of a vault and a gain that lies within

level-key : (p : ℕ) (g : ℤ) → abs g ≤ p → level_of p g + down g ≡ p + up g
level-key p (pos n) h = omega arith
level-key p (negsuc n) h = rw (le-ltb p (suc n) (omega arith)) (omega arith)

eqb-by : (a b : ℕ) → eqb a b ≡ (not (ltb a b) && not (ltb b a))
eqb-by a b = go (eqb a b) refl
  where
    go : (t : Bool) → eqb a b ≡ t → t ≡ (not (ltb a b) && not (ltb b a))
    go true e = let q = eqb-true a b e in rw (le-ltb a b (omega arith), le-ltb b a (omega arith)) refl
    go false e = elim (dec_lt a b) [
      | yes l ↦ rw (lt-ltb a b l) refl
      | no l ↦ rw (le-ltb a b (omega arith), lt-ltb b a (omega (arith, eqb-false a b e))) refl
    ]

-- only that of n less p has level n
pub level-test : (p : ℕ) (g : ℤ) (n : ℕ) → abs g ≤ p → eqb (level_of p g) n ≡ equal g (diff n p)
level-test p g n h =
    let k = level-key p g h in
    let d = diff-key n p in
    let y = diff n p in
    let less : lt_z g y ≡ ltb (level_of p g) n = lt_z-key g y ∙ ltb-same (up g + down y) (up y + down g) (level_of p g) n (λ l. omega arith) (λ l. omega arith) in
    let more : lt_z y g ≡ ltb n (level_of p g) = lt_z-key y g ∙ ltb-same (up y + down g) (up g + down y) n (level_of p g) (λ l. omega arith) (λ l. omega arith) in
    eqb-by (level_of p g) n ∙ sym (ap₂ (λ (a b : Bool). not a && not b) less more)

pub slot-test : (p s u : ℕ) (g : ℤ) (n : ℕ) → s ≤ 1 → u ≤ 1 → abs g ≤ p → n < levels p → eqb (slot_of p s g) (vault_at p u + n) ≡ (eqb s u && equal g (diff n p))
slot-test p s u g n hs hu h l = go (eqb s 0) (eqb u 0) refl refl
  where
    most : level_of p g ≤ 2 * p
    most = level-most p g

    same : (v : ℕ) → eqb (v + level_of p g) (v + n) ≡ eqb (level_of p g) n
    same v = eqb-by (v + level_of p g) (v + n)
        ∙ ap₂ (λ (a b : Bool). not a && not b) (ltb-same (v + level_of p g) (v + n) (level_of p g) n (λ x. omega arith) (λ x. omega arith)) (ltb-same (v + n) (v + level_of p g) n (level_of p g) (λ x. omega arith) (λ x. omega arith))
        ∙ sym (eqb-by (level_of p g) n)

    own : (v : ℕ) → s ≡ u → eqb (v + level_of p g) (v + n) ≡ (eqb s u && equal g (diff n p))
    own v q = rw (eq-eqb s u q) (same v ∙ level-test p g n h)

    go : (a b : Bool) → eqb s 0 ≡ a → eqb u 0 ≡ b → eqb (cond a 0 (levels p) + level_of p g) (cond b 0 (levels p) + n) ≡ (eqb s u && equal g (diff n p))
    go true true e f = own 0 (eqb-true s 0 e ∙ sym (eqb-true u 0 f))
    go true false e f = rw (ne_eqb s u (λ q. eqb-false u 0 f (sym q ∙ eqb-true s 0 e))) (ne_eqb (0 + level_of p g) (levels p + n) (λ q. omega (arith, most)))
    go false true e f = rw (ne_eqb s u (λ q. eqb-false s 0 e (q ∙ eqb-true u 0 f))) (ne_eqb (levels p + level_of p g) (0 + n) (λ q. omega (arith, most)))
    go false false e f = own (levels p) (omega (arith, eqb-false s 0 e, eqb-false u 0 f))
