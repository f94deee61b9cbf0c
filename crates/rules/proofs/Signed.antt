-- Differences of naturals as signed numbers. Assumes nothing.
use mathlib.Core.Path.{◌≡◌, refl, sym, ap, ap₂, ◌∙◌}
use Prim.Native.Nat.{ℕ, zero, suc, ◌+◌, ◌-◌, ◌≤◌, ◌<◌}
use mathlib.Core.Bool.{Bool, true, false, not, cond, ◌&&◌}
use native.Mathlib.Omega.{arith}
use lib.Dec.{ltb}
use lib.Signed.{lt_z}
use borrow.Author.Tests.{ltb-true, ltb-false, lt-ltb, le-ltb}
use lib.IntN.{ℤ, sub_ℕ, pos, negsuc, neg_ℤ, ◌+ℤ◌, +ℤ_assoc, +ℤ_comm, +ℤ_idl, +ℤ_idr, +ℤ_invr, neg_ℤ-+ℤ, neg_ℤ-neg_ℤ}
use Rattle.rules.specs.Lists.{bit, diff}

swap : (a b c d : ℤ) → (a +ℤ b) +ℤ (c +ℤ d) ≡ (a +ℤ c) +ℤ (b +ℤ d)
swap a b c d = +ℤ_assoc a b (c +ℤ d) ∙ ap (λ z. a +ℤ z) (sym (+ℤ_assoc b c d) ∙ ap (λ z. z +ℤ d) (+ℤ_comm b c) ∙ +ℤ_assoc c b d) ∙ sym (+ℤ_assoc a c (b +ℤ d))

pub diff-add : (a b c d : ℕ) → diff a b +ℤ diff c d ≡ diff (a + c) (b + d)
unfolding diff
diff-add a b c d = swap (pos a) (neg_ℤ (pos b)) (pos c) (neg_ℤ (pos d)) ∙ ap (λ z. pos (a + c) +ℤ z) (sym (neg_ℤ-+ℤ (pos b) (pos d)))

pub diff-self : (a : ℕ) → diff a a ≡ pos 0
unfolding diff
diff-self a = +ℤ_invr (pos a)

pub diff-more : (a b c : ℕ) → diff (a + c) (b + c) ≡ diff a b
diff-more a b c = sym (diff-add a b c c) ∙ ap (λ z. diff a b +ℤ z) (diff-self c) ∙ +ℤ_idr (diff a b)

pub diff-eq : (a b c d : ℕ) → a + d ≡ c + b → diff a b ≡ diff c d
diff-eq a b c d e =
    let h : b + d ≡ d + b = omega arith in
    sym (diff-more a b d) ∙ ap₂ diff e h ∙ diff-more c d b

pub diff-neg : (a b : ℕ) → neg_ℤ (diff a b) ≡ diff b a
unfolding diff
diff-neg a b = neg_ℤ-+ℤ (pos a) (neg_ℤ (pos b)) ∙ ap (λ z. neg_ℤ (pos a) +ℤ z) (neg_ℤ-neg_ℤ (pos b)) ∙ +ℤ_comm (neg_ℤ (pos a)) (pos b)

pub diff-pos : (a : ℕ) → pos a ≡ diff a 0
unfolding diff
diff-pos a = sym (+ℤ_idr (pos a))

pub diff-zero : diff 0 0 ≡ pos 0
unfolding diff
diff-zero = refl

-- a step up or down, where a test lets it through
pub step-diff : (a b : Bool) → cond a (cond b (pos 1) (negsuc 0)) (pos 0) ≡ diff (bit (a && b)) (bit (a && not b))
unfolding diff
step-diff true true = refl
step-diff true false = refl
step-diff false b = refl

-- ---- the order

-- every signed number is `up` less `down`
abbrev pub up : ℤ → ℕ
up (pos n) = n
up (negsuc n) = 0

abbrev pub down : ℤ → ℕ
down (pos n) = 0
down (negsuc n) = suc n

-- two tests of numbers that say the same
pub ltb-same : (x y u v : ℕ) → (x < y → u < v) → (y ≤ x → v ≤ u) → ltb x y ≡ ltb u v
ltb-same x y u v f g = go (ltb x y) refl
  where
    go : (b : Bool) → ltb x y ≡ b → ltb x y ≡ ltb u v
    go true e = e ∙ sym (lt-ltb u v (f (ltb-true x y e)))
    go false e = e ∙ sym (le-ltb u v (g (ltb-false x y e)))

-- the test of two signed numbers is a test of two sums
pub lt_z-key : (a b : ℤ) → lt_z a b ≡ ltb (up a + down b) (up b + down a)
lt_z-key (pos a) (pos b) = ltb-same a b (a + 0) (b + 0) (λ h. omega arith) (λ h. omega arith)
lt_z-key (pos a) (negsuc b) = sym (le-ltb (a + suc b) 0 (omega arith))
lt_z-key (negsuc a) (pos b) = sym (lt-ltb 0 (b + suc a) (omega arith))
lt_z-key (negsuc a) (negsuc b) = ltb-same b a (0 + suc b) (0 + suc a) (λ h. omega arith) (λ h. omega arith)

pub lt_z-true : (a b : ℤ) → lt_z a b ≡ true → up a + down b < up b + down a
lt_z-true a b e = ltb-true (up a + down b) (up b + down a) (sym (lt_z-key a b) ∙ e)

pub lt_z-false : (a b : ℤ) → lt_z a b ≡ false → up b + down a ≤ up a + down b
lt_z-false a b e = ltb-false (up a + down b) (up b + down a) (sym (lt_z-key a b) ∙ e)

sub-key : (a b : ℕ) → up (sub_ℕ a b) + b ≡ a + down (sub_ℕ a b)
sub-key a b = go (ltb a b) refl
  where
    go : (t : Bool) → ltb a b ≡ t → up (cond t (negsuc (b - suc a)) (pos (a - b))) + b ≡ a + down (cond t (negsuc (b - suc a)) (pos (a - b)))
    go true e = omega (arith, ltb-true a b e)
    go false e = omega (arith, ltb-false a b e)

pub diff-key : (a b : ℕ) → up (diff a b) + b ≡ a + down (diff a b)
unfolding diff
diff-key a zero = omega arith
diff-key a (suc b) = sub-key a (suc b)

pub diff-least : (a b c d : ℕ) → c + b ≤ a + d → lt_z (diff a b) (diff c d) ≡ false
diff-least a b c d h = lt_z-key (diff a b) (diff c d) ∙ le-ltb (up (diff a b) + down (diff c d)) (up (diff c d) + down (diff a b)) (omega (arith, diff-key a b, diff-key c d))

-- ---- how large a signed number is

abbrev pub abs : ℤ → ℕ
abs z = up z + down z

from_key : (z : ℤ) (a b p : ℕ) → up z + b ≡ a + down z → a ≤ p → b ≤ p → abs z ≤ p
from_key (pos n) a b p e h k = omega arith
from_key (negsuc n) a b p e h k = omega arith

pub abs_diff : (a b p : ℕ) → a ≤ p → b ≤ p → abs (diff a b) ≤ p
abs_diff a b p h k = from_key (diff a b) a b p (diff-key a b) h k

as-diff : (z : ℤ) → z ≡ diff (up z) (down z)
unfolding diff
as-diff (pos n) = sym (+ℤ_idr (pos n))
as-diff (negsuc n) = sym (+ℤ_idl (negsuc n))

pub abs-add : (z : ℤ) (a b : ℕ) → abs (z +ℤ diff a b) ≤ abs z + (a + b)
abs-add z a b =
    let e : z +ℤ diff a b ≡ diff (up z + a) (down z + b) = ap (λ y. y +ℤ diff a b) (as-diff z) ∙ diff-add (up z) (down z) a b in
    omega (arith, ap abs e, abs_diff (up z + a) (down z + b) (abs z + (a + b)) (omega arith) (omega arith))
