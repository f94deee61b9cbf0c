-- Where a file stands, by signed numbers: a locked file stands below every gain. Assumes nothing.
use mathlib.Core.Path.{◌≡◌, refl, sym, ap, ◌∙◌}
use Prim.Native.Nat.{ℕ, zero, suc, ◌+◌, ◌*◌, ◌≤◌, ◌<◌, ◌^◌}
use native.Mathlib.Omega.{arith}
use mathlib.Core.Bool.{Bool, true, false, not}
use lib.Dec.{leb, ltb}
use lib.IntN.{ℤ, pos, negsuc, ◌+ℤ◌, ◌-ℤ◌, +ℤ_idr}
use lib.Signed.{mag, lt_z, le_z}
use borrow.Author.Tests.{ltb-true, ltb-false, lt-ltb, le-ltb, le-leb, lt-leb}
use Rattle.rules.specs.Lists.{diff}
use Rattle.rules.proofs.Signed.{up, down, lt_z-key, lt_z-true, diff-key}
use Rattle.choice.specs.Reaching.{standing_of, least_gain}

-- ---- signed numbers

less-key : (g : ℤ) (m : ℕ) → up (g -ℤ pos m) + m + down g ≡ up g + down (g -ℤ pos m)
unfolding diff
less-key (pos n) m = omega (arith, diff-key n m)
less-key (negsuc n) zero = rw (+ℤ_idr (negsuc n)) (omega arith)
less-key (negsuc n) (suc m) = omega arith

up_small : (z : ℤ) → mag z < 2 ^ 31 → up z < 2 ^ 31
up_small (pos n) h = h
up_small (negsuc n) h = omega arith

down-small : (z : ℤ) → mag z < 2 ^ 31 → down z ≤ 2 ^ 31
down-small (pos n) h = omega arith
down-small (negsuc n) h = omega arith

pub leb-ltb : (a b : ℕ) → leb a b ≡ not (ltb b a)
leb-ltb a b = go (ltb b a) refl
  where
    go : (t : Bool) → ltb b a ≡ t → leb a b ≡ not t
    go true e = lt-leb a b (ltb-true b a e)
    go false e = le-leb a b (ltb-false b a e)

pub no-greater : (x y : ℤ) → le_z x y ≡ not (lt_z y x)
no-greater (pos a) (pos b) = leb-ltb a b
no-greater (pos a) (negsuc b) = refl
no-greater (negsuc a) (pos b) = refl
no-greater (negsuc a) (negsuc b) = leb-ltb b a

pub greater-not-less : (x y : ℤ) → lt_z x y ≡ true → lt_z y x ≡ false
greater-not-less x y h = go (lt_z y x) refl
  where
    go : (t : Bool) → lt_z y x ≡ t → t ≡ false
    go true e = absurd (omega (arith, lt_z-true x y h, lt_z-true y x e))
    go false e = refl

-- ---- a number and one

less-not : (a b c d : ℕ) → (a < b → d ≤ c) → (b ≤ a → c < d) → ltb a b ≡ not (ltb c d)
less-not a b c d f g = go (ltb a b) refl
  where
    go : (t : Bool) → ltb a b ≡ t → t ≡ not (ltb c d)
    go true e = sym (ap not (le-ltb c d (f (ltb-true a b e))))
    go false e = sym (ap not (lt-ltb c d (g (ltb-false a b e))))

more-key : (z : ℤ) → up (z +ℤ pos 1) + down z ≡ up z + 1 + down (z +ℤ pos 1)
more-key (pos n) = omega arith
more-key (negsuc zero) = omega arith
more-key (negsuc (suc n)) = rw (lt-ltb 1 (suc (suc n)) (omega arith)) (omega arith)

-- less than it is no greater than the number
pub one_more : (x y : ℤ) → lt_z y (x +ℤ pos 1) ≡ not (lt_z x y)
one_more x y =
    let k = more-key x in
    lt_z-key y (x +ℤ pos 1)
    ∙ less-not (up y + down (x +ℤ pos 1)) (up (x +ℤ pos 1) + down y) (up x + down y) (up y + down x) (λ h. omega arith) (λ h. omega arith)
    ∙ sym (ap not (lt_z-key x y))

-- ---- where a file stands

pub free-stands : (g : ℤ) (lock : ℕ) → lock ≡ 0 → standing_of g lock ≡ g
free-stands g lock e = rw e (+ℤ_idr g)

-- ---- against the bar

locked-below : (g z : ℤ) (lock : ℕ) → mag g < 2 ^ 31 → down z ≤ 2 ^ 31 → 0 < lock → lt_z (standing_of g lock) z ≡ true
locked-below g z lock h k l =
    let s = standing_of g lock in
    lt_z-key s z ∙ lt-ltb (up s + down z) (up z + down s) (omega (arith, less-key g (lock * 4294967296), up_small g h))

pub locked-least : (g : ℤ) (lock : ℕ) → mag g < 2 ^ 31 → 0 < lock → lt_z (standing_of g lock) least_gain ≡ true
locked-least g lock h l = locked-below g least_gain lock h (omega arith) l

pub locked-low : (g z : ℤ) (lock : ℕ) → mag g < 2 ^ 31 → mag z < 2 ^ 31 → 0 < lock → lt_z (standing_of g lock) z ≡ true
locked-low g z lock h k l = locked-below g z lock h (down-small z k) l

pub least-low : (z : ℤ) → mag z < 2 ^ 31 → lt_z z least_gain ≡ false
least-low (pos a) h = refl
least-low (negsuc a) h = le-ltb 2147483647 a (omega arith)
