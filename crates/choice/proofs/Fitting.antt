-- Numbers that fit, and lists that do, by the test of the code. Assumes nothing.
use mathlib.Core.Path.{◌≡◌}
use Prim.Native.Nat.{ℕ, ◌+◌, ◌-◌, ◌*◌, ◌≤◌, ◌<◌, ◌^◌}
use native.Mathlib.Nat.{mul-le-mul}
use native.Mathlib.Omega.{arith}
use mathlib.Core.Bool.{Bool, true, false, cond, ◌&&◌}
use lib.Dec.{leb, eqb}
use borrow.Author.Tests.{leb-true, le-leb, eqb-true, eq-eqb}
use Rattle.rules.proofs.Tests.{and_yes}
use Rattle.choice.specs.Choosing.{size_by, fit_files}

-- ---- den·|A|

pub product-fits : (den a : ℕ) → den < 65536 → a < 2 ^ 33 → den * a < 2 ^ 64
product-fits den a h k =
    let d : den ≤ 65536 = omega arith in
    let s : a ≤ 2 ^ 33 = omega arith in
    omega (arith, mul-le-mul d s)

either-most : (t : Bool) (size own : ℕ) → cond t (size - own) (size + own) ≤ size + own
either-most true size own = omega arith
either-most false size own = omega arith

pub size_fits : (size side own : ℕ) → size < 2 ^ 32 → own < 65536 → size_by size side own < 2 ^ 33
size_fits size side own h k = omega (arith, either-most (eqb side 0) size own)

-- ---- the lists

module _ {n scratch gains : ℕ} where
  pub fit-lengths : fit_files n scratch gains ≡ true → (gains ≡ n) × (n ≤ scratch)
  fit-lengths e = let t = and_yes (eqb gains n) (leb n scratch) e in (eqb-true gains n t.0, leb-true n scratch t.1)

  pub lengths-fit : gains ≡ n → n ≤ scratch → fit_files n scratch gains ≡ true
  lengths-fit e h = rw (eq-eqb gains n e) (le-leb n scratch h)

  pub all-lengths : {sides : ℕ} → (eqb sides n && fit_files n scratch gains) ≡ true → (sides ≡ n) × (gains ≡ n) × (n ≤ scratch)
  all-lengths {sides} e =
      let t = and_yes (eqb sides n) (fit_files n scratch gains) e in
      let l = fit-lengths t.1 in
      (eqb-true sides n t.0, l.0, l.1)
