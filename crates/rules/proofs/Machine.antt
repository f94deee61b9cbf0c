-- A signed number in four bytes: it fits by its size, and taken to eight bytes it reads back as itself. Assumes nothing.
use mathlib.Core.Path.{◌≡◌, ◌∙◌}
use Prim.Native.Nat.{◌≤◌, ◌<◌, ◌^◌}
use native.Mathlib.Omega.{arith}
use lib.IntN.{ℤ, pos, negsuc}
use lib.Signed.{mag}
use mir.Syntax.{w32, w64}
use mir.Val.{SFits, to_z, of_z}
use mir.Facts.{to_z-of_z}
use Rattle.rules.proofs.Signed.{abs}

mag-abs : (z : ℤ) → mag z ≤ abs z
mag-abs (pos n) = omega arith
mag-abs (negsuc n) = omega arith

pub abs-fits : (z : ℤ) → abs z < 2 ^ 31 → SFits w32 z
abs-fits z h = record { sfits = omega (arith, mag-abs z) }

module _ (g : ℤ) (f : SFits w32 g) where
  pub wide_fits : SFits w64 (to_z w32 (of_z w32 g))
  wide_fits = rw (to_z-of_z f) (record { sfits = omega (arith, f.sfits) })

  pub wide_is : to_z w64 (of_z w64 (to_z w32 (of_z w32 g))) ≡ g
  wide_is = to_z-of_z wide_fits ∙ to_z-of_z f
