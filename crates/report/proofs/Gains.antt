-- A gain with its sign, as the library writes it and as rules has it. Assumes nothing.
use mathlib.Core.Path.{◌≡◌, refl, ap}
use Prim.Native.Nat.{ℕ, suc, ◌≤◌, ◌<◌, ◌^◌}
use mathlib.Core.List.{List, [], ◌∷◌, ◌++◌}
use native.Mathlib.Omega.{arith}
use lib.ListN.{length}
use lib.IntN.{ℤ, pos, negsuc}
use lib.Signed.{mag}
use mir.Syntax.{w32}
use mir.Val.{SFits, to_z, of_z}
use mir.Facts.{to_z-of_z}
use Rattle.std.specs.Fmt.{signed_decimal}
use Rattle.std.proofs.lemmas.Fmt.{length_signed_le}
use Rattle.rules.specs.Trace.{signed, gain_words}
use Rattle.report.specs.Laying.{pieces}
use Rattle.report.proofs.Forms.{decimal-digits}

module _ (g : ℤ) (f : SFits w32 g) where
  pub signed-text : 32 ∷ signed_decimal (to_z w32 (of_z w32 g)) ≡ signed g
  unfolding signed
  signed-text = rw (to_z-of_z f) (go g f.sfits)
    where
      go : (z : ℤ) → mag z < 2 ^ 31 → 32 ∷ signed_decimal z ≡ signed z
      go (pos n) h = ap (λ (t : List ℕ). 32 ∷ t) (decimal-digits n (omega arith))
      go (negsuc n) h = ap (λ (t : List ℕ). 32 ∷ 45 ∷ t) (decimal-digits (suc n) (omega arith))

  pub signed-short : length (signed_decimal (to_z w32 (of_z w32 g))) ≤ 21
  signed-short = rw (to_z-of_z f) (length_signed_le 20 g (omega (arith, f.sfits)) (omega (arith, f.sfits)))

-- a gain handed on is the gain read back
pub signed_back : {g : ℤ} → SFits w32 g → signed (to_z w32 (of_z w32 g)) ≡ signed g
signed_back f = ap signed (to_z-of_z f)

pub gain-pieces : (gains : List ℤ) → pieces signed gains ≡ gain_words gains
unfolding pieces gain_words
gain-pieces [] = refl
gain-pieces (g ∷ gains) = ap (λ (l : List ℕ). signed g ++ l) (gain-pieces gains)
