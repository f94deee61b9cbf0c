-- Each answer is told by its numbers: two with the same numbers are one. Assumes nothing.
use Rattle.std.proofs.Common.{◌≡◌, ℕ, ◌<◌, Option, Some, None, IfSome, arith, refl, ap}
use Rattle.choice.specs.declared.edition1.Best.{Best}
use Rattle.choice.specs.Cases.{as_best, as_file, as_side}

module _ (n : ℕ) where
  pub as_best-one : (r s : Option Best) → IfSome r (λ best. best.file < n) → IfSome s (λ best. best.file < n) → as_best n r ≡ as_best n s → r ≡ s
  as_best-one None None h k e = refl
  as_best-one None (Some b) h k e = absurd (omega (arith, k, ap (λ (x : Best). x.file) e))
  as_best-one (Some a) None h k e = absurd (omega (arith, h, ap (λ (x : Best). x.file) e))
  as_best-one (Some a) (Some b) h k e = ap Some e

  pub as_file-one : (r s : Option ℕ) → IfSome r (λ file. file < n) → IfSome s (λ file. file < n) → as_file n r ≡ as_file n s → r ≡ s
  as_file-one None None h k e = refl
  as_file-one None (Some b) h k e = absurd (omega (arith, k, e))
  as_file-one (Some a) None h k e = absurd (omega (arith, h, e))
  as_file-one (Some a) (Some b) h k e = ap Some e

pub as_side-one : (r s : Option ℕ) → IfSome r (λ side. side < 2) → IfSome s (λ side. side < 2) → as_side r ≡ as_side s → r ≡ s
as_side-one None None h k e = refl
as_side-one None (Some b) h k e = absurd (omega (arith, k, e))
as_side-one (Some a) None h k e = absurd (omega (arith, h, e))
as_side-one (Some a) (Some b) h k e = ap Some e
