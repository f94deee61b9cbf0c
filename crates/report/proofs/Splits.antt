-- The sides of a split that is told: whether one is bad, and their letters. Assumes nothing.
use mathlib.Core.Path.{◌≡◌, refl}
use Prim.Native.Nat.{ℕ, ◌+◌, ◌≤◌, ◌<◌}
use mathlib.Core.Bool.{not, cond}
use mathlib.Core.List.{List, [], ◌∷◌, map}
use native.Mathlib.Omega.{arith}
use lib.ListN.{length, get_or}
use lib.Dec.{ltb, eqb}
use borrow.Author.Tests.{lt-ltb, le-ltb}
use Rattle.rules.specs.Check.{done, refuse_at}
use Rattle.report.specs.declared.text.Text.{Text}
use Rattle.report.specs.declared.split.Split.{Split}
use Rattle.report.specs.Splits.{told_job}
use Rattle.report.specs.Writing.{Wrote}
use Rattle.report.proofs.Laying.{Laying, growing-more, growing-end, growing-stop, wrote_as, byte-pieces}
use Rattle.rules.specs.Lists.{up_to}
use Rattle.rules.specs.Report.{letter, letter_of}
use Rattle.rules.proofs.Searches.{lowest-is, some-here, some-none}

module _ (sides : List ℕ) where
  pub bad-side : (f : ℕ) → f < length sides → 1 < get_or sides f 0 → ((k : ℕ) → k < f → get_or sides k 0 ≤ 1)
      → record { number = 6; place = f } ≡ refuse_at 6 (λ k. ltb 1 (get_or sides k 0)) (length sides)
  bad-side f h e low =
      let test = λ (k : ℕ). ltb 1 (get_or sides k 0) in
      let over = lt-ltb 1 (get_or sides f 0) e in
      rw (some-here test (length sides) f h over, lowest-is test (length sides) f h over (λ k l. le-ltb 1 (get_or sides k 0) (low k l))) refl

  pub no-bad-side : ((k : ℕ) → k < length sides → get_or sides k 0 ≤ 1) → done ≡ refuse_at 6 (λ k. ltb 1 (get_or sides k 0)) (length sides)
  no-bad-side low = rw (some-none (λ (k : ℕ). ltb 1 (get_or sides k 0)) (length sides) (λ k l. le-ltb 1 (get_or sides k 0) (low k l))) refl

-- ---- the letters, one for each file

abbrev pub letters : Split → ℕ → List ℕ
letters s k = letter_of (told_job s) s.sides.now k ∷ []

module _ (s : Split) {i : ℕ} {old mid : Text} (l : Laying (letters s) (up_to (length s.sides.now)) i i old mid) where
  pub letter-more : {side mark b : ℕ} {new : Text} → i < length s.sides.now → side ≡ get_or s.sides.now i 0 → mark ≡ get_or s.files.marks.now i 0
      → b ≡ cond (not (eqb mark 2)) (letter side) 63 → Wrote (b ∷ []) 1 mid new → Laying (letters s) (up_to (length s.sides.now)) (i + 1) (i + 1) old new
  letter-more h p q e w = growing-more l _ h (wrote_as 1 w (rw (e, p, q) refl) (omega arith)) (omega arith)

  pub letters-end : length s.sides.now ≤ i → Wrote (map (letter_of (told_job s) s.sides.now) (up_to (length s.sides.now))) (length s.sides.now) old mid
  letters-end h = wrote_as _ (growing-end l h) (byte-pieces _ _) (growing-stop l)
