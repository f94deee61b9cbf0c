-- A list that the first records of the numbers are stored into one after another. Assumes nothing.
use mathlib.Core.Path.{◌≡◌, sym, ap, subst, ◌∙◌}
use Prim.Native.Nat.{ℕ, ◌+◌, ◌≤◌, ◌<◌}
use native.Mathlib.Omega.{arith}
use mathlib.Core.List.{List}
use lib.ListN.{length, set}
use Rattle.rules.specs.declared.Difference.{Difference}
use Rattle.rules.specs.Lists.{onto}
use Rattle.rules.proofs.Entries.{onto-length, onto-set}
use Rattle.report.specs.Comparison.{record_at, records_in}
use Rattle.comparer.proofs.Records.{records-none, records-more, records-length}

module _ (numbers : List ℕ) (list : List Difference) where
  -- where a run of stores begins, and what one store makes of the list
  pub stored-none : list ≡ onto (records_in 0 numbers) list
  unfolding onto
  stored-none = ap (λ (xs : List Difference). onto xs list) (sym (records-none numbers))

  pub stored_more : (i : ℕ) → i < length list → set (onto (records_in i numbers) list) i (record_at numbers i) ≡ onto (records_in (i + 1) numbers) list
  stored_more i within =
      let long : length (records_in i numbers) ≡ i = records-length i numbers in
      ap (λ (k : ℕ). set (onto (records_in i numbers) list) k (record_at numbers i)) (sym long)
      ∙ onto-set (records_in i numbers) list (record_at numbers i) (subst (λ (k : ℕ). k < length list) (sym long) within)
      ∙ ap (λ (xs : List Difference). onto xs list) (sym (records-more i numbers))

  pub stored-length : (i : ℕ) → i ≤ length list → length (onto (records_in i numbers) list) ≡ length list
  stored-length i few = onto-length (record_at numbers i) (records_in i numbers) list (omega (arith, few, records-length i numbers))
