-- Lists written over the first entries of a lent list. Assumes nothing.
use mathlib.Core.Path.{◌≡◌, sym, ap, ap₂, ◌∙◌}
use Prim.Native.Nat.{ℕ, ◌-◌, ◌≤◌}
use mathlib.Core.List.{List, [], ◌++◌, append_assoc}
use native.Mathlib.Omega.{arith}
use lib.ListN.{length, drop, replicate}
use Rattle.rules.specs.Lists.{onto, padded, listed}
use Rattle.rules.proofs.Entries.{padded-length, onto-take, onto-drop}
use Rattle.tables.specs.Clearing.{cleared}

module _ {ℓ} {A : Type ℓ} where
  -- z filled in after the entries, up to n
  pub listed_of : (n : ℕ) (z : A) (xs old : List A) → length xs ≤ n
      → cleared (length xs) n z (onto xs old) ≡ listed n z xs old
  listed_of n z xs old h =
      ap₂ (λ (a b : List A). a ++ (replicate (n - length xs) z ++ b)) (onto-take xs old) (onto-drop xs old n h)
      ∙ sym (append_assoc xs (replicate (n - length xs) z) (drop n old))
      ∙ (unfold onto padded in ap (λ (i : ℕ). (xs ++ replicate (n - length xs) z) ++ drop i old) (sym (padded-length n z xs h)))

  -- z alone
  pub listed-none : (n : ℕ) (z : A) (old : List A) → replicate n z ++ drop n old ≡ listed n z [] old
  unfolding onto
  listed-none n z old =
      let e : n ≡ n - 0 = omega arith in
      ap (λ (i : ℕ). replicate i z ++ drop n old) e ∙ listed_of n z [] old (omega arith)
