-- What chains of iterators give, in this crate's words: std's counts are ours, and a range is the numbers below its end. Assumes nothing.
use mathlib.Core.Path.{◌≡◌, refl, sym, ap, ap₂, ◌∙◌}
use Prim.Native.Nat.{ℕ, zero, suc, ◌+◌}
use mathlib.Core.Bool.{Bool, true, false, cond}
use mathlib.Core.List.{List, [], ◌∷◌, ◌++◌}
use native.Mathlib.Omega.{arith}
use native.Mathlib.Nat.{add-zero, zero-add, suc-add, add-suc}
use native.Mathlib.Numerals.{add-one}
use lib.ListN.{length}
use Rattle.std.specs.Prelude.{count_by, filter}
use denote.Param.Members.{Mut}
use denote.Bor.{Bor}
use Rattle.std.specs.declared.ops.Range.{Range}
use Rattle.std.specs.declared.iter.Filter.{Filter}
use Rattle.std.specs.Fn.{CalledAt}
use Rattle.std.specs.Iterator.{Drains}
use Rattle.std.specs.Iterator.Adapters.{filter_source, filter_callee, filter_steps}
use Rattle.std.specs.List.{range_with_len}
use Rattle.std.proofs.iter.Yields.{nat_range_steps}
use Rattle.std.proofs.lemmas.Iterator.{YieldsList-from_range}
use Rattle.std.proofs.lemmas.Iterator.Consumers.{YieldsList-at, YieldsList-from_filter, count_from_yields_List}
use Rattle.std.proofs.lemmas.List.Sums.{length-filter}
use Rattle.rules.specs.Lists.{bit, total, count, up_to}

-- how many pass the test, as a chain that filters and counts has it, and as std's own word has it
pub filtered : {A : Type 0} (p : A → Bool) (xs : List A) → length (filter p xs) ≡ count p xs
unfolding count total
filtered p [] = refl
filtered {A} p (x ∷ xs) = go (p x) (filtered p xs)
  where
    go : (b : Bool) → length (filter p xs) ≡ count p xs → length (cond b (x ∷ filter p xs) (filter p xs)) ≡ bit b + count p xs
    go true e = omega (arith, e)
    go false e = omega (arith, e)

pub counted : {A : Type 0} (p : A → Bool) (xs : List A) → count_by p xs ≡ count p xs
counted p xs = sym (length-filter p xs) ∙ filtered p xs

range-last : (a n : ℕ) → range_with_len a (suc n) ≡ range_with_len a n ++ ((a + n) ∷ [])
range-last a zero = ap (λ (k : ℕ). k ∷ []) (sym (add-zero a))
range-last a (suc n) =
    ap (λ (l : List ℕ). a ∷ l)
    (range-last (a + 1) n
    ∙ ap (λ (k : ℕ). range_with_len (a + 1) n ++ (k ∷ [])) (ap (λ (k : ℕ). k + n) (add-one a) ∙ suc-add a n ∙ sym (add-suc a n)))

pub range-up_to : (n : ℕ) → range_with_len 0 n ≡ up_to n
unfolding up_to
range-up_to zero = refl
range-up_to (suc n) = range-last 0 n ∙ ap₂ (λ (l : List ℕ) (k : ℕ). l ++ (k ∷ [])) (range-up_to n) (zero-add n)

-- how many numbers below n pass the test
pub counted-below : (p : ℕ → Bool) (n : ℕ) → length (filter p (range_with_len 0 n)) ≡ count p (up_to n)
counted-below p n = filtered p (range_with_len 0 n) ∙ ap (count p) (range-up_to n)

-- a chain that filters the numbers below n and counts: `chain-counts _ p n c.filter.ensures.source c.filter.ensures.closure (λ x r q k. search (rules, tests)) c.count.ensures.ran`
pub chain-counts : {F : Type 0} (g : Mut F (Bor ℕ × Unit {0}) Bool) (p : ℕ → Bool) (n : ℕ) {s : Filter (Range ℕ) F} {f : F} {r : ℕ}
    → filter_source s ≡ record { start = 0; end = n } → filter_callee s ≡ f
    → ((x : ℕ) (b : Bool) (q : F) → CalledAt g f x b q → (q ≡ f) × (b ≡ p x))
    → ((xs : List ℕ) × Drains (filter_steps nat_range_steps g) s xs × (r ≡ length xs)) → r ≡ count p (up_to n)
chain-counts g p n {s} {r = r} source callee called ran =
    count_from_yields_List s r ran (YieldsList-from_filter g p (YieldsList-at source (YieldsList-from_range 0 n n refl (omega arith))) callee called) ∙ counted-below p n
