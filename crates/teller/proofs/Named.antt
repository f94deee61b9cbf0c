-- A word that names an edition is that edition's digits, and each edition is named by its own. Assumes nothing.
use mathlib.Core.Path.{◌≡◌, refl, sym, ap, ◌∙◌}
use mathlib.Core.Logic.{◌≢◌}
use Prim.Native.Nat.{ℕ, zero, suc, ◌≤◌, ◌<◌}
use mathlib.Core.Bool.{Bool, true, false, not}
use mathlib.Core.List.{List, [], ◌∷◌}
use native.Mathlib.Omega.{arith}
use lib.ListN.{length, get_or}
use lib.Dec.{eqb}
use borrow.Author.Tests.{eqb-true, eqb-false, eq-eqb, ne_eqb, lt-ltb, le-ltb}
use Rattle.rules.specs.Check.{is_edition}
use Rattle.rules.specs.Report.{digits_in, digits}
use Rattle.std.specs.Prelude.{Option, Some, None, IfSome}
use Rattle.std.specs.Bool.{then_some}
use Rattle.teller.specs.Arguments.{of_digit, edition_in, edition_named, as_edition, NamesHold}

-- ---- as the code tells them apart

pub other_length : (word : List ℕ) → length word ≢ 1 → 0 ≡ edition_in word
unfolding edition_in
other_length word n = rw (ne_eqb (length word) 1 n, edition_in) refl

module _ (word : List ℕ) (l : length word ≡ 1) where
  by-digit : of_digit (get_or word 0 0) ≡ edition_in word
  unfolding edition_in
  by-digit = rw (eq-eqb (length word) 1 l, edition_in) refl

  pub digit-one : get_or word 0 0 ≡ 49 → 1 ≡ edition_in word
  digit-one d = rw (eq-eqb (get_or word 0 0) 49 d) at by-digit

  module _ (other : get_or word 0 0 ≢ 49) where
    pub digit-two : get_or word 0 0 ≡ 50 → 2 ≡ edition_in word
    digit-two d = rw (ne_eqb (get_or word 0 0) 49 other, eq-eqb (get_or word 0 0) 50 d) at by-digit

    pub no_digit : get_or word 0 0 ≢ 50 → 0 ≡ edition_in word
    no_digit n = rw (ne_eqb (get_or word 0 0) 49 other, ne_eqb (get_or word 0 0) 50 n) at by-digit

pub unsaid-named : (unsaid : ℕ) → as_edition (then_some (not (eqb unsaid 0)) unsaid) ≡ unsaid
unsaid-named zero = refl
unsaid-named (suc n) = rw (ne_eqb (suc n) 0 (λ e. omega (arith, e))) refl

module _ (words : ℕ) (word : List ℕ) (unsaid : ℕ) where
  pub named-unsaid : words < 2 → unsaid ≡ edition_named words word unsaid
  unfolding edition_named
  named-unsaid h = rw (lt-ltb words 2 h, edition_named) refl

  module _ (some : 2 ≤ words) where
    pub named_more : 2 < words → 0 ≡ edition_named words word unsaid
    unfolding edition_named
    named_more h = rw (le-ltb words 2 some, lt-ltb 2 words h, edition_named) refl

    pub named-one : words ≤ 2 → edition_in word ≡ edition_named words word unsaid
    unfolding edition_named
    named-one h = rw (le-ltb words 2 some, le-ltb 2 words h, edition_named) refl

-- ---- what they mean

only-digits : (word : List ℕ) (e : ℕ) → edition_in word ≡ e → e ≢ 0 → (is_edition e ≡ true) × (word ≡ digits e)
only-digits [] e q n = absurd (n (sym q ∙ sym (other_length [] (λ l. omega arith))))
only-digits (b ∷ []) e q n = go (eqb b 49) refl (eqb b 50) refl
  where
    go : (x : Bool) → eqb b 49 ≡ x → (y : Bool) → eqb b 50 ≡ y → (is_edition e ≡ true) × (b ∷ [] ≡ digits e)
    go true p y t =
        let one : e ≡ 1 = sym q ∙ sym (digit-one (b ∷ []) refl (eqb-true b 49 p)) in
        rw (one, eqb-true b 49 p) (unfold digits_in in (refl, refl))
    go false p true t =
        let two : e ≡ 2 = sym q ∙ sym (digit-two (b ∷ []) refl (eqb-false b 49 p) (eqb-true b 50 t)) in
        rw (two, eqb-true b 50 t) (unfold digits_in in (refl, refl))
    go false p false t = absurd (n (sym q ∙ sym (no_digit (b ∷ []) refl (eqb-false b 49 p) (eqb-false b 50 t))))
only-digits (b ∷ c ∷ bs) e q n = absurd (n (sym q ∙ sym (other_length (b ∷ c ∷ bs) (λ l. omega (arith, l)))))

pub names-hold : NamesHold
unfolding edition_in digits_in
names-hold = record { one = refl; two = refl; only = only-digits }

-- no edition is 0, so that the answer is settled
pub edition-one : (a b : Option ℕ) → as_edition a ≡ as_edition b → IfSome a (λ e. e ≢ 0) → IfSome b (λ e. e ≢ 0) → a ≡ b
edition-one None None e p q = refl
edition-one None (Some y) e p q = absurd (q (sym e))
edition-one (Some x) None e p q = absurd (p e)
edition-one (Some x) (Some y) e p q = let some : ℕ → Option ℕ = λ z. Some z in ap some e
