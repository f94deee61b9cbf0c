-- A form laid part by part, how long it can be, and a form after a form. Assumes nothing.
use mathlib.Core.Path.{◌≡◌, refl, sym, ap}
use Prim.Native.Nat.{ℕ, suc, ◌+◌, ◌≤◌, ◌<◌}
use mathlib.Core.List.{List, [], ◌∷◌, ◌++◌}
use native.Mathlib.Numerals.{add-one}
use native.Mathlib.Omega.{arith}
use lib.ListN.{length, get_or, take, drop, take-append-drop}
use lib.Seq.{take-suc}
use borrow.Author.Tests.{lt-ltb, le-ltb}
use Rattle.std.specs.Fmt.{decimal}
use Rattle.std.proofs.lemmas.Fmt.{AppendsLastDigit, decimal_from_appends, length-decimal-le_succ}
use Rattle.rules.specs.Report.{digits_in, digits}
use Rattle.rules.proofs.Digits.{Long, long-digits}
use Rattle.report.specs.declared.text.Text.{Text}
use Rattle.report.specs.Laying.{Ahead, pieces, value_of, shown, filled, widest, longest}
use Rattle.report.specs.Writing.{Wrote}
use Rattle.report.proofs.Laying.{pieces-append, Laying, laying-more, laying-end, wrote_as}

-- ---- the library's decimal is that of rules

by-last-digit : AppendsLastDigit digits_in
unfolding digits_in
by-last-digit = record { one = λ k n h. rw (lt-ltb n 10 h, digits_in) refl; more = λ k n h. rw (le-ltb n 10 h, digits_in) refl }

pub decimal-digits : (n : ℕ) → Long n → decimal n ≡ digits n
decimal-digits n h = sym (decimal_from_appends digits_in by-last-digit (suc n) n h (omega (arith, length-decimal-le_succ n h)))

-- ---- a part

-- the number that a digit stands for, or any other byte
pub number-part : (ns : List ℕ) (b n : ℕ) → value_of b < length ns → n ≡ get_or ns (value_of b) 0 → Long n → (decimal n ≡ shown ns b) × (length (decimal n) ≤ widest (length ns) b)
unfolding shown widest
number-part ns b n h e l = rw (lt-ltb (value_of b) (length ns) h, ← e, decimal-digits n l) (refl, long-digits n l)

pub byte-part : (ns : List ℕ) (b : ℕ) → length ns ≤ value_of b → (b ∷ [] ≡ shown ns b) × (1 ≤ widest (length ns) b)
unfolding shown widest
byte-part ns b h = rw (le-ltb (value_of b) (length ns) h) (refl, omega arith)

-- ---- a form, part by part

longest-append : (n : ℕ) (xs ys : List ℕ) → longest n (xs ++ ys) ≡ longest n xs + longest n ys
unfolding longest
longest-append n [] ys = omega arith
longest-append n (b ∷ xs) ys = omega (arith, longest-append n xs ys)

longest-within : (n : ℕ) (form : List ℕ) (i : ℕ) → longest n (take i form) ≤ longest n form
longest-within n form i = omega (arith, ap (longest n) (take-append-drop i form), longest-append n (take i form) (drop i form))

longest-next : (n : ℕ) (form : List ℕ) (i : ℕ) → i < length form → longest n (take (i + 1) form) ≡ longest n (take i form) + widest n (get_or form i 0)
unfolding longest
longest-next n form i h = rw (add-one, take-suc form i 0) (omega (arith, longest-append n (take i form) (get_or form i 0 ∷ [])))

-- the first i parts are laid
abbrev pub Filling : List ℕ → List ℕ → ℕ → Text → Text → Type 0
Filling ns form i old new = Laying (shown ns) form i (longest (length ns) (take i form)) old new

module _ (ns form : List ℕ) {i : ℕ} {old mid : Text} (x : Filling ns form i old mid) where
  pub filling-ahead : Ahead old.at (longest (length ns) form) → i < length form → Ahead mid.at (widest (length ns) (get_or form i 0))
  filling-ahead a h = omega (arith, x.wrote.short, longest-next (length ns) form i h, longest-within (length ns) form (i + 1))

  pub filling-more : {new : Text} → i < length form → Wrote (shown ns (get_or form i 0)) (widest (length ns) (get_or form i 0)) mid new → Filling ns form (i + 1) old new
  filling-more h w = laying-more 0 x _ h w (omega (arith, longest-next (length ns) form i h))

  pub filling-end : length form ≤ i → Wrote (filled ns form) (longest (length ns) form) old mid
  filling-end h = wrote_as _ (laying-end 0 x h) refl (longest-within (length ns) form i)

-- ---- a text with no number

pub plain-longest : (text : List ℕ) → longest 0 text ≡ length text
unfolding longest widest
plain-longest [] = refl
plain-longest (b ∷ text) = rw (le-ltb (value_of b) 0 (omega arith)) (omega (arith, plain-longest text))

pub plain : (text : List ℕ) → filled [] text ≡ text
unfolding pieces shown
plain [] = refl
plain (b ∷ text) = rw (le-ltb (value_of b) 0 (omega arith)) (ap (λ (l : List ℕ). b ∷ l) (plain text))

-- ---- a form after a form

pub joined : (ns x y : List ℕ) {s t : List ℕ} → filled ns x ≡ s → filled ns y ≡ t → filled ns (x ++ y) ≡ s ++ t
joined ns x y p q = rw (← p, ← q) (pieces-append (shown ns) x y)
