-- A number in decimal. Assumes nothing.
use mathlib.Core.Path.{◌≡◌, refl, sym, ap, ◌∙◌}
use Prim.Native.Nat.{ℕ, zero, suc, ◌+◌, ◌/◌, ◌%◌, ◌^◌, ◌≤◌, ◌<◌}
use mathlib.Core.Bool.{Bool, true, false}
use mathlib.Core.List.{List, [], ◌∷◌, ◌++◌}
use native.Mathlib.Nat.{div-lt_self, div-lt_iff_lt-mul, pow-zero, pow-suc}
use native.Mathlib.Decide.{dec_lt}
use native.Mathlib.Omega.{arith}
use lib.Dec.{ltb}
use lib.ListN.{length, length-append}
use borrow.Author.Tests.{ltb-false, lt-ltb, le-ltb}
use Rattle.rules.specs.Report.{digits_in, digits}

-- n's digits, those before the last given
abbrev ended : ℕ → List ℕ → Bool → List ℕ
ended n front b = elim b [ true ↦ (48 + n) ∷ [] | false ↦ front ++ ((48 + n % 10) ∷ []) ]

step : (k n : ℕ) → digits_in (suc k) n ≡ ended n (digits_in k (n / 10)) (ltb n 10)
unfolding digits_in
step k n = refl

-- beyond the number itself, how much is enough makes no difference
enough : (k m n : ℕ) → n < k → n < m → digits_in k n ≡ digits_in m n
enough zero m n h l = absurd (omega arith)
enough (suc k) zero n h l = absurd (omega arith)
enough (suc k) (suc m) n h l = step k n ∙ go (ltb n 10) refl (enough k m (n / 10)) ∙ sym (step m n)
  where
    go : (b : Bool) → ltb n 10 ≡ b → (n / 10 < k → n / 10 < m → digits_in k (n / 10) ≡ digits_in m (n / 10)) → ended n (digits_in k (n / 10)) b ≡ ended n (digits_in m (n / 10)) b
    go true e ih = refl
    go false e ih =
        let lower : n / 10 < n = div-lt_self (omega (arith, ltb-false n 10 e)) (omega arith) in
        let less : n / 10 < k = omega arith in
        let same : digits_in k (n / 10) ≡ digits_in m (n / 10) = ih less (omega arith) in
        ap (λ (l : List ℕ). l ++ ((48 + n % 10) ∷ [])) same

pub one-digit : (n : ℕ) → n < 10 → digits n ≡ (48 + n) ∷ []
one-digit n h = step n n ∙ ap (ended n (digits_in n (n / 10))) (lt-ltb n 10 h)

pub more-digits : (n : ℕ) → 10 ≤ n → digits n ≡ digits (n / 10) ++ ((48 + n % 10) ∷ [])
more-digits n h =
    let lower : n / 10 < n = div-lt_self (omega arith) (omega arith) in
    let same : digits_in n (n / 10) ≡ digits (n / 10) = enough n (suc (n / 10)) (n / 10) lower (omega arith) in
    step n n ∙ ap (ended n (digits_in n (n / 10))) (le-ltb n 10 h) ∙ ap (λ (l : List ℕ). l ++ ((48 + n % 10) ∷ [])) same

-- below ten to the k there are at most k digits
few-digits : (k n : ℕ) → n < 10 ^ suc k → length (digits n) ≤ suc k
few-digits zero n h = let e : n < 10 = omega (arith, pow-zero 10, pow-suc 10 0) in omega (arith, ap length (one-digit n e))
few-digits (suc k) n h = elim (dec_lt n 10) [
  | yes l ↦ omega (arith, ap length (one-digit n l))
  | no l ↦
      let lower : n / 10 < 10 ^ suc k = (div-lt_iff_lt-mul {k = 10} {x = n} {y = 10 ^ suc k} (omega arith)).1 (rw (pow-suc 10 (suc k)) at h) in
      omega (arith, ap length (more-digits n (omega arith)), length-append (digits (n / 10)) ((48 + n % 10) ∷ []), few-digits k (n / 10) lower)
]

-- what a u64 holds has at most 20
abbrev pub Long : ℕ → Type 0
Long n = n < 18446744073709551616

pub long-digits : (n : ℕ) → Long n → length (digits n) ≤ 20
long-digits n h = let e : 10 ^ 20 ≡ 100000000000000000000 = refl in few-digits 19 n (omega arith)
