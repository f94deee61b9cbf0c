-- Sums, counts, searches and lent lists, with no word of vaults. Assumes nothing.
use Rattle.std.specs.Prelude.{ℕ, zero, suc, ◌+◌, ◌-◌, ◌<◌, max, Bool, true, false, cond, ◌||◌, List, [], ◌∷◌, ◌++◌, length, get_or, drop, replicate, ltb, ℤ, pos, ◌+ℤ◌, ◌-ℤ◌}

abbrev pub bit : Bool → ℕ
bit true = 1
bit false = 0

-- the sum of a number for each entry of a list
unfoldable pub total {ℓ} : {A : Type ℓ} → (A → ℕ) → List A → ℕ
total w [] = 0
total w (x ∷ xs) = w x + total w xs

-- how many entries pass the test
unfoldable pub count {ℓ} : {A : Type ℓ} → (A → Bool) → List A → ℕ
count p xs = total (λ x. bit (p x)) xs

-- the entries that pass the test, in their order
unfoldable pub those {ℓ} : {A : Type ℓ} → (A → Bool) → List A → List A
those p [] = []
those p (x ∷ xs) = cond (p x) (x ∷ those p xs) (those p xs)

-- the largest number of an entry
unfoldable pub largest {ℓ} : {A : Type ℓ} → (A → ℕ) → List A → ℕ
largest w [] = 0
largest w (x ∷ xs) = max (w x) (largest w xs)

-- 0, 1, .., n − 1
unfoldable pub up_to : ℕ → List ℕ
up_to zero = []
up_to (suc n) = up_to n ++ (n ∷ [])

-- the lists f 0, f 1, .., f (n − 1), one after the other
unfoldable pub in_turn {ℓ} : {A : Type ℓ} → (ℕ → List A) → ℕ → List A
in_turn f zero = []
in_turn f (suc n) = in_turn f n ++ f n

-- every number of the list is below n
abbrev pub AllBelow : ℕ → List ℕ → Type 0
AllBelow n xs = (i : ℕ) → i < length xs → get_or xs i 0 < n

-- the lowest i below n that passes the test; n where none does
unfoldable pub lowest : (ℕ → Bool) → ℕ → ℕ
lowest p zero = zero
lowest p (suc n) = let i = lowest p n in cond (ltb i n || p n) i (suc n)

-- some i below n passes the test
abbrev pub some_below : (ℕ → Bool) → ℕ → Bool
some_below p n = ltb (lowest p n) n

-- only a lesser cost displaces an earlier one
abbrev pub displaces : ℕ → ℕ → Bool
displaces new old = ltb new old

-- the least k up to n at which the cost is least: the shortest of equals
unfoldable pub best_up_to : (ℕ → ℕ) → ℕ → ℕ
best_up_to cost zero = zero
best_up_to cost (suc n) = let b = best_up_to cost n in cond (displaces (cost (suc n)) (cost b)) (suc n) b

-- ---- what a lent list holds afterwards

-- xs over the first entries of old; further entries stay
unfoldable pub onto {ℓ} : {A : Type ℓ} → List A → List A → List A
onto xs old = xs ++ drop (length xs) old

-- xs, then z up to n entries
unfoldable pub padded {ℓ} : {A : Type ℓ} → ℕ → A → List A → List A
padded n z xs = xs ++ replicate (n - length xs) z

-- the first n entries hold xs, then z; further entries stay
abbrev pub listed {ℓ} : {A : Type ℓ} → ℕ → A → List A → List A → List A
listed n z xs old = onto (padded n z xs) old

-- ---- signed numbers

-- a less b
unfoldable pub diff : ℕ → ℕ → ℤ
diff a b = pos a -ℤ pos b

unfoldable pub sum : List ℤ → ℤ
sum [] = pos 0
sum (z ∷ zs) = z +ℤ sum zs
