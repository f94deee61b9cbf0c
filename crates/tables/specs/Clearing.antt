-- Entries of a list made one value. Assumes nothing.
use Rattle.std.specs.Prelude.{ℕ, ◌-◌, cond, ◌&&◌, List, ◌++◌, length, take, drop, replicate, leb}

-- the entries from a up to b made z
abbrev pub cleared {ℓ} : {A : Type ℓ} → ℕ → ℕ → A → List A → List A
cleared a b z xs = take a xs ++ (replicate (b - a) z ++ drop b xs)

-- where these are places of the list, else the list as it is
abbrev pub cleared_in {ℓ} : {A : Type ℓ} → ℕ → ℕ → A → List A → List A
cleared_in a b z xs = cond (leb a b && leb b (length xs)) (cleared a b z xs) xs
