-- A lent list afterwards, entry by entry. Assumes nothing.
use mathlib.Core.Path.{◌≡◌, refl, sym, ap, ap₂, ◌∙◌}
use Prim.Native.Nat.{ℕ, zero, suc, ◌+◌, ◌-◌, ◌≤◌, ◌<◌}
use mathlib.Core.List.{List, [], ◌∷◌, ◌++◌, append_assoc, append-nil}
use native.Mathlib.Decide.{dec_lt}
use native.Mathlib.Numerals.{add-one}
use native.Mathlib.Omega.{arith}
use lib.ListN.{length, get_or, set, take, drop, replicate, length-append, length-drop, length-replicate, get_or-replicate, drop_of_length-le, get_or-append, get_or-eq_default}
use lib.Seq.{get_or-append-add, get_or-drop, drop-cons, drop-drop, drop-append-add, append_snoc, set-append_seam, take-append_seam, take-length, paste, ext_get_or}
use Rattle.rules.specs.Lists.{AllBelow, onto, padded, listed}
use Rattle.rules.specs.Theorems.{Listed}

pub get_d_past {ℓ} : {A : Type ℓ} (d : A) (xs ys : List A) (i : ℕ) → length xs ≤ i → get_or (xs ++ ys) i d ≡ get_or ys (i - length xs) d
get_d_past d xs ys i h =
    let e : length xs + (i - length xs) ≡ i = omega arith in
    ap (λ (k : ℕ). get_or (xs ++ ys) k d) (sym e) ∙ get_or-append-add xs ys (i - length xs) d

-- an entry beyond the list reads as 0, which is below m too
pub below-any : (m : ℕ) (xs : List ℕ) → 0 < m → AllBelow m xs → (i : ℕ) → get_or xs i 0 < m
below-any m xs h below i = elim (dec_lt i (length xs)) [
  | yes l ↦ below i l
  | no n ↦ omega (arith, get_or-eq_default xs 0 {n = i} (omega arith))
]

module _ {ℓ} {A : Type ℓ} (d : A) (xs old : List A) where
  pub onto-length : length xs ≤ length old → length (onto xs old) ≡ length old
  unfolding onto
  onto-length h = simp (length-append, length-drop) (omega arith)

  pub onto-in : (i : ℕ) → i < length xs → get_or (onto xs old) i d ≡ get_or xs i d
  unfolding onto
  onto-in i h = get_or-append xs (drop (length xs) old) d i h

  pub onto-stays : (i : ℕ) → length xs ≤ i → get_or (onto xs old) i d ≡ get_or old i d
  unfolding onto
  onto-stays i h =
      let e : length xs + (i - length xs) ≡ i = omega arith in
      get_d_past d xs (drop (length xs) old) i h ∙ get_or-drop (length xs) old (i - length xs) d ∙ ap (λ (k : ℕ). get_or old k d) e

module _ {ℓ} {A : Type ℓ} where
  pub onto-take : (xs old : List A) → take (length xs) (onto xs old) ≡ xs
  unfolding onto
  onto-take xs old = take-append_seam xs (drop (length xs) old)

  pub onto-least : (xs old : List A) → length xs ≤ length (onto xs old)
  unfolding onto
  onto-least xs old = omega (arith, length-append xs (drop (length xs) old))

  -- past the entries written the old ones stand
  pub onto-drop : (xs old : List A) (n : ℕ) → length xs ≤ n → drop n (onto xs old) ≡ drop n old
  unfolding onto
  onto-drop xs old n h =
      let e : length xs + (n - length xs) ≡ n = omega arith in
      ap (λ (i : ℕ). drop i (xs ++ drop (length xs) old)) (sym e)
      ∙ drop-append-add xs (drop (length xs) old) (n - length xs)
      ∙ drop-drop (n - length xs) (length xs) old
      ∙ ap (λ (i : ℕ). drop i old) e

  -- one entry more
  pub onto-set : (xs old : List A) (v : A) → length xs < length old → set (onto xs old) (length xs) v ≡ onto (xs ++ (v ∷ [])) old
  unfolding onto
  onto-set xs old v h =
      ap (λ (t : List A). set (xs ++ t) (length xs) v) (drop-cons old (length xs) v h)
      ∙ set-append_seam xs (get_or old (length xs) v) (drop (suc (length xs)) old) v
      ∙ sym (append_snoc xs v (drop (suc (length xs)) old))
      ∙ ap (λ (n : ℕ). (xs ++ (v ∷ [])) ++ drop n old) (sym (length-append xs (v ∷ []) ∙ add-one (length xs)))

  -- two entries more, or a whole list more
  pub onto-two : (xs old : List A) (v w : A) → suc (length xs) < length old → set (set (onto xs old) (length xs) v) (suc (length xs)) w ≡ onto (xs ++ (v ∷ w ∷ [])) old
  onto-two xs old v w h =
      let l : suc (length xs) ≡ length (xs ++ (v ∷ [])) = omega (arith, length-append xs (v ∷ [])) in
      ap (λ (t : List A). set t (suc (length xs)) w) (onto-set xs old v (omega arith))
      ∙ ap (λ (n : ℕ). set (onto (xs ++ (v ∷ [])) old) n w) l
      ∙ onto-set (xs ++ (v ∷ [])) old w (omega arith)
      ∙ ap (λ (t : List A). onto t old) (append_snoc xs v (w ∷ []))

  pub onto-paste : (xs ys old : List A) → paste (onto xs old) (length xs) ys (length ys) ≡ onto (xs ++ ys) old
  onto-paste xs ys old =
      ap₂ (λ (s t : List A). s ++ take (length ys) ys ++ t) (onto-take xs old) (onto-drop xs old (length xs + length ys) (omega arith))
      ∙ ap (λ (t : List A). xs ++ t ++ drop (length xs + length ys) old) (take-length ys)
      ∙ unfold onto in ap (λ (n : ℕ). xs ++ ys ++ drop n old) (sym (length-append xs ys))

  -- as long as the old entries
  pub onto-all : (xs old : List A) → length old ≡ length xs → onto xs old ≡ xs
  unfolding onto
  onto-all xs old h = ap (λ (t : List A). xs ++ t) (drop_of_length-le old {i = length xs} (omega arith)) ∙ append-nil xs

  pub take-replicate : (n m : ℕ) (x : A) → n ≤ m → take n (replicate m x) ≡ replicate n x
  take-replicate zero m x h = refl
  take-replicate (suc n) zero x h = absurd (omega arith)
  take-replicate (suc n) (suc m) x h = ap (λ (l : List A). x ∷ l) (take-replicate n m x (omega arith))

module _ {ℓ} {A : Type ℓ} (n : ℕ) (z : A) (xs : List A) (fits : length xs ≤ n) where
  pub padded-length : length (padded n z xs) ≡ n
  unfolding padded
  padded-length = simp (length-append, length-replicate) (omega arith)

  pub padded-in : (d : A) (i : ℕ) → i < length xs → get_or (padded n z xs) i d ≡ get_or xs i d
  unfolding padded
  padded-in d i h = get_or-append xs (replicate (n - length xs) z) d i h

  pub padded-past : (d : A) (i : ℕ) → length xs ≤ i → i < n → get_or (padded n z xs) i d ≡ z
  unfolding padded
  padded-past d i h k = get_d_past d xs (replicate (n - length xs) z) i h ∙ get_or-replicate (n - length xs) (i - length xs) z d (omega arith)

-- over a list of z alone, z need not be written
pub padded-onto {ℓ} : {A : Type ℓ} (n m : ℕ) (z : A) (xs : List A) → length xs ≤ n → n ≤ m → onto (padded n z xs) (replicate m z) ≡ onto xs (replicate m z)
padded-onto {A = A} n m z xs h k =
    let p : List A = padded n z xs in
    let old : List A = replicate m z in
    let e : length p ≡ n = padded-length n z xs h in
    let l : length old ≡ m = length-replicate m z in
    let a : length (onto p old) ≡ m = onto-length z p old (omega arith) ∙ l in
    let b : length (onto xs old) ≡ m = onto-length z xs old (omega arith) ∙ l in
    ext_get_or z (onto p old) (onto xs old) (a ∙ sym b)
    (λ i q. elim (dec_lt i (length xs)) [
      | yes c ↦ onto-in z p old i (omega arith) ∙ padded-in n z xs h z i c ∙ sym (onto-in z xs old i c)
      | no c ↦
          let rest : get_or (onto xs old) i z ≡ z = onto-stays z xs old i (omega arith) ∙ get_or-replicate m i z z (omega arith) in
          elim (dec_lt i n) [
            | yes d ↦ onto-in z p old i (omega arith) ∙ padded-past n z xs h z i (omega arith) d ∙ sym rest
            | no d ↦ onto-stays z p old i (omega arith) ∙ get_or-replicate m i z z (omega arith) ∙ sym rest
          ]
    ])

-- what follows xs in such a list: the zeros, and the further entries
abbrev pub beyond {ℓ} : {A : Type ℓ} → ℕ → A → List A → List A → List A
beyond n z xs old = replicate (n - length xs) z ++ drop (length (padded n z xs)) old

pub listed_more {ℓ} : {A : Type ℓ} (n : ℕ) (z : A) (xs old : List A) → listed n z xs old ≡ xs ++ beyond n z xs old
unfolding onto
listed_more n z xs old = unfold padded in append_assoc xs (replicate (n - length xs) z) (drop (length (padded n z xs)) old)

pub listed-holds {ℓ} : {A : Type ℓ} (n : ℕ) (z : A) (xs old : List A) → length xs ≤ n → n ≤ length old → Listed n z xs old (listed n z xs old)
listed-holds n z xs old h k =
    let p : List _ = padded n z xs in
    let e : length p ≡ n = padded-length n z xs h in
    record {
      long = onto-length z p old (omega arith);
      holds = λ d i l. onto-in d p old i (omega arith) ∙ padded-in n z xs h d i l;
      then = λ d i l m. onto-in d p old i (omega arith) ∙ padded-past n z xs h d i l m;
      further = λ d i l. onto-stays d p old i (omega arith);
    }

-- the second of two lists, each with z up to n, is all that stays
pub listed-again {ℓ} : {A : Type ℓ} (n : ℕ) (z : A) (xs ys old : List A) → length xs ≤ n → length ys ≤ n → listed n z ys (listed n z xs old) ≡ listed n z ys old
listed-again {A = A} n z xs ys old h k =
    unfold onto in
    ap (λ (t : List A). padded n z ys ++ t)
    (onto-drop (padded n z xs) old (length (padded n z ys))
    (omega (arith, padded-length n z xs h, padded-length n z ys k)))
