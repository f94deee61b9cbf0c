-- Laws of sums, counts and the largest of numbers. Assumes nothing.
use mathlib.Core.Path.{◌≡◌, refl, sym, ap, ap₂, ◌∙◌}
use mathlib.Core.Logic.{◌≢◌}
use Prim.Native.Nat.{ℕ, zero, suc, ◌+◌, ◌*◌, ◌≤◌, ◌<◌, max}
use mathlib.Core.Bool.{Bool, true, false, ◌&&◌}
use mathlib.Core.List.{List, [], ◌∷◌, ◌++◌, map, map-append}
use native.Mathlib.Decide.{ℕ_discrete}
use native.Mathlib.Omega.{arith}
use native.Mathlib.Nat.{add-zero, zero-add, suc-add, add-suc, mul-one, mul-add, max-le, le-max_left, le-max_right, zero-max, max-zero, le_trans, le_antisymm}
use lib.Dec.{eqb}
use native.Mathlib.Numerals.{add-one}
use lib.ListN.{length, get_or, take, length-append, get_or-append, length-map}
use lib.Seq.{get_or_at}
use borrow.Author.Tests.{eq-eqb, ne_eqb, ltb-true, ltb-false}
use Rattle.rules.specs.Lists.{bit, total, count, largest, up_to}
use Rattle.rules.specs.Split.{on_side, count_on, times, holds}

pub hit-eq : {a b : ℕ} → a ≡ b → bit (eqb a b) ≡ 1
hit-eq {a} {b} e = ap bit (eq-eqb a b e)

pub hit-ne : {a b : ℕ} → a ≢ b → bit (eqb a b) ≡ 0
hit-ne {a} {b} n = ap bit (ne_eqb a b n)

pub hit-self : (a : ℕ) → bit (eqb a a) ≡ 1
hit-self a = hit-eq {a = a} refl

-- the tests for 0 and 1 at larger numbers
pub is0 : (n : ℕ) → eqb (suc n) 0 ≡ false
is0 n = ne_eqb (suc n) 0 (λ e. omega arith)

pub is1 : (n : ℕ) → eqb (suc (suc n)) 1 ≡ false
is1 n = ne_eqb (suc (suc n)) 1 (λ e. omega arith)

pub bit_le : (b : Bool) → bit b ≤ 1
bit_le true = omega arith
bit_le false = omega arith

pub bit-most : (b : Bool) (x : ℕ) → bit b * x ≤ x
bit-most true x = omega arith
bit-most false x = omega arith

pub and-le : (a b : Bool) → bit (a && b) ≤ bit a
and-le true true = omega arith
and-le true false = omega arith
and-le false b = omega arith

-- two weights that agree off f have one total over a list without f
pub total-out : (w v : ℕ → ℕ) (f : ℕ) → ((x : ℕ) → x ≢ f → w x ≡ v x) → (r : List ℕ) → times f r ≡ 0 → total w r ≡ total v r
unfolding total count times
total-out w v f h [] z = refl
total-out w v f h (x ∷ r) z =
    let n : x ≢ f = λ e. omega (arith, hit-eq e) in
    omega (arith, h x n, total-out w v f h r (omega arith))

-- over a list with f once, their totals differ as at f
pub total-move : (w v : ℕ → ℕ) (f : ℕ) → ((x : ℕ) → x ≢ f → w x ≡ v x) → (r : List ℕ) → times f r ≡ 1 → total w r + v f ≡ total v r + w f
unfolding total count times
total-move w v f h [] z = omega arith
total-move w v f h (x ∷ r) z = elim (ℕ_discrete x f) [
  | yes e ↦ omega (arith, ap w e, ap v e, total-out w v f h r (omega (arith, hit-eq e)))
  | no n ↦ omega (arith, h x n, hit-ne n, total-move w v f h r (omega (arith, hit-ne n)))
]

-- a weight that is below another everywhere, and at g by one, is below it in total by as much as the list holds g
pub total-has : (w v : ℕ → ℕ) (g : ℕ) → ((x : ℕ) → v x ≤ w x) → v g < w g → (r : List ℕ) → times g r + total v r ≤ total w r
unfolding total count times
total-has w v g h s [] = omega arith
total-has w v g h s (x ∷ r) = elim (ℕ_discrete x g) [
  | yes e ↦ omega (arith, ap w e, ap v e, hit-eq e, total-has w v g h s r)
  | no n ↦ omega (arith, h x, hit-ne n, total-has w v g h s r)
]

pub total-le {ℓ} : {A : Type ℓ} (w v : A → ℕ) → ((x : A) → v x ≤ w x) → (r : List A) → total v r ≤ total w r
unfolding total
total-le w v h [] = omega arith
total-le w v h (x ∷ r) = omega (arith, h x, total-le w v h r)

pub total-same {ℓ} : {A : Type ℓ} (w v : A → ℕ) → ((x : A) → v x ≡ w x) → (r : List A) → total v r ≡ total w r
unfolding total
total-same w v h [] = refl
total-same w v h (x ∷ r) = ap₂ ◌+◌ (h x) (total-same w v h r)

pub total-zero {ℓ} : {A : Type ℓ} (l : List A) → total (λ (x : A). 0) l ≡ 0
unfolding total
total-zero [] = refl
total-zero (x ∷ l) = omega (arith, total-zero l)

pub total-append {ℓ} : {A : Type ℓ} (w : A → ℕ) (a b : List A) → total w (a ++ b) ≡ total w a + total w b
unfolding total
total-append w [] b = omega arith
total-append w (x ∷ a) b = omega (arith, total-append w a b)

pub total-map {ℓ κ} : {A : Type ℓ} {B : Type κ} (w : B → ℕ) (h : A → B) (l : List A) → total w (map h l) ≡ total (λ x. w (h x)) l
unfolding total
total-map w h [] = refl
total-map w h (x ∷ l) = ap (λ n. w (h x) + n) (total-map w h l)

-- one more number, as a loop has it
pub total-up_to : (w : ℕ → ℕ) (n : ℕ) → total w (up_to (suc n)) ≡ total w (up_to n) + w n
unfolding up_to total
total-up_to w n = total-append w (up_to n) (n ∷ []) ∙ ap (λ (k : ℕ). total w (up_to n) + k) (add-zero (w n))

-- a weight that is below another at every number below n
pub total-below : (w v : ℕ → ℕ) (n : ℕ) → ((x : ℕ) → x < n → v x ≤ w x) → total v (up_to n) ≤ total w (up_to n)
total-below w v zero h = unfold up_to total in omega arith
total-below w v (suc n) h = omega (arith, total-up_to w n, total-up_to v n, h n (omega arith), total-below w v n (λ x l. h x (omega arith)))

pub count-le {ℓ} : {A : Type ℓ} (p : A → Bool) (l : List A) → count p l ≤ length l
unfolding count total
count-le p [] = omega arith
count-le p (x ∷ l) = omega (arith, count-le p l, bit_le (p x))

-- a recipe has no more files on a side than files
pub count_on-le : (sides : List ℕ) (u : ℕ) (r : List ℕ) → count_on sides u r ≤ length r
unfolding count_on
count_on-le sides u r = count-le (on_side sides u) r

-- some number below n passes the test, where their count is not 0
pub count-some : (p : ℕ → Bool) (n : ℕ) → count p (up_to n) ≢ 0 → (i : ℕ) × (i < n) × (p i ≡ true)
unfolding count
count-some p zero h = absurd (h (unfold up_to total in refl))
count-some p (suc n) h = go (p n) refl (total-up_to (λ x. bit (p x)) n) (count-some p n)
  where
    go : (b : Bool) → p n ≡ b → total (λ x. bit (p x)) (up_to (suc n)) ≡ total (λ x. bit (p x)) (up_to n) + bit (p n)
        → (count p (up_to n) ≢ 0 → (i : ℕ) × (i < n) × (p i ≡ true)) → (i : ℕ) × (i < suc n) × (p i ≡ true)
    go true e q ih = (n, omega arith, e)
    go false e q ih = let r = ih (λ z. h (omega (arith, ap bit e))) in (r.0, omega (arith, r.1), r.2)

-- one entry more, as a loop over a list has it
pub count-here : (p : ℕ → Bool) (n i : ℕ) → i < n → p i ≡ true → count p (up_to n) ≢ 0
unfolding count
count-here p zero i h e = absurd (omega arith)
count-here p (suc n) i h e = elim (ℕ_discrete i n) [
  | yes q ↦ let z : bit (p n) ≡ 1 = rw (← q, e) refl in λ k. omega (arith, total-up_to (λ x. bit (p x)) n)
  | no m ↦ let r : count p (up_to n) ≢ 0 = count-here p n i (omega arith) e in λ k. unfold count in r (omega (arith, total-up_to (λ x. bit (p x)) n))
]

pub total-take {ℓ} : {A : Type ℓ} (w : A → ℕ) (d : A) (l : List A) (i : ℕ) → i < length l → total w (take (suc i) l) ≡ total w (take i l) + w (get_or l i d)
unfolding total
total-take w d [] i h = absurd (omega arith)
total-take w d (x ∷ l) zero h = omega arith
total-take w d (x ∷ l) (suc i) h = omega (arith, total-take w d l i (omega arith))

pub count-take {ℓ} : {A : Type ℓ} (p : A → Bool) (d : A) (l : List A) (i : ℕ) {b : Bool} → i < length l → p (get_or l i d) ≡ b
    → count p (take (i + 1) l) ≡ count p (take i l) + bit b
unfolding count
count-take p d l i {b} h e =
    ap (λ (k : ℕ). total (λ x. bit (p x)) (take k l)) (add-one i) ∙ total-take (λ x. bit (p x)) d l i h
    ∙ ap (λ (t : Bool). total (λ x. bit (p x)) (take i l) + bit t) e

-- an equation of sums that holds at each entry holds of the totals
pub total-law : (a b c d e h : List ℕ → ℕ) (rs : List (List ℕ))
    → ((j : ℕ) → a (get_or rs j []) + b (get_or rs j []) + c (get_or rs j []) ≡ d (get_or rs j []) + e (get_or rs j []) + h (get_or rs j []))
    → total a rs + total b rs + total c rs ≡ total d rs + total e rs + total h rs
unfolding total
total-law a b c d e h [] l = refl
total-law a b c d e h (r ∷ rs) l = omega (arith, l 0, total-law a b c d e h rs (λ j. l (suc j)))

-- a recipe that may hold f once: holds says which
pub holds-yes : (f : ℕ) (r : List ℕ) → times f r ≤ 1 → holds r f ≡ true → times f r ≡ 1
holds-yes f r p h = omega (arith, ltb-true 0 (times f r) h)

pub holds-no : (f : ℕ) (r : List ℕ) → holds r f ≡ false → times f r ≡ 0
holds-no f r h = omega (arith, ltb-false 0 (times f r) h)

-- a list that nowhere has x holds it 0 times; one whose entries differ holds each number at most once
pub times_none : (x : ℕ) (r : List ℕ) → ((j : ℕ) → j < length r → get_or r j 0 ≢ x) → times x r ≡ 0
unfolding times count total
times_none x [] h = refl
times_none x (y ∷ r) h = omega (arith, hit-ne (h 0 (omega arith)), times_none x r (λ j l. h (suc j) (omega arith)))

pub times-once : (r : List ℕ) → ((i j : ℕ) → i < j → j < length r → get_or r j 0 ≢ get_or r i 0) → (x : ℕ) → times x r ≤ 1
unfolding times count total
times-once [] h x = omega arith
times-once (y ∷ r) h x = elim (ℕ_discrete y x) [
  | yes e ↦ omega (arith, hit-eq e, times_none x r (λ j l. rw (← e) (h 0 (suc j) (omega arith) (omega arith))))
  | no n ↦ omega (arith, hit-ne n, times-once r (λ i j a b. h (suc i) (suc j) (omega arith) (omega arith)) x)
]

-- up_to n holds each number below n once, and no other
pub times_above : (x n : ℕ) → n ≤ x → times x (up_to n) ≡ 0
unfolding times count
times_above x zero h = unfold up_to total in refl
times_above x (suc n) h = omega (arith, total-up_to (λ y. bit (eqb y x)) n, times_above x n (omega arith), hit-ne {a = n} {b = x} (omega arith))

pub times_below : (x n : ℕ) → x < n → times x (up_to n) ≡ 1
unfolding times count
times_below x zero h = absurd (omega arith)
times_below x (suc n) h = elim (ℕ_discrete n x) [
  | yes e ↦ omega (arith, total-up_to (λ y. bit (eqb y x)) n, times_above x n (omega arith), hit-eq e)
  | no k ↦ omega (arith, total-up_to (λ y. bit (eqb y x)) n, times_below x n (omega arith), hit-ne k)
]

-- ---- lists by index

pub length-up_to : (n : ℕ) → length (up_to n) ≡ n
unfolding up_to
length-up_to zero = refl
length-up_to (suc n) = omega (arith, length-append (up_to n) (n ∷ []), length-up_to n)

pub get_d-up_to : (n y : ℕ) → y < n → get_or (up_to n) y 0 ≡ y
unfolding up_to
get_d-up_to zero y h = absurd (omega arith)
get_d-up_to (suc n) y h = elim (ℕ_discrete y n) [
  | yes e ↦ rw e (get_or_at (up_to n) n [] 0 n (length-up_to n))
  | no k ↦ get_or-append (up_to n) (n ∷ []) 0 y (rw (length-up_to n) (omega arith)) ∙ get_d-up_to n y (omega arith)
]

pub times-up_to : (x n : ℕ) → times x (up_to n) ≤ 1
times-up_to x n = times-once (up_to n) (λ i j a b e. omega (arith, length-up_to n, get_d-up_to n j (omega (arith, length-up_to n)), get_d-up_to n i (omega (arith, length-up_to n)))) x

pub get_d-mapped {ℓ κ} : {A : Type ℓ} {B : Type κ} (h : A → B) (l : List A) (y : ℕ) (a : A) (b : B) → y < length l → get_or (map h l) y b ≡ h (get_or l y a)
get_d-mapped h [] y a b p = absurd (omega arith)
get_d-mapped h (x ∷ l) zero a b p = refl
get_d-mapped h (x ∷ l) (suc y) a b p = get_d-mapped h l y a b (omega arith)

-- entry y of a list that is given by its entries
pub get_d-tabled {ℓ} : {A : Type ℓ} (h : ℕ → A) (n y : ℕ) (d : A) → y < n → get_or (map h (up_to n)) y d ≡ h y
get_d-tabled h n y d p = get_d-mapped h (up_to n) y 0 d (rw (length-up_to n) p) ∙ ap h (get_d-up_to n y p)

pub length-tabled {ℓ} : {A : Type ℓ} (h : ℕ → A) (n : ℕ) → length (map h (up_to n)) ≡ n
length-tabled h n = length-map (up_to n) h ∙ length-up_to n

pub tabled-more {ℓ} : {A : Type ℓ} (h : ℕ → A) (n : ℕ) → map h (up_to (n + 1)) ≡ map h (up_to n) ++ (h n ∷ [])
tabled-more h n = ap (λ (k : ℕ). map h (up_to k)) (add-one n) ∙ unfold up_to in map-append h (up_to n) (n ∷ [])

pub total-const {ℓ} : {A : Type ℓ} (c : ℕ) (l : List A) → total (λ (x : A). c) l ≡ length l * c
unfolding total
total-const c [] = omega arith
total-const c (x ∷ l) = omega (arith, total-const c l)

-- the sum of w at j, j + 1, .., n of them
unfoldable pub sum_from : (ℕ → ℕ) → ℕ → ℕ → ℕ
sum_from w j zero = 0
sum_from w j (suc n) = w j + sum_from w (suc j) n

sum_from-last : (w : ℕ → ℕ) (j n : ℕ) → sum_from w j (suc n) ≡ sum_from w j n + w (j + n)
unfolding sum_from
sum_from-last w j zero = omega (arith, ap w (add-zero j))
sum_from-last w j (suc n) = omega (arith, sum_from-last w (suc j) n, ap w (suc-add j n ∙ sym (add-suc j n)))

pub sum_from-up_to : (w : ℕ → ℕ) (n : ℕ) → sum_from w 0 n ≡ total w (up_to n)
sum_from-up_to w zero = unfold sum_from up_to total in refl
sum_from-up_to w (suc n) = omega (arith, sum_from-last w 0 n, sum_from-up_to w n, total-up_to w n, ap w (zero-add n))

sum_from-list {ℓ} : {A : Type ℓ} (w : A → ℕ) (d : A) (l : List A) (v : ℕ → ℕ) (j : ℕ) → ((i : ℕ) → v (j + i) ≡ w (get_or l i d)) → sum_from v j (length l) ≡ total w l
unfolding sum_from total
sum_from-list w d [] v j h = refl
sum_from-list w d (x ∷ l) v j h = ap₂ ◌+◌ (ap v (sym (add-zero j)) ∙ h 0) (sum_from-list w d l v (suc j) (λ i. ap v (suc-add j i ∙ sym (add-suc j i)) ∙ h (suc i)))

pub total-index {ℓ} : {A : Type ℓ} (w : A → ℕ) (d : A) (l : List A) → total (λ i. w (get_or l i d)) (up_to (length l)) ≡ total w l
total-index w d l = sym (sum_from-up_to (λ i. w (get_or l i d)) (length l)) ∙ sum_from-list w d l (λ i. w (get_or l i d)) 0 (λ i. ap (λ k. w (get_or l k d)) (zero-add i))

-- over the entries of a list, and over a list that is given by its entries
pub count_entries : (p : ℕ → Bool) (l : List ℕ) → count (λ i. p (get_or l i 0)) (up_to (length l)) ≡ count p l
unfolding count
count_entries p l = total-index (λ x. bit (p x)) 0 l

pub count-mapped : (p : List ℕ → Bool) (h : ℕ → List ℕ) (n : ℕ) → count (λ j. p (h j)) (up_to n) ≡ count p (map h (up_to n))
unfolding count
count-mapped p h n = sym (total-map (λ x. bit (p x)) h (up_to n))

-- ---- a loop that adds up: the sum of w below n has come to i, with x, and each number is at most b

pub record Summed (w : ℕ → ℕ) (b n i x : ℕ) : Type 0 where
  pub stop : i ≤ n
  pub is : x ≡ total w (up_to i)
  pub small : x ≤ b * i

pub summed-none : {w : ℕ → ℕ} {b n : ℕ} → Summed w b n 0 0
summed-none = record { stop = omega arith; is = unfold total up_to in refl; small = omega arith }

module _ {w : ℕ → ℕ} {b n i x : ℕ} (s : Summed w b n i x) where
  pub summed-more : (y : ℕ) → i < n → y ≡ x + w i → w i ≤ b → Summed w b n (i + 1) y
  summed-more y h e l = record {
    stop = omega arith;
    is = e ∙ ap (λ (k : ℕ). k + w i) s.is ∙ sym (total-up_to w i) ∙ ap (λ (k : ℕ). total w (up_to k)) (sym (add-one i));
    small = omega (arith, s.small, mul-add b i 1, mul-one b);
  }

  pub summed-end : n ≤ i → x ≡ total w (up_to n)
  summed-end h = let e : i ≡ n = omega (arith, s.stop) in s.is ∙ ap (λ (k : ℕ). total w (up_to k)) e

-- a loop that counts: one test more, and the end where the tests are of a list's entries
pub summed-bit : (p : ℕ → Bool) {n i x y : ℕ} → Summed (λ k. bit (p k)) 1 n i x → i < n → y ≡ bit (p i) → Summed (λ k. bit (p k)) 1 n (i + 1) (x + y)
summed-bit p {n} {i} {x} s h e = summed-more s _ h (ap (λ (k : ℕ). x + k) e) (bit_le (p i))

pub summed-entries : (p : ℕ → Bool) (l : List ℕ) {i x : ℕ} → Summed (λ k. bit (p (get_or l k 0))) 1 (length l) i x → length l ≤ i → x ≡ count p l
unfolding count
summed-entries p l s h = summed-end s h ∙ count_entries p l

-- ---- the largest

max_assoc : (a b c : ℕ) → max (max a b) c ≡ max a (max b c)
max_assoc a b c =
    le_antisymm
    (max-le (max-le (le-max_left a (max b c)) (le_trans (le-max_left b c) (le-max_right a (max b c)))) (le_trans (le-max_right b c) (le-max_right a (max b c))))
    (max-le (le_trans (le-max_left a b) (le-max_left (max a b) c)) (max-le (le_trans (le-max_right a b) (le-max_left (max a b) c)) (le-max_right (max a b) c)))

largest-append : (w : ℕ → ℕ) (a b : List ℕ) → largest w (a ++ b) ≡ max (largest w a) (largest w b)
unfolding largest
largest-append w [] b = sym (zero-max (largest w b))
largest-append w (x ∷ a) b = ap (max (w x)) (largest-append w a b) ∙ sym (max_assoc (w x) (largest w a) (largest w b))

-- one number more, as a loop has it
pub largest-up_to : (w : ℕ → ℕ) (n : ℕ) → largest w (up_to (suc n)) ≡ max (largest w (up_to n)) (w n)
unfolding largest up_to
largest-up_to w n = largest-append w (up_to n) (n ∷ []) ∙ ap (max (largest w (up_to n))) (max-zero (w n))

-- no number is larger
pub largest-has : (w : ℕ → ℕ) (n i : ℕ) → i < n → w i ≤ largest w (up_to n)
largest-has w zero i h = absurd (omega arith)
largest-has w (suc n) i h = rw (largest-up_to w n) (elim (ℕ_discrete i n) [
  | yes e ↦ le_trans (omega (arith, ap w e)) (le-max_right (largest w (up_to n)) (w n))
  | no m ↦ le_trans (largest-has w n i (omega arith)) (le-max_left (largest w (up_to n)) (w n))
])
