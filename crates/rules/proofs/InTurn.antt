-- Lists one after the other: their length, their parts, a list as its own parts, and their entries. Assumes nothing.
use mathlib.Core.Path.{◌≡◌, refl, sym, ap, ap₂, ◌∙◌}
use Prim.Native.Nat.{ℕ, zero, suc, ◌+◌, ◌-◌, ◌*◌, ◌≤◌, ◌<◌}
use mathlib.Core.List.{List, ◌++◌}
use native.Mathlib.Decide.{ℕ_discrete, dec_lt}
use native.Mathlib.Nat.{mul-zero, mul-suc, mul-le-mul_left}
use native.Mathlib.Numerals.{add-one}
use native.Mathlib.Omega.{arith}
use lib.ListN.{length, get_or, take, drop, length-append, length-drop, get_or-append}
use lib.Seq.{take_all, take-append-le, drop-append-le, drop_at, take-add, get_or-append-add}
use Rattle.rules.specs.Lists.{in_turn, AllBelow}
use Rattle.rules.proofs.Entries.{get_d_past}

module _ {ℓ} {A : Type ℓ} where
  pub in_turn-same : (f g : ℕ → List A) (n : ℕ) → ((b : ℕ) → b < n → f b ≡ g b) → in_turn f n ≡ in_turn g n
  unfolding in_turn
  in_turn-same f g zero e = refl
  in_turn-same f g (suc n) e = ap₂ (λ (x y : List A). x ++ y) (in_turn-same f g n (λ b h. e b (omega arith))) (e n (omega arith))

  -- one list more
  pub turn_more : (f : ℕ → List A) (n : ℕ) → in_turn f (n + 1) ≡ in_turn f n ++ f n
  unfolding in_turn
  turn_more f n = rw (add-one n) refl

  -- a list is its own parts
  in_turn-parts : (m : ℕ) (l : List A) (n : ℕ) → in_turn (λ (b : ℕ). take m (drop (m * b) l)) n ≡ take (m * n) l
  unfolding in_turn
  in_turn-parts m l zero = rw (mul-zero m) refl
  in_turn-parts m l (suc n) = rw (mul-suc m n, in_turn-parts m l n) (sym (take-add (m * n) m l))

  -- so a list with these parts is the lists one after the other
  pub in_turn-is : (m : ℕ) (f : ℕ → List A) (n : ℕ) (l : List A) → length l ≡ m * n → ((b : ℕ) → b < n → f b ≡ take m (drop (m * b) l)) → in_turn f n ≡ l
  in_turn-is m f n l long parts = in_turn-same f (λ (b : ℕ). take m (drop (m * b) l)) n parts ∙ in_turn-parts m l n ∙ take_all (m * n) l (omega arith)

module _ {ℓ} {A : Type ℓ} (m : ℕ) (f : ℕ → List A) (long : (b : ℕ) → length (f b) ≡ m) where
  pub in_turn-length : (n : ℕ) → length (in_turn f n) ≡ m * n
  unfolding in_turn
  in_turn-length zero = sym (mul-zero m)
  in_turn-length (suc n) = omega (arith, length-append (in_turn f n) (f n), in_turn-length n, long n, mul-suc m n)

  -- part b is list b
  pub in_turn-part : (n b : ℕ) → b < n → take m (drop (m * b) (in_turn f n)) ≡ f b
  unfolding in_turn
  in_turn-part zero b h = absurd (omega arith)
  in_turn-part (suc n) b h = elim (ℕ_discrete b n) [
    | yes e ↦
        rw e (ap (take m) (drop_at (in_turn f n) (f n) (m * n) (in_turn-length n)) ∙ take_all m (f n) (omega (arith, long n)))
    | no z ↦
        let k : m * b + m ≤ m * n = omega (arith, mul-suc m b, mul-le-mul_left {m = suc b} {n = n} m (omega arith)) in
        let l : length (in_turn f n) ≡ m * n = in_turn-length n in
        ap (take m) (drop-append-le (m * b) (in_turn f n) (f n) (omega arith))
        ∙ take-append-le m (drop (m * b) (in_turn f n)) (f n) (omega (arith, length-drop (m * b) (in_turn f n)))
        ∙ in_turn-part n b (omega arith)
  ]

-- at most m long, where each list is
pub in_turn-few {ℓ} : {A : Type ℓ} (m : ℕ) (f : ℕ → List A) → ((b : ℕ) → length (f b) ≤ m) → (n : ℕ) → length (in_turn f n) ≤ m * n
unfolding in_turn
in_turn-few m f few zero = omega arith
in_turn-few m f few (suc n) = omega (arith, length-append (in_turn f n) (f n), in_turn-few m f few n, few n, mul-suc m n)

-- ---- what every entry has, and an entry that is there

module _ {ℓ} {A : Type ℓ} (d : A) where
  abbrev pub Every : (A → Type 0) → List A → Type 0
  Every P xs = (i : ℕ) → i < length xs → P (get_or xs i d)

  abbrev pub Entry : A → List A → Type ℓ
  Entry x xs = (i : ℕ) × (i < length xs) × (get_or xs i d ≡ x)

  pub every_append : (P : A → Type 0) (xs ys : List A) → Every P xs → Every P ys → Every P (xs ++ ys)
  every_append P xs ys p q i h = elim (dec_lt i (length xs)) [
    | yes l ↦ rw (get_or-append xs ys d i l) (p i l)
    | no l ↦ rw (get_d_past d xs ys i (omega arith)) (q (i - length xs) (omega (arith, length-append xs ys)))
  ]

  pub every-in_turn : (P : A → Type 0) (f : ℕ → List A) (n : ℕ) → ((b : ℕ) → b < n → Every P (f b)) → Every P (in_turn f n)
  unfolding in_turn
  every-in_turn P f zero p = λ i h. absurd (omega arith)
  every-in_turn P f (suc n) p = every_append P (in_turn f n) (f n) (every-in_turn P f n (λ b h. p b (omega arith))) (p n (omega arith))

  pub entry-left : (x : A) (xs ys : List A) → Entry x xs → Entry x (xs ++ ys)
  entry-left x xs ys (i, h, e) = (i, omega (arith, length-append xs ys), get_or-append xs ys d i h ∙ e)

  pub entry-right : (x : A) (xs ys : List A) → Entry x ys → Entry x (xs ++ ys)
  entry-right x xs ys (i, h, e) = (length xs + i, omega (arith, length-append xs ys), get_or-append-add xs ys i d ∙ e)

  pub entry-in_turn : (x : A) (f : ℕ → List A) (n b : ℕ) → b < n → Entry x (f b) → Entry x (in_turn f n)
  unfolding in_turn
  entry-in_turn x f zero b h w = absurd (omega arith)
  entry-in_turn x f (suc n) b h w = elim (ℕ_discrete b n) [
    | yes e ↦ entry-right x (in_turn f n) (f n) (rw (← e) w)
    | no z ↦ entry-left x (in_turn f n) (f n) (entry-in_turn x f n b (omega arith) w)
  ]

pub below-append : (m : ℕ) (xs ys : List ℕ) → AllBelow m xs → AllBelow m ys → AllBelow m (xs ++ ys)
below-append m = every_append 0 (λ n. n < m)

pub in_turn-below : (m : ℕ) (f : ℕ → List ℕ) (n : ℕ) → ((b : ℕ) → b < n → AllBelow m (f b)) → AllBelow m (in_turn f n)
in_turn-below m = every-in_turn 0 (λ n. n < m)
