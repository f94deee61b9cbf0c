-- Parts of a list, and a part or an entry after a store. Assumes nothing.
use mathlib.Core.Path.{◌≡◌, refl, sym, ap, ◌∙◌}
use Prim.Native.Nat.{ℕ, zero, suc, ◌+◌, ◌-◌, ◌≤◌, ◌<◌}
use mathlib.Core.List.{List, [], ◌∷◌, ◌++◌}
use native.Mathlib.Omega.{arith}
use native.Mathlib.Numerals.{add-one}
use lib.ListN.{length, get_or, set, take, drop, length-take, length-drop}
use lib.Seq.{take-nil, drop-nil, take-take, get_or-take, get_or-drop, get_or-set_same, take-set-le, drop-set-lt, drop-set-add, take-suc-set}
use Rattle.tables.specs.Zones.{part}

-- an entry of a part
pub part-entry : (a k : ℕ) (xs : List ℕ) (i : ℕ) → i < k → get_or (part a k xs) i 0 ≡ get_or xs (a + i) 0
part-entry a k xs i h = get_or-take k (drop a xs) i 0 h ∙ get_or-drop a xs i 0

pub part_length : (a k : ℕ) (xs : List ℕ) → a + k ≤ length xs → length (part a k xs) ≡ k
part_length a k xs h = omega (arith, length-take k (drop a xs), length-drop a xs)

-- what was set is read at the same place
pub at_set : (l : List ℕ) (i k v : ℕ) → k ≡ i → i < length l → get_or (set l i v) k 0 ≡ v
at_set l i k v e h = rw e (get_or-set_same l i v 0 h)

-- a store before a part, after it, and at its end
pub part-set-below : (at n : ℕ) (z : List ℕ) (i v : ℕ) → i < at → part at n (set z i v) ≡ part at n z
part-set-below at n z i v h = ap (take n) (drop-set-lt at z i v h)

pub part-set-above : (at n : ℕ) (z : List ℕ) (i v : ℕ) → at + n ≤ i → part at n (set z i v) ≡ part at n z
part-set-above at n z i v h =
    let e : at + (i - at) ≡ i = omega arith in
    ap (λ (k : ℕ). part at n (set z k v)) (sym e) ∙ ap (take n) (drop-set-add at z (i - at) v) ∙ take-set-le n (drop at z) (i - at) v (omega arith)

pub part-set-end : (at n : ℕ) (z : List ℕ) (v : ℕ) → at + n < length z → part at (n + 1) (set z (at + n) v) ≡ part at n z ++ (v ∷ [])
part-set-end at n z v h =
    ap (λ (k : ℕ). take k (drop at (set z (at + n) v))) (add-one n) ∙ ap (take (suc n)) (drop-set-add at z n v)
    ∙ take-suc-set (drop at z) n v (omega (arith, length-drop at z))

-- ---- lists whose first m entries are the same

-- a part is told by the entries up to its end
part-front : (a k m : ℕ) (xs : List ℕ) → a + k ≡ m → part a k xs ≡ drop a (take m xs)
part-front a k m [] e = rw (drop-nil a, take-nil m, take-nil k, drop-nil a)
part-front zero k m (x ∷ xs) e =
    let h : k ≡ m = omega arith in
    ap (λ (j : ℕ). take j (x ∷ xs)) h
part-front (suc a) k zero (x ∷ xs) e = absurd (omega arith)
part-front (suc a) k (suc m) (x ∷ xs) e = part-front a k m xs (omega arith)

module _ (m : ℕ) (xs ys : List ℕ) (same : take m xs ≡ take m ys) where
  pub front-entry : (i : ℕ) → i < m → get_or xs i 0 ≡ get_or ys i 0
  front-entry i h = sym (get_or-take m xs i 0 h) ∙ ap (λ (l : List ℕ). get_or l i 0) same ∙ get_or-take m ys i 0 h

  pub front-part : (a k : ℕ) → a + k ≤ m → part a k xs ≡ part a k ys
  front-part a k h =
      part-front a k (a + k) xs refl
      ∙ ap (drop a) (sym (take-take (a + k) m xs h) ∙ ap (take (a + k)) same ∙ take-take (a + k) m ys h)
      ∙ sym (part-front a k (a + k) ys refl)
