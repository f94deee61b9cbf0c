-- Binding numbers by the code's tests, the walk over a file's recipes, and two vectors place by place. Assumes nothing.
use Rattle.std.specs.Prelude.{Option as Option', Some}
use Rattle.std.specs.declared.cmp.Ordering.{Ordering}
use Rattle.std.specs.declared.cmp.Ordering.TheVariants.{Less, Equal, Greater}
use Rattle.std.specs.Ordering.{int_cmp, is_gt, is_some_and, partial_gt, partial_ordering_then}
use Rattle.std.specs.Cmp.Lexicographic.{slice_partial_cmp}
use Rattle.choice.proofs.StandsAt.{greater-not-less}
use mathlib.Core.Path.{◌≡◌, refl, sym, ap, ap₂, ◌∙◌}
use Prim.Native.Nat.{ℕ, zero, suc, ◌+◌, ◌-◌, ◌*◌, ◌≤◌, ◌<◌}
use mathlib.Core.Bool.{Bool, true, false, not, cond, ◌&&◌, ◌||◌}
use mathlib.Core.List.{List, [], ◌∷◌}
use native.Mathlib.Nat.{add-zero}
use native.Mathlib.Omega.{arith}
use lib.Dec.{leb, ltb}
use lib.ListN.{length, get_or, take, drop, length-take, length-drop, get_or-eq_default}
use lib.Seq.{take-take, drop-drop}
use lib.IntN.{ℤ, pos}
use lib.Signed.{lt_z}
use Rattle.rules.specs.Lists.{bit, diff}
use Rattle.rules.specs.Job.{view_of}
use Rattle.rules.specs.Levels.{Binding, adds, takes, greater_vector}
use Rattle.rules.proofs.Tests.{and-false}
use Rattle.rules.proofs.Count.{is0, Summed, summed-none, summed-bit, summed-entries}
use Rattle.rules.specs.Split.{side_of}
use Rattle.tables.specs.declared.zones.Zones.{Zones}
use Rattle.tables.specs.Zones.{cells_at, starts_at, counts_at, side_at, zones_of, part}
use Rattle.tables.proofs.Parts.{front-part}
use Rattle.levels.specs.Vectors.{Counts, counts_for, adds_at, takes_at, level_by, vector_by, vector_in}
use Rattle.levels.specs.Numbers.{number_in, counts_from}

-- ---- a recipe's number

-- a part has nothing beyond it
pub part-beyond : (a k : ℕ) (xs : List ℕ) (i : ℕ) → k ≤ i → get_or (part a k xs) i 0 ≡ 0
part-beyond a k xs i h = get_or-eq_default (part a k xs) 0 (omega (arith, length-take k (drop a xs)))

-- ---- the walk over a file's recipes

-- of the first k recipes, those that add to level i and those that take from it
pub record Leveled (c : Counts) (i : ℕ) (js : List ℕ) (k up down : ℕ) : Type 0 where
  pub adds : Summed (λ n. bit (adds_at c i (get_or js n 0))) 1 (length js) k up
  pub takes : Summed (λ n. bit (takes_at c i (get_or js n 0))) 1 (length js) k down

pub leveled-none : {c : Counts} {i : ℕ} {js : List ℕ} → Leveled c i js 0 0 0
leveled-none = record { adds = summed-none; takes = summed-none }

module _ {c : Counts} {i : ℕ} {js : List ℕ} {k up down : ℕ} (s : Leveled c i js k up down) where
  -- neither count is above the number of recipes
  pub leveled-few : length js < 65536 → (up < 65536) × (down < 65536)
  leveled-few h = (omega (arith, s.adds.small, s.adds.stop), omega (arith, s.takes.small, s.takes.stop))

  pub leveled-all : length js ≤ k → diff up down ≡ level_by c i js
  unfolding level_by
  leveled-all h = ap₂ diff (summed-entries (adds_at c i) js s.adds h) (summed-entries (takes_at c i) js s.takes h)

-- one recipe, by the numbers that the code has of it
pub leveled-more : (own other : List ℕ) (n : ℕ) {js : List ℕ} {i k up down j a b : ℕ} {x y : Binding} → Leveled (counts_from own other n) i js k up down
    → k < length js → j ≡ get_or js k 0 → x ≡ number_in own n j → y ≡ number_in other n j → a ≡ up + bit (adds i x y) → b ≡ down + bit (takes i x y)
    → Leveled (counts_from own other n) i js (k + 1) a b
leveled-more own other n {js} {i} {k} s h e p q u v =
    record {
      adds = rw u (summed-bit (λ m. adds_at (counts_from own other n) i (get_or js m 0)) s.adds h (rw (p, q, e) refl));
      takes = rw v (summed-bit (λ m. takes_at (counts_from own other n) i (get_or js m 0)) s.takes h (rw (p, q, e) refl));
    }

-- ---- where they stand

-- no more than there are cells
pub view-few : (bounds pins : List ℕ) (j : ℕ) → length (view_of bounds pins j) ≤ length pins
unfolding view_of
view-few bounds pins j = go (ltb (suc j) (length bounds) && leb a b && leb b (length pins))
  where
    a : ℕ
    a = get_or bounds j 0

    b : ℕ
    b = get_or bounds (suc j) 0

    go : (t : Bool) → length (cond t (take (b - a) (drop a pins)) []) ≤ length pins
    go true = omega (arith, length-take (b - a) (drop a pins), length-drop a pins)
    go false = omega arith

-- the counts of a side, and of the other where those do not stand
pub across : (at n u own : ℕ) → own ≡ side_at at n u → ((own ≤ at + n) × (at ≤ own)) × (at + (at + n - own) ≡ side_at at n (1 - u))
across at n zero own e = ((omega arith, omega arith), omega arith)
across at n (suc u) own e =
    let there : own ≡ at + n = e ∙ ap (λ (t : Bool). cond t at (at + n)) (is0 u) in
    let none : 1 - suc u ≡ 0 = omega arith in
    let first : side_at at n (1 - suc u) ≡ at = ap (side_at at n) none in
    ((omega arith, omega arith), omega arith)

-- a part of a part
pub part-part : (a k b m : ℕ) (xs : List ℕ) → a + k ≤ m → part a k (part b m xs) ≡ part (b + a) k xs
part-part a k b m xs h = front-part m (take m (drop b xs)) (drop b xs) (take-take m m (drop b xs) (omega arith)) a k h ∙ ap (take k) (drop-drop a b xs)

-- a file's vector by the places that the code has
module _ (c n p : ℕ) (sides : List ℕ) (gains : List ℤ) (z : List ℕ) (f : ℕ) where
  -- the counts of a side are parts of those that the code lends
  counts-are : (own other : ℕ) → own ≡ side_at (counts_at c p) n (side_of sides f) → other ≡ side_at (counts_at c p) n (1 - side_of sides f)
      → counts_from (part own (3 * n) z) (part other (3 * n) z) n ≡ counts_for (counts_at c p) n z (side_of sides f)
  counts-are own other u v =
      rw (part-part 0 n own (3 * n) z (omega arith), part-part (2 * n) n own (3 * n) z (omega arith), part-part 0 n other (3 * n) z (omega arith), part-part (2 * n) n other (3 * n) z (omega arith), add-zero own, add-zero other, u, v)
      refl

  pub vector-is : (at : Zones) (m own : ℕ) (gain : ℤ) (list : List ℕ) → at ≡ zones_of c p → m ≡ n → own ≡ side_at (counts_at c p) n (side_of sides f) → gain ≡ get_or gains f (pos 0)
      → list ≡ view_of (part at.starts (at.counts - at.starts) z) (part at.cells (at.starts - at.cells) z) f
      → let other = at.counts + (at.counts + m - own) in
      vector_by gain (counts_from (part own (own + 3 * m - own) z) (part other (other + 3 * m - other) z) m) list ≡ vector_in c n p sides gains z f
  unfolding vector_in
  vector-is at m own gain list zones number side first view =
      let starts : counts_at c p - starts_at c p ≡ suc c = omega arith in
      let cells : starts_at c p - cells_at c ≡ p = omega arith in
      let other = counts_at c p + (counts_at c p + n - own) in
      let mine : own + 3 * n - own ≡ 3 * n = omega arith in
      let theirs : other + 3 * n - other ≡ 3 * n = omega arith in
      rw (first, view, zones, number, starts, cells, mine, theirs, counts-are own other side (across (counts_at c p) n (side_of sides f) own side).1) refl

-- ---- place by place

or-false : (b : Bool) → (b || false) ≡ b
or-false true = refl
or-false false = refl

pub greater-three : (a b : List ℤ) → length a ≡ 3 → length b ≡ 3
    → (lt_z (get_or b 0 (pos 0)) (get_or a 0 (pos 0))
    || (not (lt_z (get_or a 0 (pos 0)) (get_or b 0 (pos 0)))
    && (lt_z (get_or b 1 (pos 0)) (get_or a 1 (pos 0)) || (not (lt_z (get_or a 1 (pos 0)) (get_or b 1 (pos 0))) && lt_z (get_or b 2 (pos 0)) (get_or a 2 (pos 0))))))
    ≡ greater_vector a b
unfolding greater_vector
greater-three (x ∷ y ∷ z ∷ []) (u ∷ v ∷ w ∷ []) h k = simp (and-false, or-false)
greater-three (x ∷ y ∷ z ∷ []) (u ∷ v ∷ w ∷ t ∷ b) h k = absurd (omega arith)
greater-three (x ∷ y ∷ z ∷ []) (u ∷ v ∷ []) h k = absurd (omega arith)
greater-three (x ∷ y ∷ z ∷ []) (u ∷ []) h k = absurd (omega arith)
greater-three (x ∷ y ∷ z ∷ []) [] h k = absurd (omega arith)
greater-three (x ∷ y ∷ z ∷ s ∷ a) b h k = absurd (omega arith)
greater-three (x ∷ y ∷ []) b h k = absurd (omega arith)
greater-three (x ∷ []) b h k = absurd (omega arith)
greater-three [] b h k = absurd (omega arith)

-- as arrays are compared, the first place where they differ decides
abbrev ordered : ℤ → ℤ → Option' Ordering
ordered x y = Some (int_cmp x y)

pub greater-lists : (a b : List ℤ) → length a ≡ length b → partial_gt (slice_partial_cmp ordered) a b ≡ greater_vector a b
unfolding greater_vector
greater-lists [] [] h = refl
greater-lists [] (y ∷ b) h = absurd (omega arith)
greater-lists (x ∷ a) [] h = absurd (omega arith)
greater-lists (x ∷ a) (y ∷ b) h = go (lt_z x y) (lt_z y x) (greater-not-less x y) (greater-lists a b (omega arith))
  where
    rest : Option' Ordering
    rest = slice_partial_cmp ordered a b

    go : (s t : Bool) → (s ≡ true → t ≡ false) → is_some_and is_gt rest ≡ greater_vector a b
        → is_some_and is_gt (partial_ordering_then (Some (cond s Less (cond t Greater Equal))) rest) ≡ (t || (not s && greater_vector a b))
    go true true f ih = sym (f refl)
    go true false f ih = refl
    go false true f ih = refl
    go false false f ih = ih
