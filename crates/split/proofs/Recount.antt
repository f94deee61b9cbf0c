-- The counts of a recipe as a move sees them, and what its recount makes of them. Assumes nothing.
use mathlib.Core.Path.{◌≡◌, refl, sym, ◌∙◌}
use mathlib.Core.Logic.{◌≢◌}
use Prim.Native.Nat.{ℕ, zero, suc, ◌+◌, ◌*◌, ◌≤◌, ◌<◌, min, max}
use mathlib.Core.List.{List, []}
use native.Mathlib.Decide.{ℕ_discrete}
use native.Mathlib.Omega.{arith}
use lib.ListN.{length, get_or, take, drop, set, length-set}
use lib.Seq.{get_or-set_same, get_or-set_other, take-set-le, drop-set-lt}
use Rattle.rules.specs.Split.{other, side_of, count_on, times}
use Rattle.rules.specs.Move.{State, locked_on}
use Rattle.rules.proofs.OneMove.{Moves, left-count, there-count, left-locked, there-locked}
use Rattle.split.specs.declared.scan.Way.{Way}
use Rattle.tables.specs.Zones.{counts_at, side_at, part, CountsOf}
use Rattle.split.specs.Scanning.{count_t, locked_t, count_f, recount}
use Rattle.split.specs.Moving.{way_to}
use Rattle.tables.proofs.Parts.{front-entry, front-part}

-- ---- the lists of a way

-- the counts of the two sides stand in two neighbouring lists of n
pub record TwoLists (at n : ℕ) (way : Way) : Type 0 where
  pub first : min way.there way.left ≡ at
  pub second : max way.there way.left ≡ at + n
  pub many : way.recipes ≡ n

side-low : (at n u : ℕ) → u ≤ 1 → min (side_at at n u) (side_at at n (other u)) ≡ at
side-low at n zero h = omega arith
side-low at n (suc zero) h = omega arith
side-low at n (suc (suc u)) h = absurd (omega arith)

side-high : (at n u : ℕ) → u ≤ 1 → max (side_at at n u) (side_at at n (other u)) ≡ at + n
side-high at n zero h = omega arith
side-high at n (suc zero) h = omega arith
side-high at n (suc (suc u)) h = absurd (omega arith)

pub two-lists : (c n p t : ℕ) → t ≤ 1 → TwoLists (counts_at c p) n (way_to c n p t)
unfolding way_to
two-lists c n p t h = record { first = side-low (counts_at c p) n t h; second = side-high (counts_at c p) n t h; many = refl }

-- ---- the counts of a recipe

-- the counts of recipe j, as a move from side s sees them
pub record Seen (rs : List (List ℕ)) (st : State) (s : ℕ) (way : Way) (z : List ℕ) (j : ℕ) : Type 0 where
  pub there : get_or z (way.there + j) 0 ≡ count_on st.sides (other s) (get_or rs j [])
  pub left : get_or z (way.left + j) 0 ≡ count_on st.sides s (get_or rs j [])
  pub locked : get_or z (way.there + j + 2 * way.recipes) 0 ≡ locked_on st (other s) (get_or rs j [])
  pub staying : get_or z (way.left + j + 2 * way.recipes) 0 ≡ locked_on st s (get_or rs j [])

back : (s : ℕ) → s ≤ 1 → other (other s) ≡ s
back s h = omega arith

module _ {rs : List (List ℕ)} {st : State} {z : List ℕ} {j : ℕ} (c n p s : ℕ) (h : s ≤ 1) where
  pub counts-seen : CountsOf rs st (counts_at c p) n z j → Seen rs st s (way_to c n p (other s)) z j
  unfolding way_to
  counts-seen k = record {
    there = k.on (other s) (omega arith);
    left = rw (back s h) (k.on s h);
    locked = k.locked (other s) (omega arith);
    staying = rw (back s h) (k.locked s h);
  }

  pub seen-counts : Seen rs st s (way_to c n p (other s)) z j → CountsOf rs st (counts_at c p) n z j
  unfolding way_to
  seen-counts k = record {
    on = λ u l. elim (ℕ_discrete u s) [
      | yes e ↦ rw e (rw (back s h) at k.left)
      | no ne ↦ let e : u ≡ other s = omega arith in rw e k.there
    ];
    locked = λ u l. elim (ℕ_discrete u s) [
      | yes e ↦ rw e (rw (back s h) at k.staying)
      | no ne ↦ let e : u ≡ other s = omega arith in rw e k.locked
    ];
  }

-- ---- the recount of recipe j

-- nothing outside the counts changes
pub record Beside (at n : ℕ) (z z' : List ℕ) : Type 0 where
  pub long : length z' ≡ length z
  pub below : take at z' ≡ take at z
  pub beyond : drop (at + 4 * n) z' ≡ drop (at + 4 * n) z

pub beside-self : (at n : ℕ) (z : List ℕ) → Beside at n z z
beside-self at n z = record { long = refl; below = refl; beyond = refl }

pub beside-then : {at n : ℕ} {x y z : List ℕ} → Beside at n x y → Beside at n y z → Beside at n x z
beside-then a b = record { long = b.long ∙ a.long; below = b.below ∙ a.below; beyond = b.beyond ∙ a.beyond }

-- so every entry below the counts is the same, and every part there: that of the locks too
pub beside-entry : {at n : ℕ} {z z' : List ℕ} → Beside at n z z' → (i : ℕ) → i < at → get_or z' i 0 ≡ get_or z i 0
beside-entry {at} {z} {z'} b = front-entry at z' z b.below

pub beside-part : {at n : ℕ} {z z' : List ℕ} → Beside at n z z' → (a k : ℕ) → a + k ≤ at → part a k z' ≡ part a k z
beside-part {at} {z} {z'} b = front-part at z' z b.below

-- x is no place that the recount of recipe j changes
pub record Elsewhere (way : Way) (j x : ℕ) : Type 0 where
  pub left : x ≢ way.left + j
  pub there : x ≢ way.there + j
  pub locked : x ≢ way.there + j + 2 * way.recipes

-- where the counts of recipe j stand
pub record Places (at n : ℕ) (way : Way) (j : ℕ) : Type 0 where
  pub above : (at ≤ way.left + j) × (at ≤ way.there + j) × (at ≤ way.there + j + 2 * way.recipes) × (at ≤ way.left + j + 2 * way.recipes)
  pub inside : (way.left + j < at + 4 * n) × (way.there + j < at + 4 * n) × (way.there + j + 2 * way.recipes < at + 4 * n) × (way.left + j + 2 * way.recipes < at + 4 * n)
  pub apart : (way.left + j ≢ way.there + j) × (way.left + j ≢ way.there + j + 2 * way.recipes) × (way.there + j ≢ way.there + j + 2 * way.recipes)
  pub stays : Elsewhere way j (way.left + j + 2 * way.recipes)

pub places : {at n : ℕ} {way : Way} → TwoLists at n way → (j : ℕ) → j < n → Places at n way j
places l j h = omega arith

-- the counts of another recipe i stand elsewhere
elsewhere : {at n : ℕ} {way : Way} → TwoLists at n way → (j i : ℕ) → j < n → i < n → i ≢ j → (u : ℕ) → u ≤ 1
    → Elsewhere way j (side_at at n u + i) × Elsewhere way j (side_at at n u + i + 2 * n)
elsewhere l j i h h' ne zero m = omega arith
elsewhere l j i h h' ne (suc zero) m = omega arith
elsewhere l j i h h' ne (suc (suc u)) m = absurd (omega arith)

-- the entries that the recount leaves
recount-stays : (way : Way) (j : ℕ) (z : List ℕ) (i : ℕ) → Elsewhere way j i → get_or (recount way j z) i 0 ≡ get_or z i 0
unfolding recount
recount-stays way j z i e = rw (get_or-set_other, e.locked, get_or-set_other, e.there, get_or-set_other, e.left)

module _ {at n : ℕ} {way : Way} {j : ℕ} (l : Places at n way j) (z : List ℕ) where
  recount-beside : Beside at n z (recount way j z)
  unfolding recount
  recount-beside =
      record {
        long = simp length-set;
        below = take-set-le at _ _ _ l.above.2 ∙ take-set-le at _ _ _ l.above.1 ∙ take-set-le at z _ _ l.above.0;
        beyond = drop-set-lt (at + 4 * n) _ _ _ l.inside.2 ∙ drop-set-lt (at + 4 * n) _ _ _ l.inside.1 ∙ drop-set-lt (at + 4 * n) z _ _ l.inside.0;
      }

  module _ (fits : at + 4 * n ≤ length z) where
    recount-left : get_or (recount way j z) (way.left + j) 0 ≡ count_f way j z
    unfolding recount
    recount-left = rw (get_or-set_other, l.apart.1, get_or-set_other, l.apart.0, get_or-set_same z (way.left + j) (count_f way j z) 0 (omega arith))

    recount-there : get_or (recount way j z) (way.there + j) 0 ≡ count_t way j z + 1
    unfolding recount
    recount-there =
        let h : way.there + j < length (set z (way.left + j) (count_f way j z)) = simp length-set (omega arith) in
        rw (get_or-set_other, l.apart.2, get_or-set_same)

    recount-locked : get_or (recount way j z) (way.there + j + 2 * way.recipes) 0 ≡ locked_t way j z + 1
    unfolding recount
    recount-locked =
        let h : way.there + j + 2 * way.recipes < length (set (set z (way.left + j) (count_f way j z)) (way.there + j) (count_t way j z + 1)) = simp length-set (omega arith) in
        rw get_or-set_same

-- what the recount of recipe j makes of z
pub record Recounted (rs : List (List ℕ)) (st' : State) (at n j : ℕ) (z z' : List ℕ) : Type 0 where
  pub own : CountsOf rs st' at n z' j
  -- the counts of every other recipe stay, of whatever state they are
  pub others : (st : State) (i : ℕ) → i < n → i ≢ j → CountsOf rs st at n z i → CountsOf rs st at n z' i
  pub beside : Beside at n z z'

others-stay : {rs : List (List ℕ)} {st : State} {at n : ℕ} {way : Way} {z : List ℕ} → TwoLists at n way → (j i : ℕ) → j < n → i < n → i ≢ j
    → CountsOf rs st at n z i → CountsOf rs st at n (recount way j z) i
others-stay {at} {n} {way} {z} l j i h h' ne k = record {
  on = λ u m. recount-stays way j z (side_at at n u + i) (elsewhere l j i h h' ne u m).0 ∙ k.on u m;
  locked = λ u m. recount-stays way j z (side_at at n u + i + 2 * n) (elsewhere l j i h h' ne u m).1 ∙ k.locked u m;
}

-- where recipe j holds the moved file, its counts become those after the move
pub recounted : {rs : List (List ℕ)} {st st' : State} {f : ℕ} → Moves st st' f → (c n p : ℕ) (z : List ℕ) → counts_at c p + 4 * n ≤ length z
    → (j : ℕ) → j < n → times f (get_or rs j []) ≡ 1 → CountsOf rs st (counts_at c p) n z j
    → Recounted rs st' (counts_at c p) n j z (recount (way_to c n p (other (side_of st.sides f))) j z)
recounted {rs} {st} {f} m c n p z fits j h o k =
    let s = side_of st.sides f in
    let r = get_or rs j [] in
    let l = two-lists c n p (other s) (omega arith) in
    let q = places l j h in
    let a = counts-seen c n p s (m.binary f) k in
    record {
      own = seen-counts c n p s (m.binary f) record {
        there = omega (arith, recount-there q z fits, a.there, there-count m r o);
        left = omega (arith, recount-left q z fits, a.left, left-count m r o);
        locked = omega (arith, recount-locked q z fits, a.locked, there-locked m r o);
        staying = recount-stays (way_to c n p (other s)) j z _ q.stays ∙ a.staying ∙ sym (left-locked m r o);
      };
      others = λ st i h' ne. others-stay l j i h h' ne;
      beside = recount-beside q z;
    }
