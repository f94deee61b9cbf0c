-- The files that scans changed and that are brought to the front, one more at the end, as a loop has them. Assumes nothing.
use mathlib.Core.Path.{◌≡◌, refl, sym, ap, ap₂, ◌∙◌}
use Prim.Native.Nat.{ℕ, zero, suc, ◌+◌, ◌-◌, ◌≤◌, ◌<◌}
use mathlib.Core.Bool.{Bool, true, false, cond, ◌&&◌}
use mathlib.Core.List.{List, [], ◌∷◌, ◌++◌, append-nil, append_assoc}
use native.Mathlib.Numerals.{add-one}
use native.Mathlib.Omega.{arith}
use lib.ListN.{length, get_or, take, drop, length-take, length-drop}
use lib.Seq.{take-suc, take-take, get_or-take, get_or-drop}
use lib.Dec.{eqb, ltb, leb}
use lib.IntN.{ℤ, pos}
use Rattle.rules.specs.Lists.{those, AllBelow}
use Rattle.rules.specs.Job.{view_of}
use Rattle.rules.specs.Split.{side_of}
use Rattle.rules.specs.Move.{State, steps_by, reaches, touches}
use Rattle.rules.proofs.Changes.{steps-append}
use Rattle.rules.proofs.Readable.{those-append}
use Rattle.buckets.specs.declared.slots.Buckets.{Buckets}
use Rattle.buckets.specs.declared.slots.Shape.{Shape}
use Rattle.buckets.specs.Lent.{SameBuckets}
use Rattle.tables.specs.Zones.{state_of, state_in}
use Rattle.split.specs.declared.fronts.AfterMove.{AfterMove}
use Rattle.split.specs.Scanning.{changed_by}
use Rattle.split.specs.Links.{links_at, links_long, bringing, brought_all, touched_by}
use Rattle.split.specs.Bringing.{brought}
use Rattle.split.proofs.LinksLent.{Kept, front_long}

-- the links stay as long as they are
pub brought-long : (shape : Shape) (sides : List ℕ) (gains : List ℤ) (fs links : List ℕ) → length (brought_all shape sides gains fs links) ≡ length links
unfolding steps_by
brought-long shape sides gains [] links = refl
brought-long shape sides gains (f ∷ fs) links =
    brought-long shape sides gains fs (bringing shape sides gains links f) ∙ front_long shape (side_of sides f) (get_or gains f (pos 0)) f links

-- the pins of a recipe are pins
pub view-below : (c : ℕ) (bounds pins : List ℕ) (j : ℕ) → AllBelow c pins → AllBelow c (view_of bounds pins j)
unfolding view_of
view-below c bounds pins j h = go (ltb (suc j) (length bounds) && leb a b && leb b (length pins))
  where
    a : ℕ
    a = get_or bounds j 0

    b : ℕ
    b = get_or bounds (suc j) 0

    go : (t : Bool) → AllBelow c (cond t (take (b - a) (drop a pins)) [])
    go true i l =
        let k : i < b - a = omega (arith, length-take (b - a) (drop a pins)) in
        rw (get_or-take (b - a) (drop a pins) i 0 k, get_or-drop a pins i 0) (h (a + i) (omega (arith, length-take (b - a) (drop a pins), length-drop a pins)))
    go false i l = absurd (omega arith)

-- the code's test, of a file
pub touched-is : (c : ℕ) (sides z : List ℕ) (t k f : ℕ) → f < c → changed_by (get_or z f 0) (side_of sides f) t (1 - t) k ≡ touches (state_in c sides z) t k f
touched-is c sides z t k f h = ap (λ (x : ℕ). eqb x 0 && reaches (eqb (side_of sides f) t) (eqb (side_of sides f) (1 - t)) k) (sym (get_or-take c z f 0 h))

module _ (c n p : ℕ) where
  -- the locks stand before the links
  pub kept-locks : {z z' : List ℕ} → Kept c n p z z' → take c z' ≡ take c z
  kept-locks {z} {z'} k =
      let h : c ≤ links_at c n p = omega arith in
      sym (take-take c (links_at c n p) z' h) ∙ ap (take c) k.below ∙ take-take c (links_at c n p) z h

  pub kept-state : {z z' : List ℕ} (sides : List ℕ) → Kept c n p z z' → state_in c sides z' ≡ state_in c sides z
  kept-state sides k = ap (state_of sides) (kept-locks k)

  pub kept-fits : {z z' : List ℕ} → Kept c n p z z' → links_at c n p + links_long c n ≤ length z → links_at c n p + links_long c n ≤ length z'
  kept-fits k h = omega (arith, k.long)

-- one file more that is tested
pub those-more : (p : ℕ → Bool) (fs : List ℕ) (i : ℕ) → i < length fs → those p (take (i + 1) fs) ≡ those p (take i fs) ++ those p (get_or fs i 0 ∷ [])
those-more p fs i h = rw (add-one, take-suc fs i 0) (those-append p (take i fs) (get_or fs i 0 ∷ []))

-- one scan more
touched_next : (st : State) (t : ℕ) (look : ℕ → List ℕ) (i : ℕ) (js ks : List ℕ) → i < length js → i < length ks
    → touched_by st t look (take (suc i) js) (take (suc i) ks) ≡ touched_by st t look (take i js) (take i ks) ++ those (touches st t (get_or ks i 0)) (look (get_or js i 0))
unfolding touched_by
touched_next st t look i [] ks h l = absurd (omega arith)
touched_next st t look i (j ∷ js) [] h l = absurd (omega arith)
touched_next st t look zero (j ∷ js) (k ∷ ks) h l = append-nil (those (touches st t k) (look j))
touched_next st t look (suc i) (j ∷ js) (k ∷ ks) h l =
    ap (λ (fs : List ℕ). those (touches st t k) (look j) ++ fs) (touched_next st t look i js ks (omega arith) (omega arith))
    ∙ sym (append_assoc (those (touches st t k) (look j)) (touched_by st t look (take i js) (take i ks)) (those (touches st t (get_or ks i 0)) (look (get_or js i 0))))

pub touched-more : (st : State) (t : ℕ) (look : ℕ → List ℕ) (i : ℕ) (js ks : List ℕ) → i < length js → i < length ks
    → touched_by st t look (take (i + 1) js) (take (i + 1) ks) ≡ touched_by st t look (take i js) (take i ks) ++ those (touches st t (get_or ks i 0)) (look (get_or js i 0))
touched-more st t look i js ks h l = rw add-one (touched_next st t look i js ks h l)

-- the same buckets still
pub same_then : {x y z : Buckets} → SameBuckets x y → SameBuckets y z → SameBuckets x z
same_then p q = record { links = q.links ∙ p.links; shape = q.shape ∙ p.shape }

-- files brought after those that are
pub brought-more : (m : AfterMove) (xs ys : List ℕ) {b b' : Buckets} → SameBuckets b b' → b'.links.now ≡ brought m xs b → brought m ys b' ≡ brought m (xs ++ ys) b
brought-more m xs ys {b} s e =
    ap₂ (λ (shape : Shape) (z : List ℕ). steps_by (bringing shape m.moved.sides.now m.gains.now) z ys) s.shape e
    ∙ sym (steps-append (bringing b.shape m.moved.sides.now m.gains.now) b.links.now xs ys)
