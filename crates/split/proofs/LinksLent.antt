-- The links lent from the scratch and put back, and what of the scratch that leaves as it was. Assumes nothing.
use mathlib.Core.Path.{◌≡◌, refl, sym, subst, ap, ap₂, ◌∙◌}
use Prim.Native.Nat.{ℕ, zero, suc, ◌+◌, ◌-◌, ◌≤◌}
use mathlib.Core.Bool.{Bool, true, false, cond}
use mathlib.Core.List.{List, ◌++◌}
use native.Mathlib.Omega.{arith}
use lib.ListN.{length, get_or, take, drop, length-set}
use lib.Seq.{take-take}
use lib.Dec.{eqb}
use lib.IntN.{ℤ, pos}
use borrow.Rule.Slice.PartMut.{mid_of, put_mid, same_len_mid}
use Rattle.rules.specs.Split.{side_of}
use Rattle.choice.specs.declared.window.Window.{Window}
use Rattle.choice.specs.declared.edition1.Best.{Best}
use Rattle.buckets.specs.declared.slots.Shape.{Shape}
use Rattle.buckets.specs.Slots.{back_at, fits_in}
use Rattle.buckets.specs.Links.{left}
use Rattle.buckets.specs.Entries.{entered_at, cleared, entered_below, entered_all, taken_out, brought_front}
use Rattle.buckets.specs.Offers.{front_in, front_b, chosen_is, chosen_front}
use Rattle.buckets.proofs.Stores.{joined_length, emptied-length}
use Rattle.tables.proofs.Parts.{part_length}
use Rattle.tables.proofs.LentParts.{put-here, put-below, put-beyond}
use Rattle.split.specs.Links.{links_at, links_long, shape_of, links_in, with_links}

-- nothing but the links of the scratch may differ
pub record Kept (c n p : ℕ) (z z' : List ℕ) : Type 0 where
  pub long : length z' ≡ length z
  pub below : take (links_at c n p) z' ≡ take (links_at c n p) z
  pub beyond : drop (links_at c n p + links_long c n) z' ≡ drop (links_at c n p + links_long c n) z

pub kept_same : {c n p : ℕ} {z : List ℕ} → Kept c n p z z
kept_same = record { long = refl; below = refl; beyond = refl }

pub kept_then : {c n p : ℕ} {x y z : List ℕ} → Kept c n p x y → Kept c n p y z → Kept c n p x z
kept_then a b = record { long = b.long ∙ a.long; below = b.below ∙ a.below; beyond = b.beyond ∙ a.beyond }

pub kept-is : {c n p : ℕ} {x y z : List ℕ} → z ≡ y → Kept c n p x y → Kept c n p x z
kept-is {c} {n} {p} {x} e k = subst (λ (u : List ℕ). Kept c n p x u) (sym e) k

module _ (c n p : ℕ) (z : List ℕ) where
  -- the code lends from `from` up to `to`
  module _ {from to : ℕ} (a : from ≡ links_at c n p) (e : to ≡ from + links_long c n) where
    width : to - from ≡ links_long c n
    width = omega arith

    pub lent_is : mid_of from (to - from) z ≡ links_in c n p z
    lent_is = ap₂ (λ (i k : ℕ). mid_of i k z) a width

    pub back_is : (ys : List ℕ) → put_mid from (to - from) z ys ≡ with_links c n p z ys
    back_is ys = ap₂ (λ (i k : ℕ). put_mid i k z ys) a width

  module _ (fits : links_at c n p + links_long c n ≤ length z) where
    pub links-long : length (links_in c n p z) ≡ links_long c n
    links-long = part_length (links_at c n p) (links_long c n) z fits

    module _ (ys : List ℕ) (l : length ys ≡ links_long c n) where
      abbrev end : ℕ
      end = links_at c n p + links_long c n

      exact : end - links_at c n p ≡ links_long c n
      exact = omega arith

      same : put_mid (links_at c n p) (end - links_at c n p) z ys ≡ with_links c n p z ys
      same = ap (λ (k : ℕ). put_mid (links_at c n p) k z ys) exact

      -- what was put back stands there
      pub links-back : links_in c n p (with_links c n p z ys) ≡ ys
      links-back =
          ap₂ (λ (k : ℕ) (x : List ℕ). mid_of (links_at c n p) k x) (sym exact) (sym same)
          ∙ put-here (links_at c n p) end z ys (omega arith) fits (l ∙ sym exact)

      pub kept-with : Kept c n p z (with_links c n p z ys)
      kept-with = record {
        long = same_len_mid (links_at c n p) (links_long c n) z ys (l ∙ sym links-long);
        below = ap (take (links_at c n p)) (sym same) ∙ put-below (links_at c n p) end z ys (omega arith) fits (l ∙ sym exact) (links_at c n p) (omega arith);
        beyond = ap (drop end) (sym same) ∙ put-beyond (links_at c n p) end z ys (omega arith) fits (l ∙ sym exact) end (omega arith);
      }

-- ---- what a call leaves, put back

module _ (c n p : ℕ) (z : List ℕ) {from to : ℕ} (a : from ≡ links_at c n p) (e : to ≡ from + links_long c n) where
  pub lent_back : (op : Shape → List ℕ → List ℕ) {shape : Shape} {ys : List ℕ} → shape ≡ shape_of c n → ys ≡ op shape (mid_of from (to - from) z)
      → put_mid from (to - from) z ys ≡ with_links c n p z (op (shape_of c n) (links_in c n p z))
  lent_back op {shape} {ys} s y = back_is c n p z a e ys ∙ ap (with_links c n p z) (y ∙ ap₂ op s (lent_is c n p z a e))

  pub lent-read : {A : Type 0} (op : Shape → List ℕ → A) {shape : Shape} → shape ≡ shape_of c n → op shape (mid_of from (to - from) z) ≡ op (shape_of c n) (links_in c n p z)
  lent-read op s = ap₂ op s (lent_is c n p z a e)

  -- the scratch is split where the links begin, and lends the front of it too
  pub split-back : (op : List ℕ → Shape → List ℕ → List ℕ) {m : ℕ} {front behind ys : List ℕ} {shape : Shape}
      → front ≡ take from z → behind ≡ drop from z → m ≡ c
      → shape ≡ shape_of c n → ys ≡ op (take m front) shape (take (to - from) behind)
      → front ++ (ys ++ drop (to - from) behind) ≡ with_links c n p z (op (take c z) (shape_of c n) (links_in c n p z))
  split-back op f b m s y = let h : c ≤ links_at c n p = omega arith in rw (y, f, b, m, s, width c n p z a e, a, take-take c (links_at c n p) z h) refl

-- ---- each call leaves the links as long as they were

pub entered-long : (shape : Shape) (side : ℕ) (gain : ℤ) (f : ℕ) (y : List ℕ) → length (entered_at shape side gain f y) ≡ length y
unfolding entered_at
entered-long shape side gain f y = simp (length-set, joined_length)

pub all-long : (shape : Shape) (marks sides : List ℕ) (gains : List ℤ) (y : List ℕ) → length (entered_all shape marks sides gains y) ≡ length y
unfolding entered_all entered_below cleared
all-long shape marks sides gains y = go (fits_in shape)
  where
    below : (k : ℕ) → length (entered_below shape marks sides gains (cleared shape y) k) ≡ length y
    below zero = simp (length-set, emptied-length)
    below (suc k) = turn (eqb (get_or marks k 0) 0) ∙ below k
      where
        turn : (b : Bool) → length (cond b (entered_at shape (side_of sides k) (get_or gains k (pos 0)) k (entered_below shape marks sides gains (cleared shape y) k)) (entered_below shape marks sides gains (cleared shape y) k))
            ≡ length (entered_below shape marks sides gains (cleared shape y) k)
        turn true = entered-long shape (side_of sides k) (get_or gains k (pos 0)) k _
        turn false = refl

    go : (b : Bool) → length (cond b (entered_below shape marks sides gains (cleared shape y) shape.files) y) ≡ length y
    go true = below shape.files
    go false = refl

pub out-long : (shape : Shape) (f : ℕ) (y : List ℕ) → length (taken_out shape f y) ≡ length y
unfolding taken_out
out-long shape f y = go (fits_in shape)
  where
    go : (b : Bool) → length (cond b (left (back_at shape) f y) y) ≡ length y
    go true = joined_length _ _ _ y
    go false = refl

pub front_long : (shape : Shape) (side : ℕ) (gain : ℤ) (f : ℕ) (y : List ℕ) → length (brought_front shape side gain f y) ≡ length y
unfolding brought_front
front_long shape side gain f y = go (fits_in shape)
  where
    go : (b : Bool) → length (cond b (entered_at shape side gain f (left (back_at shape) f y)) y) ≡ length y
    go true = entered-long shape side gain f _ ∙ joined_length _ _ _ y
    go false = refl

pub chosen-long : (shape : Shape) (w : Window) (size : ℕ) (sizes sides : List ℕ) (gains : List ℤ) (y : List ℕ) → length (chosen_front shape w size sizes sides gains y).links ≡ length y
unfolding chosen_front front_in
chosen-long shape w size sizes sides gains y = go (fits_in shape) _ _
  where
    go : (b : Bool) (x x' : Best) → length (cond b (chosen_is x (front_b shape y).links) (chosen_is x' y)).links ≡ length y
    go true x x' = simp length-set
    go false x x' = refl
