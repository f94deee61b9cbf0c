-- What stands behind the tops stays, and the list keeps its length. Assumes nothing.
use mathlib.Core.Path.{◌≡◌, refl, sym, ◌∙◌}
use Prim.Native.Nat.{ℕ, zero, suc, ◌+◌, ◌≤◌, ◌<◌}
use mathlib.Core.Bool.{Bool, true, false, cond}
use mathlib.Core.List.{List}
use native.Mathlib.Omega.{arith}
use lib.ListN.{length, get_or, set, drop, length-set, length-drop}
use lib.Seq.{get_or-set_same, get_or-set_other, get_or-drop, ext_get_or}
use lib.Dec.{eqb}
use lib.IntN.{ℤ, pos}
use borrow.Author.Tests.{lt-ltb}
use Rattle.rules.specs.Split.{side_of}
use Rattle.rules.specs.Fronts.{without}
use Rattle.choice.specs.declared.window.Window.{Window}
use Rattle.buckets.specs.declared.slots.Shape.{Shape}
use Rattle.buckets.specs.Slots.{slots, head_at, back_at, top_at, Fits}
use Rattle.buckets.specs.Links.{emptied, entered, left}
use Rattle.buckets.specs.Entries.{entered_at, cleared, entered_below, entered_all, taken_out, brought_front}
use Rattle.buckets.specs.Offers.{front_in, chosen_front}
use Rattle.buckets.specs.StandFor.{◌∈◌, StandFor}
use Rattle.buckets.proofs.Stores.{joined_length, emptied-length, emptied-else}
use Rattle.buckets.proofs.Entering.{entered-else}
use Rattle.buckets.proofs.Leaving.{gone, left-else}
use Rattle.buckets.proofs.Levels.{slot-within}
use Rattle.buckets.proofs.Tops.{top-past, top-most}
use Rattle.buckets.proofs.Upkeep.{stands-left, stands-regained, stands-found}
use Rattle.buckets.proofs.Starts.{latest, latest-below, stands-below}

-- y is as long as z, and the same behind the tops
pub record Behind (shape : Shape) (z y : List ℕ) : Type 0 where
  pub long : length y ≡ length z
  pub each : (at : ℕ) → top_at shape 1 < at → get_or y at 0 ≡ get_or z at 0

module _ {shape : Shape} where
  behind-none : {z : List ℕ} → Behind shape z z
  behind-none = record { long = refl; each = λ at h. refl }

  behind-both : {x y z : List ℕ} → Behind shape x y → Behind shape y z → Behind shape x z
  behind-both a b = record { long = b.long ∙ a.long; each = λ at h. b.each at h ∙ a.each at h }

  behind-set : {z : List ℕ} (u x : ℕ) → Behind shape z (set z (top_at shape u) x)
  behind-set {z} u x = record { long = length-set z (top_at shape u) x; each = λ at h. get_or-set_other z (top_at shape u) at x 0 (λ e. omega (arith, top-most shape u)) }

  -- so the same is left of both behind the tops
  pub behind-rest : {z y : List ℕ} → Behind shape z y → drop (top_at shape 1 + 1) y ≡ drop (top_at shape 1 + 1) z
  behind-rest {z} {y} b =
      let n = top_at shape 1 + 1 in
      ext_get_or 0 (drop n y) (drop n z) (simp length-drop (omega (arith, b.long))) (λ i h. get_or-drop n y i 0 ∙ b.each (n + i) (omega arith) ∙ sym (get_or-drop n z i 0))

module _ {shape : Shape} {sides : List ℕ} {gains : List ℤ} {order z : List ℕ} (s : StandFor shape sides gains order z) where
  past : (at : ℕ) → top_at shape 1 < at → back_at shape + shape.files < at
  past at h = omega (arith, top-past shape 1)

  behind-entered : (f : ℕ) → ¬ (f ∈ order) → f < shape.files → Behind shape z (entered_at shape (side_of sides f) (get_or gains f (pos 0)) f z)
  unfolding entered_at
  behind-entered f fresh hf = behind-both inside (behind-set (side_of sides f) _)
    where
      inside : Behind shape z (entered (back_at shape) (head_at shape (side_of sides f) (get_or gains f (pos 0))) f z)
      inside = record {
        long = simp joined_length;
        each = λ at h. entered-else s.linked f fresh hf (slot-within shape.most (side_of sides f) (get_or gains f (pos 0))) at (past at h);
      }

  behind-left : (f : ℕ) → f ∈ order → Behind shape z (left (back_at shape) f z)
  behind-left f held = record { long = simp joined_length; each = λ at h. left-else s.linked f held at (past at h) }

  pub behind-taken : (f : ℕ) → f ∈ order → Behind shape z (taken_out shape f z)
  unfolding taken_out
  behind-taken f held = rw (lt-ltb _ 65536 s.fits) (behind-left f held)

  behind-found : (u : ℕ) → Behind shape z (front_in shape u z).links
  unfolding front_in
  behind-found u = behind-set u _

module _ {shape : Shape} {sides : List ℕ} {gains : List ℤ} {order z : List ℕ} (s : StandFor shape sides gains order z) where
  pub behind-front : (f : ℕ) → f ∈ order → (gain : ℤ) → Behind shape z (brought_front shape (side_of sides f) gain f z)
  unfolding brought_front
  behind-front f held gain =
      let away : ¬ (f ∈ without order f) = λ m. gone f f order m refl in
      let own : get_or (set gains f gain) f (pos 0) ≡ gain = get_or-set_same gains f gain (pos 0) (omega (arith, s.gained, (s.linked.known f held).0)) in
      let last = rw own at (behind-entered (stands-regained (stands-left s f held) f gain away) f away (s.linked.known f held).0) in
      rw (lt-ltb _ 65536 s.fits) (behind-both (behind-left s f held) last)

  pub behind-chosen : (w : Window) (size : ℕ) (sizes : List ℕ) → Behind shape z (chosen_front shape w size sizes sides gains z).links
  unfolding chosen_front
  behind-chosen w size sizes = rw (lt-ltb _ 65536 s.fits) (behind-both (behind-found s 0) (behind-found (stands-found s 0) 1))

module _ (shape : Shape) (marks sides : List ℕ) (gains : List ℤ) (z : List ℕ) (fits : Fits shape) (gained : shape.files ≤ length gains) (room : top_at shape 1 < length z) where
  behind-cleared : Behind shape z (cleared shape z)
  unfolding cleared
  behind-cleared = behind-both (behind-both none_in (behind-set 0 0)) (behind-set 1 0)
    where
      none_in : Behind shape z (emptied shape.files z (slots shape.most))
      none_in = record {
        long = emptied-length shape.files z (slots shape.most);
        each = λ at h. emptied-else shape.files z (slots shape.most) at (omega (arith, top-past shape 1));
      }

  behind-below : (n : ℕ) → n ≤ shape.files → Behind shape z (entered_below shape marks sides gains (cleared shape z) n)
  unfolding entered_below
  behind-below zero h = behind-cleared
  behind-below (suc n) h = go (eqb (get_or marks n 0) 0) (behind-below n (omega arith)) (stands-below shape marks sides gains z fits gained room n (omega arith))
    where
      free : ℕ → Bool
      free f = eqb (get_or marks f 0) 0

      go : (t : Bool) → Behind shape z (entered_below shape marks sides gains (cleared shape z) n)
          → StandFor shape sides gains (latest free n) (entered_below shape marks sides gains (cleared shape z) n)
          → Behind shape z (cond t (entered_at shape (side_of sides n) (get_or gains n (pos 0)) n (entered_below shape marks sides gains (cleared shape z) n)) (entered_below shape marks sides gains (cleared shape z) n))
      go true ih s = behind-both ih (behind-entered s n (λ m. omega (arith, latest-below free n n m)) (omega arith))
      go false ih s = ih

  pub behind-all : Behind shape z (entered_all shape marks sides gains z)
  unfolding entered_all
  behind-all = rw (lt-ltb _ 65536 fits) (behind-below shape.files (omega arith))
