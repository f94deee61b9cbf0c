-- What the links stand for as a file enters, leaves, or changes its gain or side, and as a top comes down. Assumes nothing.
use mathlib.Core.Path.{◌≡◌, refl, ap₂}
use mathlib.Core.Logic.{inl, inr, ◌≢◌}
use Prim.Native.Nat.{ℕ, ◌+◌, ◌≤◌, ◌<◌}
use mathlib.Core.List.{List, [], ◌∷◌}
use native.Mathlib.Decide.{ℕ_discrete}
use native.Mathlib.Omega.{arith}
use lib.ListN.{length, get_or, set, length-set}
use lib.Seq.{get_or-set_same, get_or-set_other}
use lib.IntN.{ℤ, pos}
use Rattle.rules.specs.Split.{side_of}
use Rattle.rules.specs.Fronts.{without, to_front}
use Rattle.buckets.specs.declared.slots.Shape.{Shape}
use Rattle.buckets.specs.Slots.{levels, slots, level_of, vault_at, slot_of, slot_in, head_at, back_at, top_at}
use Rattle.buckets.specs.Links.{entered, left}
use Rattle.buckets.specs.Entries.{entered_at}
use Rattle.buckets.specs.Offers.{top_in, front_in}
use Rattle.buckets.specs.StandFor.{◌∈◌, in_slot, first_or, Linked, StandFor}
use Rattle.buckets.proofs.Stores.{joined_length}
use Rattle.buckets.proofs.Rows.{those-pass}
use Rattle.buckets.proofs.Linking.{elsewhere, in-bucket, own-bucket, names-front}
use Rattle.buckets.proofs.Entering.{enters, entered-else}
use Rattle.buckets.proofs.Leaving.{gone, leaves, left-else}
use Rattle.buckets.proofs.Levels.{level-most, slot-within}
use Rattle.buckets.proofs.Tops.{top-past, top-most, same-vault, set_past, raised-own, raised-most, raised-least, highest-most, highest-above}

module _ {shape : Shape} {sides : List ℕ} {gains : List ℤ} {order z : List ℕ} (s : StandFor shape sides gains order z) where
  abbrev back : ℕ
  back = back_at shape

  past : (u : ℕ) → back + shape.files < top_at shape u
  past u = top-past shape u

  -- ---- a file that is not there enters

  module _ (f : ℕ) (fresh : ¬ (f ∈ order)) (hf : f < shape.files) where
    abbrev side : ℕ
    side = side_of sides f

    abbrev gain : ℤ
    gain = get_or gains f (pos 0)

    abbrev inside : List ℕ
    inside = entered back (head_at shape side gain) f z

    in-linked : Linked shape.files (slots shape.most) (slot_in shape.most sides gains) (f ∷ order) inside
    in-linked = enters s.linked f fresh hf (slot-within shape.most side gain)

    in_top : (u : ℕ) → get_or inside (top_at shape u) 0 ≡ get_or z (top_at shape u) 0
    in_top u = entered-else s.linked f fresh hf (slot-within shape.most side gain) (top_at shape u) (past u)

    in-length : length inside ≡ length z
    in-length = simp joined_length

    placed : top_at shape side < length inside
    placed = omega (arith, in-length, top-most shape side, s.room)

    pub stands-entered : StandFor shape sides gains (f ∷ order) (entered_at shape side gain f z)
    unfolding entered_at ◌∈◌
    stands-entered = record {
      fits = s.fits;
      gained = s.gained;
      room = rw (length-set inside (top_at shape side) _) (omega (arith, in-length, s.room));
      linked = set_past (top_at shape side) _ (past side) in-linked;
      low = λ u. raised-most (top_at shape side) (level_of shape.most gain + 1) inside placed (top_at shape u) (levels shape.most)
          (rw (in_top u) (s.low u)) (omega (arith, level-most shape.most gain));
      under = λ g m. elim m [
        | inl e ↦ rw e (omega (arith, raised-own (top_at shape side) (level_of shape.most gain + 1) inside placed))
        | inr k ↦ omega (arith, s.under g k, in_top (side_of sides g), raised-least (top_at shape side) (level_of shape.most gain + 1) inside placed (top_at shape (side_of sides g)))
      ];
    }

  -- ---- a file leaves

  module _ (f : ℕ) (held : f ∈ order) where
    out-top : (u : ℕ) → get_or (left back f z) (top_at shape u) 0 ≡ get_or z (top_at shape u) 0
    out-top u = left-else s.linked f held (top_at shape u) (past u)

    pub stands-left : StandFor shape sides gains (without order f) (left back f z)
    stands-left = record {
      fits = s.fits;
      gained = s.gained;
      room = simp joined_length s.room;
      linked = leaves s.linked f held;
      low = λ u. rw (out-top u) (s.low u);
      under = λ g m. rw (out-top (side_of sides g)) (s.under g (those-pass _ g order m).1);
    }

  -- ---- its top comes down to a vault's highest nonempty bucket

  module _ (u : ℕ) where
    abbrev at : ℕ
    at = top_at shape u

    abbrev from : ℕ
    from = shape.files + vault_at shape.most u

    abbrev top : ℕ
    top = top_in shape u z

    room_at : at < length z
    room_at = omega (arith, top-most shape u, s.room)

    top_least : top ≤ get_or z at 0
    top_least = highest-most shape.files from z (get_or z at 0)

    names-file : (g : ℕ) → g ∈ order → get_or z (shape.files + slot_in shape.most sides gains g) 0 ≢ shape.files
    unfolding ◌∈◌
    names-file g m e =
        let slot = slot_in shape.most sides gains in
        let b = first (in_slot slot (slot g) order) (λ h k. (in-bucket s.linked (slot g) h k).0) (own-bucket s.linked g m) in
        omega (arith, names-front s.linked (slot g) (s.linked.known g m).1)
      where
        first : (xs : List ℕ) → ((h : ℕ) → h ∈ xs → h < shape.files) → g ∈ xs → first_or shape.files xs < shape.files
        first [] k m = absurd m
        first (x ∷ xs) k m = k x (inl refl)

    pub stands-lowered : StandFor shape sides gains order (set z at top)
    stands-lowered = record {
      fits = s.fits;
      gained = s.gained;
      room = rw (length-set z at top) s.room;
      linked = set_past at top (past u) s.linked;
      low = λ v. elim (ℕ_discrete (top_at shape v) at) [
        | yes e ↦ rw (e, get_or-set_same z at top 0 room_at) (omega (arith, top_least, s.low u))
        | no n ↦ rw (get_or-set_other z at (top_at shape v) top 0 n) (s.low v)
      ];
      under = λ g m. elim (ℕ_discrete (top_at shape (side_of sides g)) at) [
        | yes e ↦
            let level = level_of shape.most (get_or gains g (pos 0)) in
            let q = same-vault shape (side_of sides g) u e in
            let p : shape.files + slot_in shape.most sides gains g ≡ from + level = omega arith in
            rw (e, get_or-set_same z at top 0 room_at)
            (highest-above shape.files from z (get_or z at 0) level (rw e at (s.under g m)) (rw p at (names-file g m)))
        | no n ↦ rw (get_or-set_other z at (top_at shape (side_of sides g)) top 0 n) (s.under g m)
      ];
    }

    pub stands-found : StandFor shape sides gains order (front_in shape u z).links
    unfolding front_in
    stands-found = stands-lowered

  -- ---- only the sides and gains of the files that are there count

  pub stands_same : (sides' : List ℕ) (gains' : List ℤ) → shape.files ≤ length gains' → ((g : ℕ) → g ∈ order → side_of sides' g ≡ side_of sides g)
      → ((g : ℕ) → g ∈ order → get_or gains' g (pos 0) ≡ get_or gains g (pos 0)) → StandFor shape sides' gains' order z
  stands_same sides' gains' long a b = record {
    fits = s.fits;
    gained = long;
    room = s.room;
    linked = elsewhere s.linked (slot_in shape.most sides' gains') (λ g m. ap₂ (slot_of shape.most) (a g m) (b g m));
    low = s.low;
    under = λ g m. rw (a g m, b g m) (s.under g m);
  }

  -- a file that has left changes its side
  pub stands-turned : (f side : ℕ) → ¬ (f ∈ order) → StandFor shape (set sides f side) gains order z
  stands-turned f side out = stands_same (set sides f side) gains s.gained (λ g m. get_or-set_other sides f g side 0 (λ e. out (rw e at m))) (λ g m. refl)

  -- or its gain
  pub stands-regained : (f : ℕ) (gain : ℤ) → ¬ (f ∈ order) → StandFor shape sides (set gains f gain) order z
  stands-regained f gain out =
      stands_same sides (set gains f gain) (rw (length-set gains f gain) s.gained) (λ g m. refl) (λ g m. get_or-set_other gains f g gain (pos 0) (λ e. out (rw e at m)))

-- ---- a file's gain changes: it leaves, and enters anew

pub stands-front : {shape : Shape} {sides : List ℕ} {gains : List ℤ} {order z : List ℕ} → StandFor shape sides gains order z
    → (f : ℕ) → f ∈ order → (gain : ℤ) → StandFor shape sides (set gains f gain) (to_front order f) (entered_at shape (side_of sides f) gain f (left (back_at shape) f z))
stands-front {shape} {sides} {gains} {order} {z} s f held gain =
    let hf = (s.linked.known f held).0 in
    let away : ¬ (f ∈ without order f) = λ m. gone f f order m refl in
    let own : get_or (set gains f gain) f (pos 0) ≡ gain = get_or-set_same gains f gain (pos 0) (omega (arith, s.gained)) in
    rw own at (stands-entered (stands-regained (stands-left s f held) f gain away) f away hf)
