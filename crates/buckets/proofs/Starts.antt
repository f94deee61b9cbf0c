-- File after file, the links stand for the free files so far. Assumes nothing.
use mathlib.Core.Path.{◌≡◌, refl, sym, ap, ◌∙◌}
use mathlib.Core.Logic.{inl, inr}
use Prim.Native.Nat.{ℕ, zero, suc, ◌+◌, ◌*◌, ◌≤◌, ◌<◌}
use mathlib.Core.Bool.{Bool, true, false, cond}
use mathlib.Core.List.{List, [], ◌∷◌}
use native.Mathlib.Omega.{arith}
use lib.ListN.{length, get_or, set, length-set}
use lib.Seq.{get_or-set_same, get_or-set_other}
use lib.Dec.{eqb}
use lib.IntN.{ℤ, pos}
use borrow.Author.Tests.{ne_eqb}
use Rattle.rules.specs.Lists.{those, up_to}
use Rattle.rules.specs.Split.{side_of}
use Rattle.rules.specs.Move.{steps_by}
use Rattle.rules.specs.Fronts.{without, to_front}
use Rattle.rules.proofs.Changes.{steps-append}
use Rattle.rules.proofs.Readable.{those-append}
use Rattle.buckets.specs.declared.slots.Shape.{Shape}
use Rattle.buckets.specs.Slots.{levels, slots, slot_in, top_at, Fits}
use Rattle.buckets.specs.Links.{emptied}
use Rattle.buckets.specs.Entries.{entered_at, cleared, entered_below}
use Rattle.buckets.specs.StandFor.{◌∈◌, StandFor}
use Rattle.buckets.proofs.Stores.{emptied-length}
use Rattle.buckets.proofs.Linking.{empties}
use Rattle.buckets.proofs.Tops.{top-past, set_past}
use Rattle.buckets.proofs.Upkeep.{stands-entered}

-- ---- the free files, the latest entered first

-- of the files below n those that pass the test
unfoldable pub latest : (ℕ → Bool) → ℕ → List ℕ
latest p zero = []
latest p (suc n) = cond (p n) (n ∷ latest p n) (latest p n)

module _ (p : ℕ → Bool) where
  pub latest-below : (n f : ℕ) → f ∈ latest p n → f < n
  unfolding latest ◌∈◌
  latest-below zero f m = absurd m
  latest-below (suc n) f m = go (p n) (latest-below n f) m
    where
      go : (t : Bool) → (f ∈ latest p n → f < n) → f ∈ cond t (n ∷ latest p n) (latest p n) → f < suc n
      go true ih (inl e) = omega arith
      go true ih (inr k) = omega (arith, ih k)
      go false ih k = omega (arith, ih k)

  without-out : (f : ℕ) (xs : List ℕ) → ((g : ℕ) → g ∈ xs → g < f) → without xs f ≡ xs
  unfolding those ◌∈◌
  without-out f [] h = refl
  without-out f (x ∷ xs) h = rw (ne_eqb x f (λ e. omega (arith, h x (inl refl))), without-out f xs (λ g m. h g (inr m))) refl

  -- they are what is left when they have entered at the front in rising number
  latest-is : (n : ℕ) → latest p n ≡ steps_by to_front [] (those p (up_to n))
  unfolding latest up_to steps_by those
  latest-is zero = refl
  latest-is (suc n) =
      go (p n) refl
      ∙ ap (λ (xs : List ℕ). steps_by to_front xs (those p (n ∷ []))) (latest-is n)
      ∙ sym (ap (steps_by to_front []) (those-append p (up_to n) (n ∷ [])) ∙ steps-append to_front [] (those p (up_to n)) (those p (n ∷ [])))
    where
      go : (t : Bool) → p n ≡ t → cond t (n ∷ latest p n) (latest p n) ≡ steps_by to_front (latest p n) (cond t (n ∷ []) [])
      go true e = rw (without-out n (latest p n) (latest-below n)) refl
      go false e = refl

-- ---- they enter

module _ (shape : Shape) (marks sides : List ℕ) (gains : List ℤ) (z : List ℕ) (fits : Fits shape) (gained : shape.files ≤ length gains) (room : top_at shape 1 < length z) where
  abbrev none_in : List ℕ
  none_in = emptied shape.files z (slots shape.most)

  low-in : (u : ℕ) → get_or (set (set none_in (top_at shape 0) 0) (top_at shape 1) 0) (top_at shape u) 0 ≤ levels shape.most
  low-in u = go (eqb u 0)
    where
      long : length none_in ≡ length z
      long = emptied-length shape.files z (slots shape.most)

      go : (t : Bool) → get_or (set (set none_in (top_at shape 0) 0) (top_at shape 1) 0) (2 * shape.files + slots shape.most + cond t 1 2) 0 ≤ levels shape.most
      go true = rw (get_or-set_other (set none_in (top_at shape 0) 0) (top_at shape 1) (top_at shape 0) 0 0 (λ e. omega arith), get_or-set_same none_in (top_at shape 0) 0 0 (omega (arith, long))) (omega arith)
      go false = rw (get_or-set_same (set none_in (top_at shape 0) 0) (top_at shape 1) 0 0 (omega (arith, long, length-set none_in (top_at shape 0) 0))) (omega arith)

  stands-cleared : StandFor shape sides gains [] (cleared shape z)
  unfolding cleared ◌∈◌
  stands-cleared = record {
    fits = fits;
    gained = gained;
    room = simp (length-set, emptied-length) room;
    linked =
        set_past (top_at shape 1) 0 (top-past shape 1) (set_past (top_at shape 0) 0 (top-past shape 0)
        (empties shape.files (slots shape.most) (slot_in shape.most sides gains) z (omega (arith, top-past shape 1))));
    low = low-in;
    under = λ f m. absurd m;
  }

  abbrev pub is_free_in : ℕ → Bool
  is_free_in f = eqb (get_or marks f 0) 0

  pub stands-below : (n : ℕ) → n ≤ shape.files → StandFor shape sides gains (latest is_free_in n) (entered_below shape marks sides gains (cleared shape z) n)
  unfolding latest entered_below
  stands-below zero h = stands-cleared
  stands-below (suc n) h = go (is_free_in n) (stands-below n (omega arith))
    where
      go : (t : Bool) → StandFor shape sides gains (latest is_free_in n) (entered_below shape marks sides gains (cleared shape z) n)
          → StandFor shape sides gains (cond t (n ∷ latest is_free_in n) (latest is_free_in n))
          (cond t (entered_at shape (side_of sides n) (get_or gains n (pos 0)) n (entered_below shape marks sides gains (cleared shape z) n)) (entered_below shape marks sides gains (cleared shape z) n))
      go true ih = stands-entered ih n (λ m. omega (arith, latest-below is_free_in n n m)) (omega arith)
      go false ih = ih

  pub stands-all : StandFor shape sides gains (steps_by to_front [] (those (λ f. eqb (get_or marks f 0) 0) (up_to shape.files))) (entered_below shape marks sides gains (cleared shape z) shape.files)
  stands-all = rw (latest-is is_free_in shape.files) at (stands-below shape.files (omega arith))
