-- What each public call leaves and answers where the links stand for an order. Assumes nothing.
use mathlib.Core.Path.{◌≡◌, refl, sym, ap, ap₂, ◌∙◌}
use mathlib.Core.Logic.{inl, inr}
use Prim.Native.Nat.{ℕ, ◌+◌, ◌≤◌, ◌<◌}
use mathlib.Core.Bool.{Bool, true, false}
use mathlib.Core.List.{List, [], ◌∷◌}
use mathlib.Core.Option.{Option, some}
use native.Mathlib.Omega.{arith}
use lib.ListN.{length, get_or, set}
use lib.Dec.{leb, eqb}
use lib.IntN.{ℤ, pos}
use borrow.Author.Tests.{lt-ltb, eqb-true, eqb-false}
use Rattle.rules.specs.Lists.{bit, total, count, those, up_to}
use Rattle.rules.specs.Split.{times, side_of}
use Rattle.rules.specs.Move.{steps_by, better}
use Rattle.rules.specs.Fronts.{without, to_front, unless_rejected, of_two}
use Rattle.choice.specs.declared.window.Window.{Window}
use Rattle.choice.specs.Choosing.{file_or, dist_in}
use Rattle.choice.specs.Best.{best_of}
use Rattle.buckets.specs.declared.slots.Shape.{Shape}
use Rattle.buckets.specs.Slots.{top_at, Fits}
use Rattle.buckets.specs.Entries.{entered_all, taken_out, brought_front}
use Rattle.buckets.specs.Offers.{offer_of, first_of, chosen_front}
use Rattle.buckets.specs.StandFor.{◌∈◌, StandFor}
use Rattle.buckets.proofs.Upkeep.{stands-left, stands-front, stands-found}
use Rattle.buckets.proofs.Starts.{stands-all}
use Rattle.buckets.proofs.Found.{Known, front_for, front-found, found-held}
use Rattle.buckets.proofs.Chosen.{offer-is, first-is, still}

-- ---- a number that stands in a list, counted

pub in-times : (f : ℕ) (xs : List ℕ) → f ∈ xs → 1 ≤ times f xs
unfolding times count total ◌∈◌
in-times f [] m = elim m [ ]
in-times f (x ∷ xs) m = go (eqb x f) refl m (in-times f xs)
  where
    go : (t : Bool) → eqb x f ≡ t → (f ∈ x ∷ xs) → (f ∈ xs → 1 ≤ times f xs) → 1 ≤ bit t + times f xs
    go true e m ih = omega arith
    go false e (inl q) ih = absurd (eqb-false x f e (sym q))
    go false e (inr k) ih = omega (arith, ih k)

pub times-in : (f : ℕ) (xs : List ℕ) → 1 ≤ times f xs → f ∈ xs
unfolding times count total ◌∈◌
times-in f [] h = absurd (omega arith)
times-in f (x ∷ xs) h = go (eqb x f) refl h (times-in f xs)
  where
    go : (t : Bool) → eqb x f ≡ t → 1 ≤ bit t + times f xs → (1 ≤ times f xs → f ∈ xs) → f ∈ x ∷ xs
    go true e h ih = inl (sym (eqb-true x f e))
    go false e h ih = inr (ih (omega arith))

-- ---- entering and leaving

-- the free files enter in rising number, each at the front
pub enters-all : (shape : Shape) (marks sides : List ℕ) (gains : List ℤ) (z : List ℕ) → Fits shape → shape.files ≤ length gains → top_at shape 1 < length z
    → StandFor shape sides gains (steps_by to_front [] (those (λ f. eqb (get_or marks f 0) 0) (up_to shape.files))) (entered_all shape marks sides gains z)
unfolding entered_all
enters-all shape marks sides gains z fits gained room = rw (lt-ltb _ 65536 fits) (stands-all shape marks sides gains z fits gained room)

module _ {shape : Shape} {sides : List ℕ} {gains : List ℤ} {order z : List ℕ} (s : StandFor shape sides gains order z) where
  pub takes_out : (f : ℕ) → f ∈ order → StandFor shape sides gains (without order f) (taken_out shape f z)
  unfolding taken_out
  takes_out f held = rw (lt-ltb _ 65536 s.fits) (stands-left s f held)

  pub brings-front : (f : ℕ) → f ∈ order → (gain : ℤ) → StandFor shape sides (set gains f gain) (to_front order f) (brought_front shape (side_of sides f) gain f z)
  unfolding brought_front
  brings-front f held gain = rw (lt-ltb _ 65536 s.fits) (stands-front s f held gain)

  -- ---- the choice

  module _ (w : Window) (size : ℕ) (sizes : List ℕ) where
    pub stands-chosen : StandFor shape sides gains order (chosen_front shape w size sizes sides gains z).links
    unfolding chosen_front
    stands-chosen = rw (lt-ltb _ 65536 s.fits) (stands-found (stands-found s 0) 1)

    -- gain and dist are those of the files, and ok says which of them may move
    module _ (gain : ℕ → ℤ) (dist : ℕ → ℕ) (ok : ℕ → Bool) (k : Known shape sides gains order gain)
        (near : (f : ℕ) → f ∈ order → dist_in w size sizes sides f ≡ dist f) (legal : (f : ℕ) → f ∈ order → ok f ≡ leb (dist f) w.span) where
      abbrev offered : ℕ → Option ℕ
      offered u = unless_rejected ok (front_for shape sides gain order u)

      pub answers-chosen : (chosen_front shape w size sizes sides gains z).best
          ≡ best_of (λ f. get_or gains f (pos 0)) (dist_in w size sizes sides) shape.files (of_two (better gain dist) (offered 0) (offered 1))
      unfolding chosen_front
      answers-chosen =
          rw (lt-ltb _ 65536 s.fits)
          (ap₂ (first_of shape.files) (made 0 (front-found s k 0 (omega arith))) (made 1 (front-found (stands-found s 0) k 1 (omega arith)))
          ∙ first-is w size sizes sides gains shape.files (better gain dist) (offered 0) (offered 1) (below 0) (below 1) goes)
        where
          front : ℕ → Option ℕ
          front u = front_for shape sides gain order u

          held : (u f : ℕ) → front u ≡ some f → f ∈ order
          held u f e = found-held shape sides gain order u f e

          below : (u f : ℕ) → offered u ≡ some f → f < shape.files
          below u f e = (s.linked.known f (held u f (still ok (front u) f e))).0

          made : (u : ℕ) {file : ℕ} → file ≡ file_or shape.files (front u)
              → offer_of w size sizes sides gains shape.files file ≡ best_of (λ f. get_or gains f (pos 0)) (dist_in w size sizes sides) shape.files (offered u)
          made u e = ap (offer_of w size sizes sides gains shape.files) e
              ∙ offer-is w size sizes sides gains shape.files ok (front u) (λ f q. (s.linked.known f (held u f q)).0) (λ f q. rw (near f (held u f q)) (legal f (held u f q)))

          goes : (f g : ℕ) → offered 0 ≡ some f → offered 1 ≡ some g → better gain dist g f ≡ better (λ f. get_or gains f (pos 0)) (dist_in w size sizes sides) g f
          goes f g a b =
              let m = held 0 f (still ok (front 0) f a) in
              let n = held 1 g (still ok (front 1) g b) in
              rw (k.listed f m, k.listed g n, near f m, near g n) refl
