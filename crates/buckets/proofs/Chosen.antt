-- The choice among the offers is edition 2's: each vault's front file, rejected if its move is not legal, and of two the first. Assumes nothing.
use Rattle.std.specs.Prelude.{Option as Option', Some, None, IfSome, not, ◌&&◌, ◌||◌}
use mathlib.Core.Path.{◌≡◌, refl}
use Prim.Native.Nat.{ℕ, ◌<◌}
use mathlib.Core.Bool.{Bool, true, false, cond}
use mathlib.Core.List.{List}
use mathlib.Core.Option.{Option, none, some}
use native.Mathlib.Omega.{arith}
use lib.ListN.{get_or}
use lib.Dec.{leb, ltb}
use lib.IntN.{ℤ, pos}
use lib.Signed.{lt_z}
use borrow.Author.Tests.{eq-eqb, ne_eqb, le-leb, lt-leb, ltb-true, ltb-false}
use Rattle.rules.specs.Move.{better}
use Rattle.rules.specs.Fronts.{unless_rejected, of_two}
use Rattle.choice.specs.declared.window.Window.{Window}
use Rattle.choice.specs.declared.edition1.Best.{Best}
use Rattle.choice.specs.Choosing.{file_or, dist_in}
use Rattle.choice.specs.Best.{best_is, best_of}
use Rattle.choice.specs.Cases.{as_best}
use Rattle.choice.proofs.StandsAt.{leb-ltb}
use Rattle.buckets.specs.declared.slots.Shape.{Shape}
use Rattle.buckets.specs.Slots.{fits_in}
use Rattle.buckets.specs.Offers.{front_in, no_best, offer_of, first_of, chosen_is, chosen_front, if_file, offered, first_offered}

module _ (w : Window) (size : ℕ) (sizes sides : List ℕ) (gains : List ℤ) (n : ℕ) where
  abbrev gain : ℕ → ℤ
  gain f = get_or gains f (pos 0)

  abbrev dist : ℕ → ℕ
  dist f = dist_in w size sizes sides f

  abbrev best : Option ℕ → Best
  best o = best_of gain dist n o

  -- o is no file, or one below n
  abbrev Below : Option ℕ → Type 0
  Below o = (f : ℕ) → o ≡ some f → f < n

  pub offer-is : (ok : ℕ → Bool) (o : Option ℕ) → Below o → ((f : ℕ) → o ≡ some f → ok f ≡ leb (dist f) w.span)
      → offer_of w size sizes sides gains n (file_or n o) ≡ best (unless_rejected ok o)
  unfolding offer_of
  offer-is ok none h e = rw (le-leb n n (omega arith)) refl
  offer-is ok (some f) h e = rw (lt-leb n f (h f refl), e f refl) (go (ltb w.span (dist f)) refl)
    where
      go : (t : Bool) → ltb w.span (dist f) ≡ t → cond t (no_best n) (best_is f (gain f) (dist f)) ≡ best (cond (leb (dist f) w.span) (some f) none)
      go true q = rw (lt-leb (dist f) w.span (ltb-true w.span (dist f) q)) refl
      go false q = rw (le-leb (dist f) w.span (ltb-false w.span (dist f) q)) refl

  pub first-is : (goes : ℕ → ℕ → Bool) (a b : Option ℕ) → Below a → Below b → ((f g : ℕ) → a ≡ some f → b ≡ some g → goes g f ≡ better gain dist g f)
      → first_of n (best a) (best b) ≡ best (of_two goes a b)
  unfolding first_of
  first-is goes none none h k e = rw (eq-eqb n n refl) refl
  first-is goes none (some g) h k e = rw (ne_eqb g n (λ q. omega (arith, k g refl)), eq-eqb n n refl) refl
  first-is goes (some f) none h k e = rw (eq-eqb n n refl) refl
  first-is goes (some f) (some g) h k e = rw (ne_eqb g n (λ q. omega (arith, k g refl)), ne_eqb f n (λ q. omega (arith, h f refl)), e f g refl refl) (go (better gain dist g f))
    where
      go : (t : Bool) → cond t (best_is g (gain g) (dist g)) (best_is f (gain f) (dist f)) ≡ best (cond t (some g) (some f))
      go true = refl
      go false = refl

-- ---- the same as src/ has it

module _ (w : Window) (size : ℕ) (sizes sides : List ℕ) (gains : List ℤ) where
  abbrev pub OfFile : ℕ → Option' Best → Type 0
  OfFile n r = IfSome r (λ best. best.file < n)

  -- no file, no offer
  pub no-offer : (n f : ℕ) → if_file n f ≡ None → no_best n ≡ offer_of w size sizes sides gains n f
  unfolding offer_of
  no-offer n f e = go (ltb f n) refl e
    where
      go : (t : Bool) → ltb f n ≡ t → cond t (Some f) None ≡ None
          → no_best n ≡ cond (leb n f || ltb w.span (dist_in w size sizes sides f)) (no_best n) (best_is f (get_or gains f (pos 0)) (dist_in w size sizes sides f))
      go true e q = cc
      go false e q = rw (le-leb n f (ltb-false f n e)) refl

  pub made-offer : (n f g : ℕ) → if_file n f ≡ Some g → (as_best n (offered w size sizes sides gains g) ≡ offer_of w size sizes sides gains n f) × OfFile n (offered w size sizes sides gains g)
  unfolding offer_of
  made-offer n f g e = go (ltb f n) refl e
    where
      d : ℕ
      d = dist_in w size sizes sides f

      by : (t : Bool) → f < n → (as_best n (cond (not t) (Some (best_is f (get_or gains f (pos 0)) d)) None) ≡ cond t (no_best n) (best_is f (get_or gains f (pos 0)) d))
          × OfFile n (cond (not t) (Some (best_is f (get_or gains f (pos 0)) d)) None)
      by true l = (refl, tt)
      by false l = (refl, l)

      go : (t : Bool) → ltb f n ≡ t → cond t (Some f) None ≡ Some g → (as_best n (offered w size sizes sides gains g)
          ≡ cond (leb n f || ltb w.span (dist_in w size sizes sides f)) (no_best n) (best_is f (get_or gains f (pos 0)) (dist_in w size sizes sides f))) × OfFile n (offered w size sizes sides gains g)
      go true e q =
          let l = ltb-true f n e in
          let same : f ≡ g = cc in
          rw (← same, lt-leb n f l, leb-ltb (dist_in w size sizes sides f) w.span) (by (ltb w.span (dist_in w size sizes sides f)) l)
      go false e q = cc

  first-made : (n : ℕ) (a b : Option' Best) → OfFile n a → OfFile n b → (as_best n (first_offered a b) ≡ first_of n (as_best n a) (as_best n b)) × OfFile n (first_offered a b)
  unfolding first_of
  first-made n None None h k = rw (eq-eqb n n refl) (refl, tt)
  first-made n None (Some b) h k = rw (ne_eqb b.file n (λ q. omega arith), eq-eqb n n refl) (refl, k)
  first-made n (Some a) None h k = rw (eq-eqb n n refl) (refl, h)
  first-made n (Some a) (Some b) h k = rw (ne_eqb b.file n (λ q. omega arith), ne_eqb a.file n (λ q. omega arith)) (go (lt_z a.gain b.gain || (not (lt_z b.gain a.gain) && ltb b.dist a.dist)))
    where
      go : (t : Bool) → (as_best n (cond t (Some b) (Some a)) ≡ cond t b a) × OfFile n (cond t (Some b) (Some a))
      go true = (refl, k)
      go false = (refl, h)

  -- A is asked first, B in what that left
  pub chosen-made : (shape : Shape) (z : List ℕ) {y x : List ℕ} (a b : Option' Best) → fits_in shape ≡ true → y ≡ (front_in shape 0 z).links → x ≡ (front_in shape 1 y).links
      → as_best shape.files a ≡ offer_of w size sizes sides gains shape.files (front_in shape 0 z).file → as_best shape.files b ≡ offer_of w size sizes sides gains shape.files (front_in shape 1 y).file
      → OfFile shape.files a → OfFile shape.files b
      → (chosen_is (as_best shape.files (first_offered a b)) x ≡ chosen_front shape w size sizes sides gains z) × OfFile shape.files (first_offered a b)
  unfolding chosen_front
  chosen-made shape z a b fit ey ex oa ob fa fb =
      let made = first-made shape.files a b fa fb in
      (rw (fit, made.0, oa, ob, ex, ey) refl, made.1)

-- a file that is not rejected is the one considered
pub still : (ok : ℕ → Bool) (o : Option ℕ) (f : ℕ) → unless_rejected ok o ≡ some f → o ≡ some f
still ok none f e = e
still ok (some g) f e = go (ok g) e
  where
    go : (t : Bool) → cond t (some g) none ≡ some f → some g ≡ some f
    go true q = q
    go false q = let z : ◌≡◌ {A = ℕ} 0 1 = cc in absurd (omega arith)
