-- The walk of the balancing's choice over the files: the leader is the greatest of the files passed. Assumes nothing.
use mathlib.Core.Path.{◌≡◌, refl, sym, ap, ◌∙◌}
use Prim.Native.Nat.{ℕ, ◌+◌, ◌*◌, ◌≤◌, ◌<◌}
use native.Mathlib.Numerals.{add-one}
use native.Mathlib.Omega.{arith}
use mathlib.Core.Bool.{Bool, true, false, cond, ◌&&◌, ◌||◌}
use mathlib.Core.List.{List}
use mathlib.Core.Option.{Option, none, some}
use lib.Dec.{eqb}
use lib.IntN.{ℤ}
use lib.ListN.{length, take}
use borrow.Author.Tests.{le-leb, lt-leb, lt-ltb, le-ltb, eq-eqb, ne_eqb}
use Rattle.std.specs.Prelude.{Option as Option', Some, None, IfSome, IsSomeAnd}
use Rattle.rules.specs.Move.{distance, greater, challenge, first_below}
use Rattle.rules.proofs.Tests.{and-false}
use Rattle.rules.proofs.First.{first-ok}
use Rattle.choice.specs.declared.window.Window.{Window}
use Rattle.choice.specs.Choosing.{fit_files, file_or}
use Rattle.choice.specs.Heavy.{heavy_in, free_in, gain_in, leader_in, greatest_in, greatest_file}
use Rattle.choice.specs.Cases.{as_file}
use Rattle.choice.proofs.Fitting.{lengths-fit}

-- ---- the side to move from; d is the distance from the aim

module _ (w : Window) (size d : ℕ) (e : d ≡ distance (w.den * size) w.aim) where
  pub heavy-none : d ≤ w.span → 2 ≡ heavy_in w size
  heavy-none h = rw (← e, le-leb d w.span h) refl

  pub heavy-from-A : w.span < d → w.aim < w.den * size → 0 ≡ heavy_in w size
  heavy-from-A h l = rw (← e, lt-leb d w.span h, lt-ltb w.aim (w.den * size) l) refl

  pub heavy-from-B : w.span < d → w.den * size ≤ w.aim → 1 ≡ heavy_in w size
  heavy-from-B h l = rw (← e, lt-leb d w.span h, le-ltb w.aim (w.den * size) l) refl

-- ---- one file against the leader so far, one of n files or none

module _ (u : ℕ) (sides locks : List ℕ) (gains : List ℤ) (n f : ℕ) where
  abbrev now : Option' ℕ → ℕ
  now best = leader_in u sides locks gains n (as_file n best) f

  abbrev Ahead : Bool → ℕ → Type 0
  Ahead t best = greater (gain_in gains) f best ≡ t

  -- it is locked, or on the other side
  pub leader-stays : (best : Option' ℕ) → free_in u sides locks f ≡ false → as_file n best ≡ now best
  unfolding leader_in
  leader-stays best e = rw e refl

  -- it is the first of its kind, or has the greater gain
  pub leader-goes : (best : Option' ℕ) → IfSome best (λ best. best < n) → free_in u sides locks f ≡ true → IfSome best (Ahead true) → f ≡ now best
  unfolding leader_in
  leader-goes None h e g = rw (e, eq-eqb n n refl) refl
  leader-goes (Some best) h e g = rw (e, g, ne_eqb best n (λ q. omega arith)) refl

  pub leader-keeps : (best : Option' ℕ) → IfSome best (λ best. best < n) → IsSomeAnd best (Ahead false) → as_file n best ≡ now best
  unfolding leader_in
  leader-keeps None h g = absurd g
  leader-keeps (Some best) h g = rw (ne_eqb best n (λ q. omega arith), g, and-false (free_in u sides locks f)) refl

-- ---- the walk

lead-on : (ok : ℕ → Bool) (goes : ℕ → ℕ → Bool) (n : ℕ) (o : Option ℕ) (f : ℕ) → ((g : ℕ) → o ≡ some g → g < n)
    → cond (ok f && (eqb (file_or n o) n || goes f (file_or n o))) f (file_or n o) ≡ file_or n (challenge ok goes o f)
unfolding challenge
lead-on ok goes n none f h = rw (eq-eqb n n refl) (go (ok f))
  where
    go : (t : Bool) → cond (t && true) f n ≡ file_or n (cond t (some f) none)
    go true = refl
    go false = refl
lead-on ok goes n (some g) f h = rw (ne_eqb g n (λ e. absurd (omega (arith, h g refl)))) (go (ok f && goes f g))
  where
    go : (t : Bool) → cond t f g ≡ file_or n (cond t (some f) (some g))
    go true = refl
    go false = refl

or-few : (n : ℕ) (o : Option ℕ) → ((g : ℕ) → o ≡ some g → g < n) → file_or n o ≤ n
or-few n none h = omega arith
or-few n (some g) h = omega (arith, h g refl)

-- the files below f are passed, and best leads them
pub record Led (u : ℕ) (sides locks : List ℕ) (gains : List ℤ) (n f best : ℕ) : Type 0 where
  pub few : f ≤ n
  pub leads : best ≡ file_or n (greatest_in u sides locks gains f)

module _ (u : ℕ) (sides locks : List ℕ) (gains : List ℤ) where
  greatest-below : (f g : ℕ) → greatest_in u sides locks gains f ≡ some g → g < f
  unfolding greatest_in
  greatest-below f g e = (first-ok (free_in u sides locks) (greater (gain_in gains)) f g e).0

module _ {u : ℕ} {sides locks : List ℕ} {gains : List ℤ} {n : ℕ} where
  pub led-none : Led u sides locks gains n 0 n
  unfolding greatest_in first_below
  led-none = record { few = omega arith; leads = refl }

  module _ {f best : ℕ} (l : Led u sides locks gains n f best) where
    pub led-few : best ≤ n
    led-few = rw l.leads (or-few n (greatest_in u sides locks gains f) (λ g e. omega (arith, greatest-below u sides locks gains f g e, l.few)))

    pub led-more : {best' : ℕ} → f < n → best' ≡ leader_in u sides locks gains n best f → Led u sides locks gains n (f + 1) best'
    unfolding leader_in greatest_in first_below
    led-more h e = record {
      few = omega arith;
      leads =
          rw (add-one f)
          (e ∙ ap (λ (x : ℕ). leader_in u sides locks gains n x f) l.leads
          ∙ lead-on (free_in u sides locks) (greater (gain_in gains)) n (first_below (free_in u sides locks) (greater (gain_in gains)) f) f (λ g q. omega (arith, greatest-below u sides locks gains f g q, l.few)));
    }

    pub led-all : n ≤ f → best ≡ file_or n (greatest_in u sides locks gains n)
    led-all h =
        let e : f ≡ n = omega (arith, l.few) in
        rw e at l.leads

-- ---- lists that fit, and others

module _ (u : ℕ) (sides scratch : List ℕ) (gains : List ℤ) where
  abbrev fit : Bool
  fit = fit_files (length sides) (length scratch) (length gains)

  is-greatest : {t : Bool} → fit ≡ t → greatest_file u sides scratch gains
      ≡ cond t (file_or (length sides) (greatest_in u sides (take (length sides) scratch) gains (length sides))) (length sides)
  unfolding greatest_file
  is-greatest e = ap (λ (t : Bool). cond t (file_or (length sides) (greatest_in u sides (take (length sides) scratch) gains (length sides))) (length sides)) e

  pub greatest-unfit : fit ≡ false → length sides ≡ greatest_file u sides scratch gains
  greatest-unfit e = sym (is-greatest e)

  pub greatest-fit : length gains ≡ length sides → length sides ≤ length scratch
      → greatest_file u sides scratch gains ≡ file_or (length sides) (greatest_in u sides (take (length sides) scratch) gains (length sides))
  greatest-fit g h = is-greatest (lengths-fit g h)
