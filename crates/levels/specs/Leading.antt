-- The best legal move so far and its rivals, as the code of edition 3's choice keeps them. Assumes nothing.
use Rattle.std.specs.Prelude.{◌≡◌, ℕ, ◌≤◌, ◌<◌, Bool, true, false, not, cond, ◌&&◌, ◌||◌, List, length, get_or, take, leb, ltb, eqb, ℤ, pos, Option, Some, None, MatchOption}
use Rattle.std.proofs.Math.Option.{Option as File, none, some}
use Rattle.std.specs.Int.Signed.{lt_z, le_z}
use Rattle.rules.specs.Levels.{greater_vector}
use Rattle.tables.specs.declared.zones.Extent.{Extent}
use Rattle.choice.specs.declared.window.Window.{Window}
use Rattle.choice.specs.declared.window.Standing.{Standing}
use Rattle.choice.specs.declared.edition1.Best.{Best}
use Rattle.choice.specs.Choosing.{dist_in}
use Rattle.choice.specs.Best.{best_is}
use Rattle.choice.specs.Reaching.{least_gain}
use Rattle.levels.specs.declared.edition3.Led.{Led}
use Rattle.levels.specs.declared.edition3.Rival.{Rival}
use Rattle.levels.specs.Vectors.{vector_in, chosen_vector, fit_vectors}

abbrev pub led_is : ℕ → List ℤ → ℕ → Led
led_is f vector dist = record { file = f; vector = vector; dist = dist }

abbrev pub rival_is : ℕ → ℕ → Rival
rival_is f dist = record { file = f; dist = dist }

-- the rival goes before the best so far, which is of lower number
abbrev pub goes_first : Led → Led → Bool
goes_first r b = greater_vector r.vector b.vector || (not (greater_vector b.vector r.vector) && ltb r.dist b.dist)

-- there is none yet, or the rival goes before it
abbrev pub leads : Led → Option Led → Led
leads r None = r
leads r (Some b) = cond (goes_first r b) r b

-- while there is no best so far, no gain is below this
abbrev pub least_of : Option Led → ℤ
least_of None = least_gain
least_of (Some b) = get_or b.vector 0 (pos 0)

-- f is free, its gain is no less than this, and its move is legal
abbrev pub is_rival : Window → ℕ → ℤ → List ℕ → List ℕ → List ℤ → List ℕ → ℕ → Bool
is_rival w size bar sizes sides gains locks f = (eqb (get_or locks f 0) 0 && le_z bar (get_or gains f (pos 0))) && leb (dist_in w size sizes sides f) w.span

-- f as a rival
abbrev pub rival_in : Window → ℕ → ℤ → Standing → List ℕ → ℕ → Option Rival
rival_in w size bar s scratch f =
    cond (is_rival w size bar s.sizes.now s.sides.now s.gains.now scratch f) (Some (rival_is f (dist_in w size s.sizes.now s.sides.now f))) None

-- no file from this one up to f is, and none has a gain below the least that there can be
pub record Passed (w : Window) (size : ℕ) (bar : ℤ) (sizes sides : List ℕ) (gains : List ℤ) (locks : List ℕ) (from f : ℕ) : Type 0 where
  pub least : from ≤ f
  pub most : f ≤ length sizes
  pub each : (g : ℕ) → from ≤ g → g < f → (is_rival w size bar sizes sides gains locks g ≡ false) × (lt_z (get_or gains g (pos 0)) least_gain ≡ false)

-- the rival is the first from this file on, with its distance
pub record FirstRival (w : Window) (size : ℕ) (bar : ℤ) (sizes sides : List ℕ) (gains : List ℤ) (locks : List ℕ) (from : ℕ) (r : Rival) : Type 0 where
  pub passed : Passed w size bar sizes sides gains locks from r.file
  pub file : r.file < length sizes
  pub rival : is_rival w size bar sizes sides gains locks r.file ≡ true
  pub dist : r.dist ≡ dist_in w size sizes sides r.file

-- r is the first from this file on, none where there is none
abbrev pub NextRival : Window → ℕ → ℤ → Standing → List ℕ → ℕ → Option Rival → Type 0
NextRival w size bar s scratch from r =
    let n = length s.sizes.now in
    MatchOption r (Passed w size bar s.sizes.now s.sides.now s.gains.now (take n scratch) from n) (FirstRival w size bar s.sizes.now s.sides.now s.gains.now (take n scratch) from)

-- what is kept of the best so far
abbrev pub led_of : ℕ → ℕ → ℕ → Window → ℕ → List ℕ → List ℕ → List ℤ → List ℕ → File ℕ → Option Led
led_of c n p w size sizes sides gains z none = None
led_of c n p w size sizes sides gains z (some f) = Some (led_is f (vector_in c n p sides gains z f) (dist_in w size sizes sides f))

-- of the files of a pass of this extent
abbrev pub led_in : Extent → Window → ℕ → Standing → List ℕ → Option Led
led_in x w size s z =
    led_of x.files x.recipes x.pins w size s.sizes.now s.sides.now s.gains.now z
    (chosen_vector x.files x.recipes x.pins w size s.sizes.now s.sides.now s.gains.now z x.files)

-- the lists are those of such a pass
abbrev pub fits_in : Extent → Standing → ℕ → Bool
fits_in x s scratch = fit_vectors x.files x.recipes x.pins (length s.sizes.now) (length s.sides.now) (length s.gains.now) scratch

-- what is answered of it
abbrev pub best_by : Led → Best
best_by b = best_is b.file (get_or b.vector 0 (pos 0)) b.dist
