-- A scan where there is a kind, a recipe and a list of recipes treated: lists keep their length, scans and visits only grow,
-- so what fits at the end fits on the way; the counts that change lie above the locks. Assumes nothing.
use mathlib.Core.Path.{◌≡◌, refl, ◌∙◌}
use Prim.Native.Nat.{ℕ, ◌+◌, ◌*◌, ◌≤◌, ◌<◌, ◌^◌}
use mathlib.Core.List.{List}
use native.Mathlib.Omega.{arith}
use lib.IntN.{ℤ}
use lib.ListN.{length, length-set}
use Rattle.rules.specs.Move.{State}
use Rattle.split.specs.declared.scan.Way.{Way}
use Rattle.rules.proofs.GainKept.{scan-length}
use Rattle.tables.proofs.Parts.{part-set-above}
use Rattle.tables.specs.Zones.{part}
use Rattle.std.specs.Prelude.{Option, None, Some}
use Rattle.split.specs.Scanning.{visited_by, Scanned, scan_if, NearVisits, RoomFor, Fits, kinds_now, count_t, locked_t, count_f, Treated, recount, treat_one, Treatable}
use Rattle.split.proofs.ScanLaws.{scan-abs}

-- ---- what comes later: lists as long, and no fewer scans and visits

pub record Later (x y : Scanned) : Type 0 where
  pub gains : length y.gains ≡ length x.gains
  pub recipes : length y.recipes ≡ length x.recipes
  pub kinds : length y.kinds ≡ length x.kinds
  pub scans : x.progress.scans ≤ y.progress.scans
  pub visits : x.progress.visits ≤ y.progress.visits

pub later_same : (x : Scanned) → Later x x
later_same x = record { gains = refl; recipes = refl; kinds = refl; scans = omega arith; visits = omega arith }

pub later-then : {x y z : Scanned} → Later x y → Later y z → Later x z
later-then a b = record {
  gains = b.gains ∙ a.gains;
  recipes = b.recipes ∙ a.recipes;
  kinds = b.kinds ∙ a.kinds;
  scans = omega (arith, a.scans, b.scans);
  visits = omega (arith, a.visits, b.visits);
}

pub fits-earlier : {x y : Scanned} → Later x y → Fits y → Fits x
fits-earlier l f = record {
  recipes = omega (arith, l.scans, l.recipes, f.recipes);
  kinds = omega (arith, l.scans, l.kinds, f.kinds);
  visits = omega (arith, l.visits, f.visits);
}

-- the gains are within the visits made and some more
abbrev pub GainsNear : Scanned → Type 0
GainsNear x = NearVisits x.gains x.progress.visits

pub near-room : {gains : List ℤ} {visits : ℕ} (n : ℕ) → NearVisits gains visits → visits + n ≤ 2 ^ 30 → RoomFor gains n
near-room n h l f = omega (arith, h.near f)

-- ---- one scan

-- what a scan of a recipe of n files needs
pub record Scannable (x : Scanned) (n : ℕ) : Type 0 where
  pub recipes : x.progress.scans < length x.recipes
  pub kinds : x.progress.scans < length x.kinds
  pub visits : x.progress.visits + n ≤ 2 ^ 30

module _ (st : State) (t j : ℕ) (r : List ℕ) where
  pub scan-fits : {kind : Option ℕ} {k : ℕ} {x : Scanned} → kind ≡ Some k → Fits (scan_if st t j r kind x) → Scannable x (length r)
  scan-fits {k} {x} e fits = let f : Fits (scan_if st t j r (Some k) x) = rw e at fits in unfold scan_if visited_by in record {
    recipes = omega (arith, f.recipes, length-set x.recipes x.progress.scans j);
    kinds = omega (arith, f.kinds, length-set {A = ℕ});
    visits = f.visits;
  }

  pub later-if : (kind : Option ℕ) (x : Scanned) → Later x (scan_if st t j r kind x)
  unfolding scan_if visited_by
  later-if None x = later_same x
  later-if (Some kind) x = record {
    gains = scan-length st t kind r x.gains;
    recipes = length-set x.recipes x.progress.scans j;
    kinds = length-set x.kinds x.progress.scans kind;
    scans = omega arith;
    visits = omega arith;
  }

  pub near-if : (kind : Option ℕ) (x : Scanned) → GainsNear x → GainsNear (scan_if st t j r kind x)
  unfolding scan_if visited_by
  near-if None x h = h
  near-if (Some kind) x h = record { near = λ f. omega (arith, h.near f, scan-abs st t kind r x.gains f) }

-- ---- one recipe

module _ (way : Way) (j : ℕ) (z : List ℕ) where
  pub recount-length : length (recount way j z) ≡ length z
  unfolding recount
  recount-length = simp length-set

  -- what lies below the counts stays
  pub recount-part : {look : ℕ → List ℕ} {e : ℕ} (at n : ℕ) → at + n ≤ e → Treatable way look e z j → part at n (recount way j z) ≡ part at n z
  unfolding recount
  recount-part at n h t =
      part-set-above at n _ (way.there + j + 2 * way.recipes) (locked_t way j z + 1) (omega (arith, t.above))
      ∙ part-set-above at n _ (way.there + j) (count_t way j z + 1) (omega (arith, t.above))
      ∙ part-set-above at n z (way.left + j) (count_f way j z) (omega (arith, t.above))

module _ (st : State) (way : Way) (j : ℕ) (r z : List ℕ) (x : Scanned) where
  abbrev first : Scanned
  first = scan_if st way.side j r (kinds_now way j z).first x

  abbrev both_scans : Treated
  both_scans = treat_one st way j r (record { scratch = z; scanned = x })

  pub later-one : Later x both_scans.scanned
  unfolding treat_one
  later-one = later-then (later-if st way.side j r _ x) (later-if st way.side j r _ first)

  pub near-recipe : GainsNear x → GainsNear both_scans.scanned
  unfolding treat_one
  near-recipe h = near-if st way.side j r _ first (near-if st way.side j r _ x h)
