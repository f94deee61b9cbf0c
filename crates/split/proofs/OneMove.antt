-- One move, put together from what the code's steps answer. Assumes nothing.
use mathlib.Core.Path.{◌≡◌, refl, sym, ap, ap₂, subst, ◌∙◌}
use Prim.Native.Nat.{ℕ, ◌-◌, ◌≤◌}
use mathlib.Core.List.{List}
use native.Mathlib.Omega.{arith}
use lib.ListN.{length, get_or, set, take, length-set}
use lib.Seq.{get_or-set_same}
use lib.IntN.{ℤ, pos}
use Rattle.rules.specs.Job.{view_of}
use Rattle.rules.specs.Split.{side_of}
use Rattle.split.specs.declared.progress.Progress.{Progress}
use Rattle.split.specs.declared.scan.Way.{Way}
use Rattle.tables.specs.declared.zones.Extent.{Extent}
use Rattle.tables.specs.Zones.{part, state_of, start_in, end_in, cells_of, extent_of}
use Rattle.split.specs.Scanning.{NearVisits, Fits, Treated, treated, treat_all, Ready}
use Rattle.tables.specs.Ending.{turned}
use Rattle.split.specs.Moving.{shifted_to, shift_of, counted_on, way_to, Locked, Board, board, treat_from, treat_move, move_one}
use Rattle.split.specs.Movable.{Movable}
use Rattle.tables.proofs.Parts.{part-set-below}

-- ---- the recipes of the moved file

-- what the code hands on is what the definition says
pub record HandedOn (sizes bounds pins : List ℕ) (f : ℕ) (sides : List ℕ) (y : Treated)
    (x : Extent) (side : ℕ) (sides' z : List ℕ) (a e : ℕ) (way : Way) (q : Progress) : Type 0 where
  pub turn : (side ≡ 1 - side_of sides f) × (sides' ≡ turned sides f)
  pub extent : x ≡ extent_of (length sizes) (length bounds - 1) (length pins)
  pub lock : Locked x.files x.pins f y.scratch z a e
  pub to : way ≡ way_to x.files x.recipes x.pins side
  pub shift : q ≡ shift_of sizes sides y.scanned.gains f y.scanned.progress

-- what `treat_all` asks
pub record Treatings (sides : List ℕ) (gains : List ℤ) (q : Progress) (way : Way) (a e : ℕ) (look : ℕ → List ℕ) (z : List ℕ) (end : Treated) : Type 0 where
  pub two_sides : way.side ≤ 1
  pub cells_in_scratch : (way.files ≤ a) × (a ≤ e) × (e ≤ length z)
  pub a_gain_each : (length gains ≡ way.files) × (length sides ≡ way.files)
  pub ready : Ready way look e (part a (e - a) z) z
  pub near_visits : NearVisits gains q.visits
  pub fits : Fits end.scanned

module _ {sizes bounds pins : List ℕ} {f : ℕ} {sides : List ℕ} {y : Treated} {x : Extent} {side : ℕ} {sides' z : List ℕ} {a e : ℕ} {way : Way} {q : Progress}
    (m : Movable sizes bounds pins f sides y) (h : HandedOn sizes bounds pins f sides y x side sides' z a e way q) where
  -- the scratch with the file's lock set
  abbrev locked : List ℕ
  locked = set y.scratch f 1

  abbrev look : ℕ → List ℕ
  look = view_of bounds pins

  lock : Locked (length sizes) (length pins) f y.scratch z a e
  lock = subst (λ (x : Extent). Locked x.files x.pins f y.scratch z a e) h.extent h.lock

  -- the side moved to
  to_side : side_of (turned sides f) f ≡ side
  to_side = get_or-set_same sides f (1 - side_of sides f) 0 (omega (arith, m.file, m.sides_long)) ∙ sym h.turn.0

  to : way ≡ way_to (length sizes) (length bounds - 1) (length pins) (side_of (turned sides f) f)
  to = h.to ∙ ap₂ (λ (x : Extent) (u : ℕ). way_to x.files x.recipes x.pins u) h.extent (sym to_side)

  -- the lock lies below the cells
  cells : part a (e - a) locked ≡ cells_of (length sizes) (length pins) y.scratch f
  cells =
      let k : e - a ≡ end_in (length sizes) (length pins) y.scratch f - start_in (length sizes) (length pins) y.scratch f
      = omega (arith, lock.first, lock.last) in
      part-set-below a (e - a) y.scratch f 1 (omega (arith, m.file, lock.first))
      ∙ ap₂ (λ (i n : ℕ). part i n y.scratch) lock.first k

  -- what the code treats, of the scratch as it is then
  abbrev treats : List ℕ → Treated
  treats z = treat_all (state_of sides' (take way.files z)) way look (part a (e - a) z) (treated z y.scanned.gains y.scanned.recipes y.scanned.kinds q)

  pub treats-from : treats z ≡ treat_from sizes bounds pins f sides y
  unfolding treat_from way_to
  treats-from = ap treats lock.held ∙ rw (cells, to, h.turn.1, h.shift)

  zones : (way.files ≡ length sizes) × (way.side ≡ side)
  unfolding way_to
  zones = (ap (λ (w : Way). w.files) to, ap (λ (w : Way). w.side) to ∙ to_side)

  -- all that the call asks
  pub treats-safe : Treatings sides' y.scanned.gains q way a e (view_of bounds pins) z (treats z)
  treats-safe =
      let long : length (turned sides f) ≡ length sizes = length-set sides f (1 - side_of sides f) ∙ m.sides_long in
      let visits : q.visits ≡ y.scanned.progress.visits = ap (λ (p : Progress). p.visits) h.shift ∙ (unfold shifted_to in refl) in
      let same : length z ≡ length y.scratch = ap length lock.held ∙ length-set y.scratch f 1 in
      let ready : Ready way look e (part a (e - a) locked) locked = rw (cells, to, lock.last) m.ready in
      record {
        two_sides = omega (arith, zones, h.turn.0);
        cells_in_scratch = omega (arith, zones, lock.first, lock.last, m.order, m.inside, m.scratch_long, same);
        a_gain_each = (m.gains_long ∙ sym zones.0, ap length h.turn.1 ∙ long ∙ sym zones.0);
        ready = subst (λ (u : List ℕ). Ready way look e (part a (e - a) u) u) (sym lock.held) ready;
        near_visits = rw visits m.room;
        fits = subst (λ (x : Treated). Fits x.scanned) (sym treats-from) m.fits;
      }

-- ---- the board

pub steps-move : (sizes bounds pins : List ℕ) (f : ℕ) (b : Board) {sides : List ℕ} {gained : List ℤ} {y : Treated} {r : Progress}
    → (let k = b.rest.scanned.progress.moves in
    sides ≡ turned b.sides f → gained ≡ set b.gained k (get_or b.rest.scanned.gains f (pos 0)) → y ≡ treat_move sizes bounds pins f b → r ≡ counted_on y.scanned.progress
    → board sides (set b.tried k f) gained (set b.cuts k y.scanned.progress.cut) (set b.ends k y.scanned.progress.scans)
    y.scratch y.scanned.gains y.scanned.recipes y.scanned.kinds r ≡ move_one sizes bounds pins f b)
unfolding move_one
steps-move sizes bounds pins f b d g e w = rw (d, g, w, e)
