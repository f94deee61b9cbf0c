-- The move of the chosen file: what its code may count on, and what it leaves. Assumes nothing.
use mathlib.Core.Path.{◌≡◌, sym, ap, ap₂, ◌∙◌, subst}
use Prim.Native.Nat.{ℕ, suc, ◌+◌, ◌*◌, ◌≤◌, ◌<◌}
use mathlib.Core.Bool.{true, false}
use mathlib.Core.List.{List, [], ◌∷◌, ◌++◌, map, map-append, append-nil}
use native.Mathlib.Omega.{arith}
use lib.IntN.{pos}
use lib.ListN.{length, get_or, take, set, length-set, length-append, length-map}
use lib.Seq.{get_or-set_same, get_or-set_other, take-set-lt, drop-set-lt}
use Rattle.rules.specs.Lists.{AllBelow, onto}
use Rattle.rules.specs.Job.{Job, file_count, recipe_count, pin_count, view_of, view, views, is_read, recipes, Lent, scratch_for, fits}
use Rattle.rules.specs.Split.{other, side_of, recipes_of, cut}
use Rattle.rules.specs.Move.{State, free, moved, Scan, scans_of, scans, visits}
use Rattle.rules.proofs.Count.{get_d-tabled, total-append}
use Rattle.rules.proofs.Entries.{onto-length}
use Rattle.rules.proofs.SoundJob.{bound-le, view-length, view-below, recipe-at, recipes-distinct, recipes-length}
use Rattle.rules.proofs.NeverFree.{read_short, unread-locked, scans-whole}
use Rattle.rules.proofs.Steps.{scans-append}
use Rattle.split.specs.declared.progress.Progress.{Progress}
use Rattle.tables.specs.Zones.{cells_at, counts_at, side_at, part, state_in, end_in, cells_of, Counts}
use Rattle.split.specs.Scanning.{Treated, treated, treat_all, Fits, Ready}
use Rattle.choice.specs.Choosing.{size_by}
use Rattle.tables.specs.Ending.{turned}
use Rattle.split.specs.Moving.{Board, cut_by, shifted_to, counted_on, way_to, treat_from, treat_move, move_one}
pub use Rattle.split.specs.Passing.{MoveFits}
use Rattle.split.specs.Movable.{Movable}
use Rattle.split.proofs.Playable.{Small}
use Rattle.split.proofs.Going.{links_from, begins, made, stands, Line, Going}
use Rattle.split.proofs.Treats.{Shifted, MoveTreated}
use Rattle.rules.proofs.Fits.{LongEnough, long-enough}
use Rattle.split.proofs.Bounds.{BoardLong, board-long, cut-few, Safe, safe}
use Rattle.split.proofs.NextBoard.{goes_on}
use Rattle.split.proofs.NextMove.{Next}
use Rattle.split.proofs.Recount.{beside-entry, beside-part}
use Rattle.tables.proofs.Parts.{part-set-below}
use Rattle.tables.proofs.Sides.{side-from}
use Rattle.tables.proofs.LentParts.{cells_same}
use Rattle.split.proofs.Treating.{way_of, TreatedMove, move-treated, move-ready}

-- ---- one entry set, seen from elsewhere in the list

counts-set : {rs : List (List ℕ)} {st : State} {at n : ℕ} {z : List ℕ} (i v : ℕ) → i < at → Counts rs st at n z → Counts rs st at n (set z i v)
counts-set {rs} {st} {at} {n} {z} i v h c = record {
  each = λ j l. record {
    on = λ u m. get_or-set_other z i (side_at at n u + j) v 0 (λ e. omega (arith, side-from at n u)) ∙ (c.each j l).on u m;
    locked = λ u m. get_or-set_other z i (side_at at n u + j + 2 * n) v 0 (λ e. omega (arith, side-from at n u)) ∙ (c.each j l).locked u m;
  };
}

module _ {job : Job} {ms : List ℕ} (v : Line job ms) (small : Small job) {l : Lent} (ok : fits 1 job l ≡ true) {k f : ℕ} {b : Board} (g : Going job ms l k b) (x : Next job ms k f) where
  abbrev rs : List (List ℕ)
  rs = recipes job

  -- the recipes as the scans walk them, whole
  abbrev ws : List (List ℕ)
  ws = views job

  abbrev st : State
  st = stands job ms k

  abbrev c : ℕ
  c = file_count job

  abbrev n : ℕ
  n = recipe_count job

  abbrev p : ℕ
  p = pin_count job

  abbrev z : List ℕ
  z = b.rest.scratch

  abbrev locked : List ℕ
  locked = set z f 1

  abbrev treat_begun : Treated
  treat_begun = treated locked b.rest.scanned.gains b.rest.scanned.recipes b.rest.scanned.kinds
      (shifted_to b.rest.scanned.progress (size_by b.rest.scanned.progress.size (side_of b.sides f) (get_or job.sizes f 0))
      (cut_by b.rest.scanned.progress.cut (get_or b.rest.scanned.gains f (pos 0))))

  sees : (j : ℕ) → j < n → view_of job.bounds job.pins j ≡ get_or ws j []
  unfolding views
  sees j h = sym (get_d-tabled (view job) n j [] h)

  room : scratch_for 1 job ≤ length z
  room = omega (arith, (long-enough 1 job l ok).scratch, (board-long v ok g).scratch)

  long : length locked ≡ length z
  long = length-set z f 1

  counts-locked : Counts rs st (counts_at c p) n locked
  counts-locked = counts-set f 1 (omega (arith, x.below)) g.counts

  side : side_of (turned b.sides f) f ≡ other (side_of st.sides f)
  side = get_or-set_same b.sides f (other (side_of b.sides f)) 0 (omega (arith, x.below, (board-long v ok g).sides)) ∙ ap (λ (u : List ℕ). other (side_of u f)) g.sides

  locks : take c locked ≡ (moved st f).locks
  unfolding moved
  locks = take-set-lt c z f 1 x.below ∙ ap (λ (u : List ℕ). set u f 1) g.locks

  now : state_in c (turned b.sides f) locked ≡ moved st f
  unfolding moved
  now = ap₂ (λ (u v : List ℕ). record { sides = u; locks = v }) (ap (λ (u : List ℕ). turned u f) g.sides) locks

  is : treat_move job.sizes job.bounds job.pins f b ≡ treat_all (moved st f) (way_of c n p st f) (view_of job.bounds job.pins) (recipes_of rs f) treat_begun
  unfolding treat_from
  is =
      ap (λ (u : State). treat_all u (way_to c n p (side_of (turned b.sides f) f)) (view_of job.bounds job.pins) (cells_of c p z f) treat_begun) now
      ∙ ap (λ (u : ℕ). treat_all (moved st f) (way_to c n p u) (view_of job.bounds job.pins) (cells_of c p z f) treat_begun) side
      ∙ ap (λ (u : List ℕ). treat_all (moved st f) (way_of c n p st f) (view_of job.bounds job.pins) u treat_begun) (g.cells.hold f x.below)

  did : TreatedMove rs ws st (moved st f) f (counts_at c p) n treat_begun (treat_move job.sizes job.bounds job.pins f b)
  did =
      rw is
      (move-treated rs ws (recipes-distinct v.most job v.sound) st f x.moves c n p (recipes-length v.most job v.sound) (view_of job.bounds job.pins) sees
      (moved st f) treat_begun (rw long (omega (arith, room))) counts-locked)

  -- the scans so far, and this move's
  more : scans rs (begins job) (made ms (suc k)) ≡ scans rs (begins job) (made ms k) ++ scans_of rs st f
  more =
      ap (scans rs (begins job)) x.more
      ∙ scans-append rs (begins job) (made ms k) (f ∷ [])
      ∙ ap (λ (u : List Scan). scans rs (begins job) (made ms k) ++ u) (unfold scans in append-nil (scans_of rs st f))

  map_more : (h : Scan → ℕ) → map h (scans rs (begins job) (made ms k)) ++ map h (scans_of rs st f) ≡ map h (scans rs (begins job) (made ms (suc k)))
  map_more h = sym (ap (map h) more ∙ map-append h (scans rs (begins job) (made ms k)) (scans_of rs st f))

  below : (a m : ℕ) → cells_at c ≤ a → a + m ≤ counts_at c p → part a m (treat_move job.sizes job.bounds job.pins f b).scratch ≡ part a m z
  below a m l h = beside-part did.beside a m (omega arith) ∙ part-set-below a m z f 1 (omega (arith, x.below))

  entry : (i : ℕ) → cells_at c ≤ i → i < counts_at c p → get_or (treat_move job.sizes job.bounds job.pins f b).scratch i 0 ≡ get_or z i 0
  entry i l h = beside-entry did.beside i (omega arith) ∙ get_or-set_other z f i 1 0 (λ e. omega (arith, x.below))

  visits-more : (us vs : List Scan) → visits ws (us ++ vs) ≡ visits ws us + visits ws vs
  unfolding visits
  visits-more us vs = total-append (λ c. length (get_or ws c.recipe [])) us vs

  shifted : Shifted job ms k f b (treat_move job.sizes job.bounds job.pins f b).scanned.progress
  unfolding shifted_to
  shifted =
      let e = did.progress in
      record {
        size = ap (λ (q : Progress). q.size) e;
        cut_now = ap (λ (q : Progress). q.cut) e;
        moves = ap (λ (q : Progress). q.moves) e;
        best = ap (λ (q : Progress). q.best) e;
        least = ap (λ (q : Progress). q.least) e;
        atbest = ap (λ (q : Progress). q.atbest) e;
        scanned = ap (λ (q : Progress). q.scans) e
            ∙ omega (arith, g.progress.scanned, ap length more, length-append (scans rs (begins job) (made ms k)) (scans_of rs st f));
        visited = ap (λ (q : Progress). q.visits) e
            ∙ omega (arith, g.progress.visited, ap (visits ws) more, visits-more (scans rs (begins job) (made ms k)) (scans_of rs st f));
      }

  -- an unread file is not free after the move either
  unread-stays : (i : ℕ) → is_read job i ≡ false → free (moved st f) i ≡ false
  unread-stays i e = rw (← x.then) (unread-locked job job.sides (made ms (suc k)) i e)

  care : Safe job ms k f b
  care = safe v (omega (arith, small.scans)) ok g x

  scans-fit : b.rest.scanned.progress.scans + length (scans_of rs st f) ≤ 4 * n
  scans-fit = omega (arith, care.scanning, g.progress.scanned, ap length more, length-append (scans rs (begins job) (made ms k)) (scans_of rs st f))

  -- what the code of the move leaves
  pub recipes-treated : MoveTreated job ms l k f b (treat_move job.sizes job.bounds job.pins f b)
  unfolding shifted_to
  recipes-treated =
      let r : LongEnough 1 job l = long-enough 1 job l ok in
      let y : Treated = treat_move job.sizes job.bounds job.pins f b in
      record {
        locks = beside-part did.beside 0 c (omega arith) ∙ locks ∙ ap (λ (u : State). u.locks) (sym x.then);
        cells = cells_same entry below g.cells;
        counts = rw x.then did.counts;
        long = did.beside.long ∙ long;
        beyond = did.beside.beyond ∙ drop-set-lt (links_from job) z f 1 (omega (arith, x.below));
        gains = did.gains ∙ scans-whole job st (moved st f) unread-stays (other (side_of st.sides f)) f b.rest.scanned.gains;
        scanned_recipes =
            did.recipes (map (λ u. u.recipe) (scans rs (begins job) (made ms k))) l.recipes g.scanned_recipes
            (length-map (scans rs (begins job) (made ms k)) (λ u. u.recipe) ∙ sym g.progress.scanned) (omega (arith, scans-fit, r.scanned_recipes))
            ∙ ap (λ (u : List ℕ). onto u l.recipes) (map_more (λ u. u.recipe));
        scanned_kinds =
            did.kinds (map (λ u. u.kind) (scans rs (begins job) (made ms k))) l.kinds g.scanned_kinds
            (length-map (scans rs (begins job) (made ms k)) (λ u. u.kind) ∙ sym g.progress.scanned) (omega (arith, scans-fit, r.scanned_kinds))
            ∙ ap (λ (u : List ℕ). onto u l.kinds) (map_more (λ u. u.kind));
        progress = shifted;
      }

  pins-below : (j : ℕ) → j < n → AllBelow c (view_of job.bounds job.pins j)
  pins-below j h i q = view-below v.most job v.sound j i h q

  recipes-short : (j : ℕ) → j < n → length (get_or rs j []) < 65535
  recipes-short j h =
      rw (recipe-at v.most job v.sound j h)
      (omega (arith, read_short job (view job j), view-length v.most job v.sound j h, bound-le v.most job v.sound (suc j) h, small.pins))

  -- where the file's cells end
  abbrev until : ℕ
  until = cells_at c + end_in c p z f

  ready : Ready (way_to c n p (side_of (turned b.sides f) f)) (view_of job.bounds job.pins) until (cells_of c p z f) locked
  ready =
      subst (λ (u : ℕ). Ready (way_to c n p u) (view_of job.bounds job.pins) until (cells_of c p z f) locked) (sym side)
      (subst (λ (u : List ℕ). Ready (way_of c n p st f) (view_of job.bounds job.pins) until u locked) (sym (g.cells.hold f x.below))
      (move-ready rs ws (recipes-distinct v.most job v.sound) st f x.moves c n p (recipes-length v.most job v.sound) (view_of job.bounds job.pins) sees
      until (omega (arith, g.cells.inside f x.below)) locked (rw long (omega (arith, room))) counts-locked pins-below recipes-short))

  -- the lists written are as long as those lent
  as_long : (h : Scan → ℕ) (old : List ℕ) → 4 * n ≤ length old → length (onto (map h (scans rs (begins job) (made ms (suc k)))) old) ≡ length old
  as_long h old q = onto-length 0 _ old (rw (length-map (scans rs (begins job) (made ms (suc k))) h) (omega (arith, care.scanning)))

  fitting : Fits (treat_move job.sizes job.bounds job.pins f b).scanned
  fitting =
      let r : LongEnough 1 job l = long-enough 1 job l ok in
      record {
        recipes = omega (arith, shifted.scanned, care.scanning, ap length recipes-treated.scanned_recipes ∙ as_long (λ u. u.recipe) l.recipes r.scanned_recipes, r.scanned_recipes);
        kinds = omega (arith, shifted.scanned, care.scanning, ap length recipes-treated.scanned_kinds ∙ as_long (λ u. u.kind) l.kinds r.scanned_kinds, r.scanned_kinds);
        visits = omega (arith, shifted.visited, care.visiting, small.pins);
      }

  -- what it may count on
  pub move-safe : Movable job.sizes job.bounds job.pins f b.sides b.rest
  move-safe =
      let m : BoardLong job l b = board-long v ok g in
      record {
        file = x.below;
        sides_long = m.sides;
        gains_long = m.gains;
        scratch_long = omega (arith, room);
        few = (small.files, small.bounds, omega (arith, small.pins));
        order = g.cells.order f x.below;
        inside = g.cells.inside f x.below;
        ready = ready;
        room = record { near = λ i. omega (arith, care.near i) };
        fits = fitting;
        shift = record {
          file = (x.below, omega (arith, x.below, m.sides), omega (arith, x.below, m.gains));
          size = omega (arith, care.size, small.weight);
          gain = care.falls;
          cut = omega (arith, care.few, care.near f, small.scans);
        };
      }

  -- so the pass goes on
  pub move-goes : Going job ms l (suc k) (move_one job.sizes job.bounds job.pins f b)
  move-goes = goes_on v ok g x recipes-treated

  cut-now : (treat_move job.sizes job.bounds job.pins f b).scanned.progress.cut ≡ cut (stands job ms (suc k)).sides rs
  unfolding move_one counted_on
  cut-now = move-goes.progress.cut_now

  pub move-fits : MoveFits job.sizes job.bounds job.pins f b
  move-fits = record {
    few = omega (arith, g.progress.moves, x.early, small.files);
    tried = omega (arith, care.tried, g.progress.moves);
    gained = omega (arith, care.gained, g.progress.moves);
    cuts = omega (arith, care.cuts, g.progress.moves);
    ends = omega (arith, care.scans_so_far, g.progress.moves);
    cut = omega (arith, cut-now, cut-few v (suc k), small.scans);
    scans = omega (arith, shifted.scanned, care.scanning, small.scans);
    moves = omega (arith, shifted.moves, g.progress.moves, x.early, small.files);
  }
