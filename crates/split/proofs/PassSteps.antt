-- The steps of a pass by an edition that touch nothing but edition 2's links: the free files enter, the choice, and what follows a move. Assumes nothing.
use mathlib.Core.Path.{◌≡◌, refl, sym, ap, subst, ◌∙◌}
use mathlib.Core.Logic.{◌≢◌}
use Prim.Native.Nat.{ℕ, suc, ◌+◌, ◌≤◌, ◌<◌}
use mathlib.Core.List.{List, []}
use native.Mathlib.Decide.{ℕ_discrete}
use native.Mathlib.Omega.{arith}
use lib.ListN.{length, get_or, take, drop, length-append}
use lib.Seq.{drop-drop}
use lib.Dec.{eqb}
use lib.IntN.{ℤ}
use borrow.Author.Tests.{ne_eqb}
use Rattle.rules.specs.Lists.{those, up_to}
use Rattle.rules.specs.Job.{Job, file_count, recipe_count, pin_count, files, recipes, view_of, Lent, scratch_for}
use Rattle.rules.specs.Move.{scans_of, scans, steps_by}
use Rattle.rules.specs.Fronts.{to_front, entered_first}
use Rattle.rules.proofs.Fits.{LongEnough, long-enough}
use Rattle.buckets.specs.StandFor.{StandFor}
use Rattle.choice.specs.declared.window.Window.{Window}
use Rattle.choice.specs.declared.edition1.Best.{Best}
use Rattle.tables.specs.Ending.{turned}
use Rattle.split.specs.Moving.{Board, counted_on, move_one}
use Rattle.split.specs.Links.{links_long, shape_of, links_in, HasLinks, entered_by, Picked, picked_is, picked_by, followed_by}
use Rattle.split.specs.Passing.{on_scratch, links_follow, moved_by, Followable}
use Rattle.split.proofs.Going.{links_from, begins, made, stands, Going}
use Rattle.split.proofs.Bounds.{BoardLong, board-long, scans-few}
use Rattle.split.proofs.NextMove.{stands-binary}
use Rattle.split.proofs.MoveNow.{recipes-treated, move-goes}
use Rattle.split.proofs.Played.{moves_of, Underway, line, under-long, Chose, playing-next, playing-goes, playing-more}
use Rattle.split.proofs.PassMoves.{pass_moves, buckets_now}
use Rattle.split.proofs.Choosing.{PassUnderway, pass-chose}
use Rattle.split.proofs.OtherScratch.{OtherLinks, under-on}
use Rattle.split.proofs.LinksLent.{Kept}
use Rattle.split.proofs.LinksKept.{entered-kept, picked-kept, followed-kept, entered-stands, picked-stands}
use Rattle.split.proofs.Following.{scans-next, follows}

-- the scratch has room for the links
pub links-fit : (edition : ℕ) (job : Job) (z : List ℕ) → scratch_for edition job ≤ length z → HasLinks edition (file_count job) (recipe_count job) (pin_count job) z
links-fit edition job z h e = let q : scratch_for 2 job ≤ length z = subst (λ (i : ℕ). scratch_for i job ≤ length z) e h in omega arith

-- nothing but the links is another, and by another edition nothing at all
pub other-links : (edition : ℕ) (job : Job) (z z' : List ℕ) → Kept (file_count job) (recipe_count job) (pin_count job) z z' → (edition ≢ 2 → z' ≡ z)
    → OtherLinks job (scratch_for edition job) z z'
other-links edition job z z' k same = record {
  long = k.long;
  below = k.below;
  beyond = elim (ℕ_discrete edition 2) [
    | yes e ↦
        let m : ℕ = links_from job + links_long (file_count job) (recipe_count job) in
        let r : m + 10 ≡ scratch_for edition job = subst (λ (i : ℕ). m + 10 ≡ scratch_for i job) (sym e) (omega arith) in
        ap (λ (i : ℕ). drop i z') (sym r) ∙ sym (drop-drop 10 m z') ∙ ap (drop 10) k.beyond ∙ drop-drop 10 m z ∙ ap (λ (i : ℕ). drop i z) r
    | no n ↦ ap (drop (scratch_for edition job)) (same n)
  ];
}

-- before the first move the order is that of the free files' entering
entered-first : (edition : ℕ) (job : Job) → (buckets_now edition job 0).entered ≡ steps_by to_front [] (those (λ f. eqb (get_or job.marks f 0) 0) (up_to (file_count job)))
unfolding entered_first files steps_by
entered-first edition job = refl

module _ {edition : ℕ} {job : Job} {l : Lent} {w : Window} {b : Board} (u : Underway (scratch_for edition job) job (pass_moves edition job) l w b) where
  pub has-links : HasLinks edition (file_count job) (recipe_count job) (pin_count job) b.rest.scratch
  has-links = links-fit edition job b.rest.scratch (omega (arith, u.enough, u.going.long))

-- ---- the free files enter

abbrev enters : ℕ → Job → Board → List ℕ
enters edition job b = entered_by edition (file_count job) (recipe_count job) (pin_count job) job.marks b.sides b.rest.scanned.gains b.rest.scratch

entered-stays : (edition : ℕ) (job : Job) (b : Board) → edition ≢ 2 → enters edition job b ≡ b.rest.scratch
unfolding entered_by
entered-stays edition job b h = rw (ne_eqb edition 2 h) refl

module _ (edition : ℕ) {job : Job} {l : Lent} {w : Window} {b : Board} (u : Underway (scratch_for edition job) job (pass_moves edition job) l w b) where
  entered-other : OtherLinks job (scratch_for edition job) b.rest.scratch (enters edition job b)
  entered-other =
      other-links edition job b.rest.scratch _
      (entered-kept edition (file_count job) (recipe_count job) (pin_count job) b.rest.scratch (has-links u) job.marks b.sides b.rest.scanned.gains)
      (entered-stays edition job b)

  -- they stand in the buckets in their order
  entered-order : edition ≡ 2 → StandFor (shape_of (file_count job) (recipe_count job)) b.sides b.rest.scanned.gains (buckets_now edition job 0).entered
      (links_in (file_count job) (recipe_count job) (pin_count job) (enters edition job b))
  entered-order two =
      rw (entered-first edition job)
      (entered-stands edition (file_count job) (recipe_count job) (pin_count job) two b.rest.scratch (has-links u two) job.marks b.sides b.rest.scanned.gains
      (omega (arith, u.playable.small.links)) (omega (arith, (under-long u).gains)))

  pub entered-under : moves_of b ≡ 0 → {z : List ℕ} → z ≡ enters edition job b → PassUnderway edition job l w (on_scratch b z)
  entered-under none e = rw e (record { under = under-on u entered-other; fronts = λ two. rw none (entered-order two) })

-- ---- the choice

module _ {edition : ℕ} {job : Job} {l : Lent} {w : Window} {b : Board} (u : PassUnderway edition job l w b) where
  abbrev c : ℕ
  c = file_count job

  abbrev n : ℕ
  n = recipe_count job

  abbrev p : ℕ
  p = pin_count job

  abbrev z : List ℕ
  z = b.rest.scratch

  abbrev gains : List ℤ
  gains = b.rest.scanned.gains

  abbrev picks : Picked
  picks = picked_by edition c n p w b.rest.scanned.progress.size job.sizes b.sides gains z

  picked-stays : edition ≢ 2 → picks.scratch ≡ z
  unfolding picked_by
  picked-stays h = rw (ne_eqb edition 2 h) refl

  module _ {best : Best} {z' : List ℕ} (answered : picked_is best z' ≡ picks) where
    left : z' ≡ picks.scratch
    left = ap (λ (x : Picked). x.scratch) answered

    picked-other : OtherLinks job (scratch_for edition job) z z'
    picked-other =
        subst (OtherLinks job (scratch_for edition job) z) (sym left)
        (other-links edition job z _ (picked-kept edition c n p z (has-links u.under) w b.rest.scanned.progress.size job.sizes b.sides gains) picked-stays)

    pub chosen-under : PassUnderway edition job l w (on_scratch b z')
    chosen-under = record {
      under = under-on u.under picked-other;
      fronts = λ two.
          subst (λ (y : List ℕ). StandFor (shape_of c n) b.sides gains (buckets_now edition job (moves_of b)).entered (links_in c n p y)) (sym left)
          (picked-stands edition c n p two z (has-links u.under two) w b.rest.scanned.progress.size job.sizes b.sides gains (u.fronts two));
    }

    -- the same file, of the board with that scratch
    pub chosen-chose : Chose job (pass_moves edition job) (on_scratch b z') best.file
    chosen-chose = let x = pass-chose u answered in record { pick = x.pick; picked = x.picked; file = x.file }

  -- ---- the move, and what follows it

  module _ {f : ℕ} (x : Chose job (pass_moves edition job) b f) (h : f < c) where
    abbrev after : Board
    after = move_one job.sizes job.bounds job.pins f b

    goes : Underway (scratch_for edition job) job (pass_moves edition job) l w after
    goes = playing-goes u.under x h {b' = after} refl

    more : moves_of after ≡ suc (moves_of b)
    more = playing-more u.under x h {b' = after} refl

    pub followable : Followable edition job.sizes job.bounds job.pins f b
    unfolding move_one counted_on
    followable =
        let y = u.under.playable in
        let next = playing-next u.under x h in
        let g : Going job (pass_moves edition job) l (suc (moves_of b)) after = move-goes (line u.under) y.small y.fitting u.under.going next in
        let long : BoardLong job l after = board-long (line u.under) y.fitting g in
        let room : LongEnough 1 job l = long-enough 1 job l y.fitting in
        let few = scans-few (line u.under) (suc (moves_of b)) in
        let more = ap length (scans-next next)
        ∙ length-append (scans (recipes job) (begins job) (made (pass_moves edition job) (moves_of b))) (scans_of (recipes job) (stands job (pass_moves edition job) (moves_of b)) f) in
        record {
          pins_below = y.sound.pins_below;
          sides = (long.sides, rw (← g.sides) at (stands-binary (line u.under) (suc (moves_of b))));
          gains = long.gains;
          since = omega (arith, u.under.going.progress.scanned, g.progress.scanned, more);
          recipes = omega (arith, few, g.progress.scanned, long.scanned_recipes, room.scanned_recipes);
          kinds = omega (arith, few, g.progress.scanned, long.scanned_kinds, room.scanned_kinds);
          links = has-links goes;
        }

    -- a move leaves what is behind the counts
    same : links_in c n p after.rest.scratch ≡ links_in c n p z
    unfolding move_one
    same = ap (take (links_long c n)) (recipes-treated (line u.under) u.under.playable.small u.under.playable.fitting u.under.going (playing-next u.under x h)).beyond

    turns : after.sides ≡ turned b.sides f
    unfolding move_one
    turns = refl

    abbrev followed : List ℕ
    followed = links_follow edition job.sizes job.bounds job.pins f b after

    followed-stays : edition ≢ 2 → followed ≡ after.rest.scratch
    unfolding followed_by
    followed-stays i = rw (ne_eqb edition 2 i) refl

    followed-other : OtherLinks job (scratch_for edition job) after.rest.scratch followed
    followed-other =
        other-links edition job after.rest.scratch _
        (followed-kept edition c n p after.rest.scratch (has-links goes) after.rest.scanned.gains after.sides (view_of job.bounds job.pins) _ _ f) followed-stays

    -- one move more, and edition 2's links follow it
    pub moved-more : moves_of (moved_by edition job.sizes job.bounds job.pins f b) ≡ suc (moves_of b)
    moved-more = more

    pub moved-under : PassUnderway edition job l w (moved_by edition job.sizes job.bounds job.pins f b)
    moved-under = record {
      under = under-on goes followed-other;
      fronts = λ two.
          subst (λ (k : ℕ). StandFor (shape_of c n) after.sides after.rest.scanned.gains (buckets_now edition job k).entered (links_in c n p followed)) (sym more)
          (follows u (playing-next u.under x h) (subst (λ (k : ℕ). Going job (pass_moves edition job) l k after) more goes.going) turns same (has-links goes two) two);
    }
