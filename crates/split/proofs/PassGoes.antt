-- A pass by an edition as its code has it: the answer before the moves, and what holds from move to move. Assumes nothing.
use mathlib.Core.Path.{◌≡◌, refl, ap, ◌∙◌}
use Prim.Native.Nat.{ℕ, ◌-◌, ◌<◌, ◌^◌}
use mathlib.Core.Bool.{false}
use mathlib.Core.List.{List}
use native.Mathlib.Omega.{arith}
use lib.IntN.{ℤ, pos}
use lib.ListN.{length, get_or}
use Rattle.rules.specs.Job.{Job, Limits, file_count, recipe_count, pin_count, Lent, scratch_for}
use Rattle.rules.specs.Check.{check_edition}
use Rattle.rules.proofs.Fits.{long-enough, numbers-least}
use Rattle.job.specs.declared.Job.{Job as Figures}
use Rattle.job.specs.declared.book.Book.{Book}
use Rattle.job.specs.declared.lent.Moves.{Moves}
use Rattle.job.specs.declared.lent.Scans.{Scans}
use Rattle.job.specs.Given.{the_limits, the_job}
use Rattle.job.specs.Survey.{Survey}
use Rattle.tables.specs.declared.zones.Extent.{Extent}
use Rattle.tables.specs.declared.lent.ListLengths.{ListLengths}
use Rattle.tables.specs.Zones.{extent_of}
use Rattle.tables.specs.LentFits.{fits_of}
use Rattle.tables.specs.LayingOut.{LaysOut}
use Rattle.tables.proofs.Accepted.{narrow}
use Rattle.choice.specs.declared.window.Window.{Window}
use Rattle.choice.specs.declared.edition1.Best.{Best}
use Rattle.choice.specs.Choosing.{window_of}
use Rattle.split.specs.declared.editions.Edition.{Edition}
use Rattle.split.specs.declared.editions.Edition.TheVariants.{One, Two}
use Rattle.split.specs.declared.progress.Progress.{Progress}
use Rattle.split.specs.Editions.{edition_number}
use Rattle.split.specs.Moving.{Board, begun}
use Rattle.split.specs.Movable.{Movable}
use Rattle.split.specs.Links.{HasLinks, entered_by, picked_is, picked_by}
use Rattle.split.specs.Passing.{lists_of, lengths_of, on_scratch, moved_by, MoveFits, Followable}
use Rattle.split.proofs.Playable.{Playable, size_at_start, cut_at_start}
use Rattle.split.proofs.Played.{Underway, Chose, choosable, moves_of, one_less, playing-next, playing-safe, playing-fits, playing-end}
use Rattle.split.proofs.Going.{Going}
use Rattle.split.proofs.PassMoves.{pass_moves, pass-frees}
use Rattle.split.proofs.Choosing.{PassUnderway, pass-gain}
use Rattle.split.proofs.PassSteps.{has-links, entered-under, chosen-under, chosen-chose, followable, moved-more, moved-under}
use Rattle.split.proofs.PassOnce.{board_on, first_under}
use Rattle.split.proofs.Accepting.{Accepting, accepting, fitting-is, begins-as, playable}

-- an edition is one that there is
pub known-edition : (e : Edition) → (check_edition (edition_number e)).number ≡ 0
unfolding check_edition
known-edition One = refl
known-edition Two = refl

-- ---- the answer before the moves

-- from what its steps promise
pub accept : (edition : Edition) (figures : Figures) (book : Book) (sides : List ℕ) (gains : List ℤ) (moves : Moves) (scans : Scans) (scratch : List ℕ)
    {n : ℕ} {lists : ListLengths} {g : List ℤ} {z : List ℕ} {s : Survey} → n ≡ edition_number edition → lists ≡ lengths_of moves scans
    → LaysOut false the_limits (the_job figures book sides)
    (fits_of n (length book.files.sizes.now) (length book.recipes.bounds.now - 1) (length book.recipes.pins.now) (length gains) (length scratch) lists) gains scratch g z s
    → ((i : ℕ) → get_or book.files.sizes.now i 0 < 65536)
    → Accepting (edition_number edition) false the_limits (the_job figures book sides) (lists_of gains moves scans scratch) g z s
accept edition figures book sides gains moves scans scratch {g = g} {z = z} {s = s} number lengths lays two =
    accepting (edition_number edition) false the_limits (the_job figures book sides) (lists_of gains moves scans scratch) (rw (number, lengths) at lays) narrow two

-- once the job is let through
module _ {edition : ℕ} {most : Limits} {job : Job} {l : Lent} {g : List ℤ} {z : List ℕ} {s : Survey} (a : Accepting edition false most job l g z s)
    (clear : s.verdict.number ≡ 0) {w : Window} (measured : w ≡ window_of job s.weight s.tolerance) where
  pub plays : Playable job l w
  plays = playable a clear measured

  -- the gains and the scratch laid out, and the pass as it begins
  lies : (q : Progress) → q ≡ begun (size_at_start job) (cut_at_start job) → Underway (scratch_for edition job) job (pass_moves edition job) l w (board_on job l g z q)
  lies q e =
      first_under (pass-frees plays.most job plays.sound edition) plays
      (omega (arith, numbers-least edition (pin_count job) (file_count job) (recipe_count job)))
      (long-enough edition job l (fitting-is a clear)).scratch (a.lays.laid clear) e

  module _ {e : Extent} (extent : e ≡ extent_of (file_count job) (recipe_count job) (pin_count job)) where
    pub room-for-links : HasLinks edition e.files e.recipes e.pins z
    room-for-links = rw extent (has-links (lies (begun (size_at_start job) (cut_at_start job)) refl))

    pub starts : {p : Progress} → p ≡ begun s.size s.cut → {z' : List ℕ} → z' ≡ entered_by edition e.files e.recipes e.pins job.marks job.sides g z
        → PassUnderway edition job l w (on_scratch (board_on job l g z p) z')
    starts {p} first entered =
        let begun-as : p ≡ begun (size_at_start job) (cut_at_start job) = begins-as a clear first in
        entered-under edition (lies p begun-as) (ap (λ (q : Progress). q.moves) begun-as)
        (entered ∙ ap (λ (x : Extent). entered_by edition x.files x.recipes x.pins job.marks job.sides g z) extent)

-- ---- between two moves

module _ {edition : ℕ} {job : Job} {l : Lent} {w : Window} {b : Board} (u : PassUnderway edition job l w b)
    {e : Extent} (extent : e ≡ extent_of (file_count job) (recipe_count job) (pin_count job)) where
  pub size-now : b.rest.scanned.progress.size < 2 ^ 32
  size-now = (choosable u.under).size

  -- once the edition has chosen, with the scratch that the choice leaves
  module _ {best : Best} {z : List ℕ}
      (picked : picked_is best z ≡ picked_by edition e.files e.recipes e.pins w b.rest.scanned.progress.size job.sizes b.sides b.rest.scanned.gains b.rest.scratch) where
    answered : picked_is best z
        ≡ picked_by edition (file_count job) (recipe_count job) (pin_count job) w b.rest.scanned.progress.size job.sizes b.sides b.rest.scanned.gains b.rest.scratch
    answered = rw extent at picked

    going : PassUnderway edition job l w (on_scratch b z)
    going = chosen-under u answered

    chose : Chose job (pass_moves edition job) (on_scratch b z) best.file
    chose = chosen-chose u answered

    -- no file: the moves have ended
    pub ends : best.file ≡ e.files → Underway (scratch_for edition job) job (pass_moves edition job) l w (on_scratch b z)
        × Going job (pass_moves edition job) l (length (pass_moves edition job)) (on_scratch b z)
    ends none = (going.under, playing-end going.under chose (omega (arith, none, ap (λ (x : Extent). x.files) extent)))

    -- a file: it can be moved
    module _ (below : best.file < e.files) where
      file : best.file < file_count job
      file = omega (arith, below, ap (λ (x : Extent). x.files) extent)

      pub move-safe : Movable job.sizes job.bounds job.pins best.file b.sides (on_scratch b z).rest
      move-safe = playing-safe going.under chose file

      pub move-fits : MoveFits job.sizes job.bounds job.pins best.file (on_scratch b z)
      move-fits = playing-fits going.under chose file

      pub move-followable : Followable edition job.sizes job.bounds job.pins best.file (on_scratch b z)
      move-followable = followable going chose file

      pub move-gain : best.gain ≡ get_or b.rest.scanned.gains best.file (pos 0)
      move-gain = pass-gain u answered file

      -- and is
      module _ {b' : Board} (moved : b' ≡ moved_by edition job.sizes job.bounds job.pins best.file (on_scratch b z)) where
        pub goes-on : PassUnderway edition job l w b'
        goes-on = rw moved (moved-under going chose file)

        pub one-more : file_count job - moves_of b' < file_count job - moves_of b
        one-more = one_less (playing-next going.under chose file).early (ap moves_of moved ∙ moved-more going chose file)
