-- Moves underway, with other numbers behind the counts of the scratch: edition 2's links stand there. Assumes nothing.
use mathlib.Core.Path.{◌≡◌, sym, ap, ◌∙◌}
use Prim.Native.Nat.{ℕ, ◌+◌, ◌*◌, ◌<◌}
use mathlib.Core.List.{List}
use native.Mathlib.Omega.{arith}
use lib.ListN.{length, get_or, take, drop}
use lib.Seq.{take-take}
use Rattle.rules.specs.Job.{Job, file_count, recipe_count, pin_count, recipes, Lent}
use Rattle.choice.specs.declared.window.Window.{Window}
use Rattle.tables.specs.Zones.{counts_at, side_at, Cells, CountsOf}
use Rattle.tables.proofs.Parts.{front-entry, front-part}
use Rattle.tables.proofs.LentParts.{cells_same}
use Rattle.tables.proofs.Sides.{side-within}
use Rattle.split.specs.Moving.{Board}
use Rattle.split.specs.Passing.{on_scratch}
use Rattle.split.proofs.Going.{links_from, Going}
use Rattle.split.proofs.Played.{moves_of, Underway}

-- z is as long as z₀, and the same up to where the counts end and beyond the first n numbers
pub record OtherLinks (job : Job) (n : ℕ) (z₀ z : List ℕ) : Type 0 where
  pub long : length z ≡ length z₀
  pub below : take (links_from job) z ≡ take (links_from job) z₀
  pub beyond : drop n z ≡ drop n z₀

module _ {n : ℕ} {job : Job} {ms : List ℕ} {l : Lent} {w : Window} {b : Board} (u : Underway n job ms l w b) {z : List ℕ} (o : OtherLinks job n b.rest.scratch z) where
  abbrev c : ℕ
  c = file_count job

  abbrev g : Going job ms l (moves_of b) b
  g = u.going

  entry : (i : ℕ) → i < links_from job → get_or z i 0 ≡ get_or b.rest.scratch i 0
  entry = front-entry (links_from job) z b.rest.scratch o.below

  locks : take c z ≡ take c b.rest.scratch
  locks = sym (take-take c (links_from job) z (omega arith)) ∙ ap (take c) o.below ∙ take-take c (links_from job) b.rest.scratch (omega arith)

  cells : Cells (recipes job) c (pin_count job) z
  cells =
      cells_same (λ i h k. entry i (omega arith)) (λ a k h m. front-part (links_from job) z b.rest.scratch o.below a k (omega arith)) g.cells

  counts_of : {rs : List (List ℕ)} {st : _} (j : ℕ) → j < recipe_count job → CountsOf rs st (counts_at c (pin_count job)) (recipe_count job) b.rest.scratch j
      → CountsOf rs st (counts_at c (pin_count job)) (recipe_count job) z j
  counts_of j h d =
      let at : ℕ = counts_at c (pin_count job) in
      let m : ℕ = recipe_count job in
      record {
        on = λ u k. entry (side_at at m u + j) (omega (arith, side-within at m u)) ∙ d.on u k;
        locked = λ u k. entry (side_at at m u + j + 2 * m) (omega (arith, side-within at m u)) ∙ d.locked u k;
      }

  pub under-on : Underway n job ms l w (on_scratch b z)
  under-on = record {
    playable = u.playable;
    frees = u.frees;
    going = record {
      few = g.few;
      sides = g.sides;
      locks = locks ∙ g.locks;
      cells = cells;
      counts = record { each = λ j h. counts_of j h (g.counts.each j h) };
      long = o.long ∙ g.long;
      gains = g.gains;
      tried = g.tried;
      gained = g.gained;
      cuts = g.cuts;
      scans_so_far = g.scans_so_far;
      scanned_recipes = g.scanned_recipes;
      scanned_kinds = g.scanned_kinds;
      progress = g.progress;
    };
    counts = u.counts;
    enough = u.enough;
    beyond = o.beyond ∙ u.beyond;
  }
