use Rattle.std.proofs.Common.{ℕ, List, ap₂, ◌∙◌, arith}
use Rattle.rules.specs.Job.{view_of}
use Rattle.comparer.proofs.Noted.{adds-none, adds-as, adds-no-turn, adds-turn}
use Rattle.comparer.proofs.Differences.{view-few, recipe-is}
use Rattle.comparer.proofs.notes.Notes.recipes.Goals as goal
use Rattle.comparer.proofs.notes.Notes.recipes.Goals.{then-not-same, else-not-same}

pub loop-j-init : goal.loop-j-init
loop-j-init c = adds-no-turn _ _

pub overflow_cast-a : goal.overflow_cast-a
overflow_cast-a c =
    let old = c.args.old.now in
    omega (arith, view-few old _ c.loop-j.j c.book.ensures.recipes.1 c.view-a.ensures, old.few_pins)

pub overflow_cast-b : goal.overflow_cast-b
overflow_cast-b c =
    let new = c.args.new.now in
    omega (arith, view-few new _ c.loop-j.j c.book-2.ensures.recipes.1 c.view-b.ensures, new.few_pins)

pub loop-j-preserved : goal.loop-j-preserved
loop-j-preserved c =
    let j = c.loop-j.j in
    let old = c.book.ensures.recipes in
    let new = c.book-2.ensures.recipes in
    let a = c.view-a.ensures ∙ ap₂ (λ (bounds pins : List ℕ). view_of bounds pins j) old.0 old.1 in
    let b = c.view-b.ensures ∙ ap₂ (λ (bounds pins : List ℕ). view_of bounds pins j) new.0 new.1 in
    elim c.if-not-same.branch [
      | then-not-same w ↦ rw w.self-is (adds-turn _ j (omega arith) c.loop-j.invariant (adds-as (recipe-is _ _ j a b w.if-not-same.ensures) w.note.ensures))
      | else-not-same w ↦ rw w.self-is (adds-turn _ j (omega arith) c.loop-j.invariant (adds-as (recipe-is _ _ j a b w.if-not-same.ensures) (adds-none 1 _)))
    ]
