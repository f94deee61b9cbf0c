use Rattle.std.proofs.Common.{List, ℕ, get_or, ap, ◌∙◌, arith}
use Rattle.comparer.proofs.Noted.{adds-no-turn, adds-turn}
use Rattle.comparer.proofs.Differences.{file-adds}
use Rattle.comparer.proofs.notes.Notes.files.Goals as goal

pub loop-f-init : goal.loop-f-init
loop-f-init c = adds-no-turn _ _

pub loop-f-preserved : goal.loop-f-preserved
loop-f-preserved c =
    let f = c.loop-f.f in
    let at = λ (l : List ℕ). get_or l f 0 in
    adds-turn _ f (omega arith) c.loop-f.invariant
    (file-adds _ _ f (c.entry_at.ensures ∙ ap at c.book.ensures.files.0) (c.entry_at-in-loop-f.ensures ∙ ap at c.book-2.ensures.files.0)
    (c.entry_at-in-loop-f-2.ensures ∙ ap at c.sides-old_sides.ensures) (c.entry_at-in-loop-f-3.ensures ∙ ap at c.sides-new_sides.ensures)
    (c.entry_at-in-loop-f-4.ensures ∙ ap at c.book.ensures.files.1) (c.entry_at-in-loop-f-5.ensures ∙ ap at c.book-2.ensures.files.1)
    c.figure.ensures c.figure-in-loop-f.ensures c.figure-in-loop-f-2.ensures)
