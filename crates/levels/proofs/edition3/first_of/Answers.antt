-- The best so far is the best of the files passed. Assumes nothing.
use borrow.Author.Rules.{rules}
use mir.Syntax.{w32}
use mir.Val.{SFits}
use mir.Facts.{to_z-of_z}
use Rattle.levels.proofs.FilesPassed.{files-none, files-next, files-done, all-lengths}
use Rattle.levels.proofs.edition3.first_of.Goals as goal

pub loop-rival-init : goal.loop-rival-init
loop-rival-init c = files-none

pub loop-rival-preserved : goal.loop-rival-preserved
loop-rival-preserved c =
    let fits : SFits w32 c.least_of.result = search rules in
    let long = (all-lengths _ _ _ _ _ _ _ c.requires).0 in
    files-next long c.loop-rival.invariant (rw (long, to_z-of_z fits, c.least_of.ensures) at c.in-Some.ensures) c.vector_of.ensures c.challenge.ensures

pub returns : goal.returns
returns c =
    let fits : SFits w32 c.least_of.result = search rules in
    let long = (all-lengths _ _ _ _ _ _ _ c.requires).0 in
    files-done long c.loop-rival.invariant c.next_rival.result c.in_default.not-Some (rw (to_z-of_z fits, c.least_of.ensures) at c.next_rival.ensures)
