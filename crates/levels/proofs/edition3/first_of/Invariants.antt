-- The best so far is the best of the files passed. Assumes nothing.
use Rattle.std.proofs.Common.{◌-◌, length}
use Rattle.levels.proofs.FilesPassed.{FilesPassed}
use Rattle.levels.proofs.edition3.first_of.Given as goal

abbrev pub invariant-loop-rival : goal.invariant-loop-rival
invariant-loop-rival l =
    let x = l.extent in
    let s = l.standing in
    FilesPassed x.files x.recipes x.pins l.window l.size s.sizes.now s.sides.now s.gains.now l.scratch l.from l.led

abbrev pub decreases-loop-rival : goal.decreases-loop-rival
decreases-loop-rival l = length l.standing.sizes.now - l.from
