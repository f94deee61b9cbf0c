-- `make_move` meets its contract. Assumes nothing.
use Rattle.split.specs.Editions.{edition_number}
use Rattle.split.specs.Scanning.{treated}
use Rattle.split.specs.Passing.{board_of}
use Rattle.split.proofs.Passing.{steps-moved}
use Rattle.split.proofs.make_move.Goals as goal

pub returns-clause-board_after : goal.returns-clause-board_after
returns-clause-board_after c =
    let a = c.args in
    let job = a.book in
    let m = c.note.ensures.entries in
    let n = c.treat_move-q.new in
    let made = c.new-made.ensures in
    rw (m.tried, m.gained, m.cuts, m.ends)
    (steps-moved (edition_number a.edition) job.files.sizes.now job.recipes.bounds.now job.recipes.pins.now a.chosen.file
    (board_of a.sides.now a.gains.now a.moves.now a.scans.now a.scratch.now a.p) {y = treated n.scratch n.gains n.scans.recipes.now n.scans.kinds.now c.treat_move-q.result}
    c.treat_move-q.ensures.sides_after c.treat_move-q.ensures.treated_after c.counted.ensures c.requires.gain
    (rw (c.extent_of.ensures, made.recipes_kept.0, made.recipes_kept.1, made.listed.0, made.listed.1) at c.follow_by.ensures))
