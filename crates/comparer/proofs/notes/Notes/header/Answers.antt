-- Seven steps, one after another. Assumes nothing.
use Rattle.rules.specs.Compare.{head_differences}
use Rattle.comparer.proofs.Noted.{adds-then}
use Rattle.comparer.proofs.notes.Notes.header.Goals as goal

pub returns : goal.returns
unfolding head_differences
returns c =
    let three = adds-then (adds-then c.figure.ensures c.figure-2.ensures) c.figure-3.ensures in
    adds-then (adds-then (adds-then (adds-then three c.figure-4.ensures) c.figure-5.ensures) c.figure-6.ensures) c.figure-7.ensures
