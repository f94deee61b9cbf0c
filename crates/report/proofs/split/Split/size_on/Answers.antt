use native.Mathlib.Omega.{arith}
use borrow.Author.Tests.{eq-eqb, ne_eqb}
use Rattle.rules.specs.Job.{files}
use Rattle.rules.specs.Split.{size_on}
use Rattle.rules.proofs.Count.{summed-none, summed-more, summed-end}
use Rattle.report.proofs.split.Split.size_on.Goals as goal
use Rattle.report.proofs.split.Split.size_on.Goals.{then-self-f+then-self-f-ne2, else-self-f, else-self-f-via-then-self-f+else-self-f-ne2, else-self-f-via-else-self-f}

pub loop-f-init : goal.loop-f-init
loop-f-init c = summed-none

pub loop-f-preserved : goal.loop-f-preserved
loop-f-preserved c =
    let l = c.loop-f in
    let h = c.loop-f-test.true in
    elim c.if-self-f.branch [
      | then-self-f+then-self-f-ne2 w ↦
          let here = eq-eqb _ c.args.side w.if-self-f.true in
          let read = ne_eqb _ 2 w.if-self-f-ne2.true in
          summed-more l.invariant _ h (rw (w.sum-is, here, read) (omega arith)) (rw (here, read) (omega arith))
      | else-self-f w ↦ elim w.else-self-f.branch [
        | else-self-f-via-then-self-f+else-self-f-ne2 v ↦
            let unread = eq-eqb _ 2 v.if-self-f-ne2.false in summed-more l.invariant _ h (rw (w.sum-is, unread) (omega arith)) (rw unread (omega arith))
        | else-self-f-via-else-self-f v ↦
            let there = ne_eqb _ c.args.side v.if-self-f.false in summed-more l.invariant _ h (rw (w.sum-is, there) (omega arith)) (rw there (omega arith))
      ]
    ]

pub returns : goal.returns
unfolding size_on files
returns c = summed-end c.loop-f.invariant c.loop-f-test.false
