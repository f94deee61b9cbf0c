-- The best so far is the best of the files passed. Assumes nothing.
use Rattle.std.proofs.Common.{◌-◌, ◌<◌, IfSome, length, take}
use Rattle.choice.specs.Cases.{as_best}
use Rattle.choice.specs.Reaching.{after}
use Rattle.choice.proofs.FilesPassed.{FilesPassed}
use Rattle.choice.proofs.edition1.choose.Given as goal

abbrev pub invariant-loop-next : goal.invariant-loop-next
invariant-loop-next l =
    let s = l.standing in
    record {
      passed : FilesPassed l.window l.size s.sizes.now s.sides.now (take (length s.sizes.now) l.scratch) s.gains.now (after l.best) (as_best (length s.sizes.now) l.best);
      file : IfSome l.best (λ best. best.file < length s.sizes.now);
    }

abbrev pub decreases-loop-next : goal.decreases-loop-next
decreases-loop-next l = length l.standing.sizes.now - after l.best
