-- A file leads if it is free, and the first of its kind or of greater gain. Assumes nothing.
use Rattle.std.proofs.Common.{rules, length, take}
use Rattle.choice.proofs.Leading.{leader-stays, leader-goes, leader-keeps}
use Rattle.choice.proofs.heavy.leader.Goals as goal
use Rattle.choice.proofs.heavy.leader.Goals.{else-is_free_on-via-then-is_free_on+else-is_none_or, else-is_free_on-via-else-is_free_on}

pub returns-then-is_none_or-clause-leads : goal.returns-then-is_none_or-clause-leads
returns-then-is_none_or-clause-leads c =
    let a = c.args in
    leader-goes a.side a.sides.now (take (length a.sides.now) a.scratch.now) a.gains.now (length a.sides.now) a.f a.best c.requires.best_in_bounds.0 (search rules) (search rules)

pub returns-else-is_free_on-clause-leads : goal.returns-else-is_free_on-clause-leads
returns-else-is_free_on-clause-leads c =
    let a = c.args in
    elim c.else-is_free_on.branch [
      | else-is_free_on-via-then-is_free_on+else-is_none_or w ↦
          leader-keeps a.side a.sides.now (take (length a.sides.now) a.scratch.now) a.gains.now (length a.sides.now) a.f a.best c.requires.best_in_bounds.0 (search rules)
      | else-is_free_on-via-else-is_free_on w ↦ leader-stays a.side a.sides.now (take (length a.sides.now) a.scratch.now) a.gains.now (length a.sides.now) a.f a.best (search rules)
    ]
