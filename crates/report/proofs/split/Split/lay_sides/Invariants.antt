use lib.ListN.{length}
use Rattle.rules.specs.Lists.{up_to}
use Rattle.report.proofs.Laying.{Laying}
use Rattle.report.proofs.Splits.{letters}
use Rattle.report.proofs.split.Split.lay_sides.Given as goal

abbrev pub invariant-loop-side : goal.invariant-loop-side
invariant-loop-side l =
    (goal.iterator-loop-side).can_next l.side-iterator ×
    (goal.iterator-loop-side).is_finite l.side-iterator ×
    Laying (letters l.fn.self) (up_to (length l.fn.self.sides.now)) (length l.yielded) (length l.yielded) l.initial.text l.text
