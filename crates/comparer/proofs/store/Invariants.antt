-- The first i records of the numbers lie on the list. Assumes nothing.
use Rattle.std.proofs.Common.{◌≡◌}
use Rattle.rules.specs.Lists.{onto}
use Rattle.report.specs.Comparison.{records_in}
use Rattle.comparer.proofs.store.Given as goal

abbrev pub invariant-loop-i : goal.invariant-loop-i
invariant-loop-i l = l.list ≡ onto (records_in l.i l.numbers) l.initial.list
