use Rattle.rules.proofs.Searches.{Passed}
use Rattle.stored.specs.Steps.{bad_second}
use Rattle.stored.proofs.block.has_bad_second.Given as goal

abbrev pub invariant-loop-f : goal.invariant-loop-f
invariant-loop-f l = Passed (bad_second l.block l.n) 126 l.f
