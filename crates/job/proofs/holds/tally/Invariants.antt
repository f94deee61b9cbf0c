use Rattle.job.proofs.Walking.{Counted}
use Rattle.job.proofs.holds.tally.Given as goal

abbrev pub invariant-loop-pin : goal.invariant-loop-pin
invariant-loop-pin l = record { a : Counted l.sides l.marks l.recipe 0 l.pin-index l.held.a; b : Counted l.sides l.marks l.recipe 1 l.pin-index l.held.b }
