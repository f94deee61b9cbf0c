use Rattle.job.proofs.HoldsOf.{RecipePassed}
use Rattle.job.proofs.pins.first_bad_in.Given as goal

abbrev pub invariant-loop-k : goal.invariant-loop-k
invariant-loop-k l = RecipePassed l.files l.pins l.a l.e l.initial.held l.held l.k
