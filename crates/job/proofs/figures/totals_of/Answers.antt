use native.Mathlib.Omega.{arith}
use Rattle.job.proofs.AddingUp.{walked_none, walked_more}
use Rattle.job.proofs.figures.totals_of.Goals as goal

pub loop-f-init : goal.loop-f-init
loop-f-init c = walked_none _ _ c.default-t.ensures

pub loop-f-preserved : goal.loop-f-preserved
loop-f-preserved c = walked_more c.loop-f.invariant _ (omega arith) (omega arith) c.with_file-t.ensures
