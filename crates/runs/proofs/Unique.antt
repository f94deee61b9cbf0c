-- The promise of a run settles what it answers and leaves: any two results that meet it, of the same arguments, have the same
-- answer, sides and other lent lists. The promise cited is that which the check reads from the contract in src/. Assumes nothing.
use Rattle.std.proofs.Common.{ap}
use Rattle.std.specs.Prelude.{Result}
use Rattle.rules.proofs.CasesOne.{as_run_figures-one}
use Rattle.rules.proofs.Settling.{Settles, both}
use Rattle.rules.specs.declared.refusal.Refusal.{Refusal}
use Rattle.rules.specs.declared.Verdict.{Verdict}
use Rattle.rules.specs.declared.Ran.{Ran}
use Rattle.rules.specs.Numbers.{RunFigures}
use Rattle.rules.specs.Run.{Ended}
use Rattle.job.specs.Given.{contents}
use Rattle.runs.proofs.run.Kinds as kinds
use Rattle.runs.proofs.run.Reads as run
use Rattle.runs.proofs.sums.refused.Kinds as refused-kinds
use Rattle.runs.proofs.sums.refused.Reads as refused

-- the answer, the sides and the other lent lists
pub run_settled :
    Settles 4 kinds.ps kinds.r (Ended (Result Ran Refusal))
    (λ κs x e. record { answer = x; sides = e.1.1.1.0.now; lent = contents e.1.1.1.1.0.now }) run.Post
run_settled κs a x y e f p q =
    let same = both p.1 q.1 in
    λ i. record {
      answer = as_run_figures-one x y (ap (λ (w : Ended RunFigures). w.answer) same) i;
      sides = (same i).sides;
      lent = (same i).lent;
    }

pub refused-settled : Settles 0 refused-kinds.ps refused-kinds.r (Result Ran Verdict) (λ κs x e. x) refused.Post
refused-settled κs a x y e f p q = both p.0 q.0
