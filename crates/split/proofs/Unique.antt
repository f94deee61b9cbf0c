-- The promise of each public call settles what it answers and leaves: any two results that meet it, of the same arguments, have the same
-- answer, sides and other lent lists. The promises cited are those that the check reads from the contracts in src/. Assumes nothing.
use mathlib.Core.Path.{ap}
use Prim.Native.Nat.{ℕ}
use Rattle.std.specs.Prelude.{List, Result}
use Rattle.rules.proofs.CasesOne.{as_balance_figures-one, as_figures-one}
use Rattle.rules.proofs.Settling.{Settles, both}
use Rattle.rules.specs.declared.refusal.Refusal.{Refusal}
use Rattle.rules.specs.declared.Verdict.{Verdict}
use Rattle.rules.specs.declared.Passed.{Passed}
use Rattle.rules.specs.declared.Balanced.{Balanced}
use Rattle.rules.specs.Numbers.{Figures}
use Rattle.rules.specs.Run.{Ended}
use Rattle.rules.specs.Balance.{Balancing}
use Rattle.job.specs.Given.{contents}
use Rattle.split.proofs.balancing.balance.Kinds as balance-kinds
use Rattle.split.proofs.balancing.balance.Reads as balance
use Rattle.split.proofs.pass_once.Kinds as pass-kinds
use Rattle.split.proofs.pass_once.Reads as pass
use Rattle.split.proofs.from_job.refused.Kinds as refused-kinds
use Rattle.split.proofs.from_job.refused.Reads as refused

-- the answer, the sides and the other lent lists
pub pass-settled :
    Settles 4 pass-kinds.ps pass-kinds.r (Ended (Result Passed Refusal))
    (λ κs x e. record { answer = x; sides = e.1.1.1.0.now; lent = contents e.1.1.1.1.0.now }) pass.Post
pass-settled κs a x y e f p q =
    let same = both p.1 q.1 in
    λ i. record {
      answer = as_figures-one x y (ap (λ (w : Ended Figures). w.answer) same) i;
      sides = (same i).sides;
      lent = (same i).lent;
    }

pub refused-settled : Settles 0 refused-kinds.ps refused-kinds.r (Result Passed Verdict) (λ κs x e. x) refused.Post
refused-settled κs a x y e f p q = both p.0 q.0

-- the answer of the balancing, the sides and the scratch
pub balance-settled : Settles 3 balance-kinds.ps balance-kinds.r (Result Balanced Refusal × List ℕ × List ℕ) (λ κs x e. (x, e.1.1.0.now, e.1.1.1.0.now)) balance.Post
balance-settled κs a x y e f p q =
    let same = both p q in
    λ i. (as_balance_figures-one x y (ap (λ (w : Balancing). w.answer) same) i, (same i).sides, (same i).scratch)
