-- The promise of each public call settles what it answers: any two results that meet it, of the same arguments, are the same.
-- The promises cited are those that the check reads from the contracts in src/. Assumes nothing.
use Rattle.std.proofs.Common.{Option}
use Rattle.rules.proofs.Settling.{Settles, both}
use Rattle.choice.specs.declared.edition1.Best.{Best}
use Rattle.choice.proofs.CasesOne.{as_best-one}
use Rattle.levels.proofs.edition3.choose_vector.Kinds as choose-vector-kinds
use Rattle.levels.proofs.edition3.choose_vector.Reads as choose-vector

pub choose-vector-settled : Settles _ choose-vector-kinds.ps choose-vector-kinds.r (Option Best) (λ κs x e. x) choose-vector.Post
choose-vector-settled κs a x y e f p q = as_best-one _ x y p.1 q.1 (both p.0 q.0)
