-- The promises of `resettle` and `balance` settle their answer and the lent room: any two results that meet one, of the same arguments, are equal. The promises
-- cited are those which the check reads from the contracts in src/. Assumes nothing.
use Rattle.rules.proofs.Settling.{Settles, both}
use Prim.Native.Nat.{ℕ}
use mathlib.Core.List.{List}
use Rattle.std.specs.Prelude.{Result}
use Rattle.rules.specs.declared.refusal.Refusal.{Refusal}
use Rattle.rules.specs.declared.HandedOut.{HandedOut}
use Rattle.hander.proofs.Handing.{handed-one}
use Rattle.hander.proofs.resettle.Kinds as resettle-kinds
use Rattle.hander.proofs.resettle.Reads as resettle
use Rattle.hander.proofs.balance.Kinds as kinds
use Rattle.hander.proofs.balance.Reads as balance

pub resettle-settled : Settles 2 resettle-kinds.ps resettle-kinds.r (Result HandedOut Refusal × List ℕ) (λ κs x e. (x, e.1.1.0.now)) resettle.Post
resettle-settled κs a x y e f p q = handed-one x y _ _ (both p.0 q.0)

pub balance-settled : Settles 2 kinds.ps kinds.r (Result HandedOut Refusal × List ℕ) (λ κs x e. (x, e.1.0.now)) balance.Post
balance-settled κs a x y e f p q = handed-one x y _ _ (both p.0 q.0)
