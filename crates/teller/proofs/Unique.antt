-- The promises of the night's report, of the trace, of the edition named and of its refusal settle their answer and the lent room: any two results that meet one, of the same arguments, are equal.
-- The promises cited are those which the check reads from the contracts in src/. Assumes nothing.
use Prim.Native.Nat.{ℕ}
use Rattle.rules.proofs.Settling.{Settles, both}
use mathlib.Core.List.{List}
use Rattle.std.specs.Prelude.{Result, Option}
use Rattle.rules.specs.declared.refusal.Refusal.{Refusal}
use Rattle.report.proofs.Lending.{printed-one}
use Rattle.teller.proofs.Named.{edition-one}
use Rattle.teller.proofs.night.Kinds as kinds
use Rattle.teller.proofs.night.Reads as night
use Rattle.teller.proofs.trace.Kinds as trace-kinds
use Rattle.teller.proofs.trace.Reads as trace
use Rattle.teller.proofs.arguments.edition_named.Kinds as named-kinds
use Rattle.teller.proofs.arguments.edition_named.Reads as named
use Rattle.teller.proofs.refuse_edition.Kinds as refuse-kinds
use Rattle.teller.proofs.refuse_edition.Reads as refuse

pub night-settled : Settles 2 kinds.ps kinds.r (Result ℕ Refusal × List ℕ) (λ κs x e. (x, e.1.1.0.now)) night.Post
night-settled κs a x y e f p q = printed-one x y _ _ (both p.0 q.0)

pub trace-settled : Settles 2 trace-kinds.ps trace-kinds.r (Result ℕ Refusal × List ℕ) (λ κs x e. (x, e.1.1.0.now)) trace.Post
trace-settled κs a x y e f p q = printed-one x y _ _ (both p.0 q.0)

pub named-settled : Settles 1 named-kinds.ps named-kinds.r (Option ℕ) (λ κs x e. x) named.Post
named-settled κs a x y e f p q = edition-one x y (both p.0 q.0) p.1 q.1

pub refuse-settled : Settles 1 refuse-kinds.ps refuse-kinds.r (Result ℕ Refusal × List ℕ) (λ κs x e. (x, e.0.now)) refuse.Post
refuse-settled κs a x y e f p q = printed-one x y _ _ (both p.0 q.0)
