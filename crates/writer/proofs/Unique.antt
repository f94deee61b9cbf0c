-- The promise of writing settles its answer and the output list: any two results that meet it, of the same arguments, are equal.
-- The promise cited is that which the check reads from the contract in src/. Assumes nothing.
use mathlib.Core.Path.{ap}
use contract.Lifetimes.{Lfts}
use denote.Triple.Clauses.{AtExit}
use borrow.Fn.Kinds.{res_t, ended_of}
use Rattle.std.proofs.Common.{ℕ, List}
use Rattle.std.specs.Prelude.{Result}
use Rattle.rules.specs.declared.refusal.Refusal.{Refusal}
use Rattle.rules.proofs.Settling.{Settles, both}
use Rattle.rules.proofs.CasesOne.{as_verdict-one}
use Rattle.rules.specs.Writing.{Writing}
use Rattle.writer.proofs.write.Kinds as kinds
use Rattle.writer.proofs.write.Reads as write

-- the answer, and the output list at exit
abbrev leaves : (κs : Lfts 3) → (res_t kinds.r κs).Denot → AtExit (ended_of 3 kinds.ps kinds.r) κs → Result (Unit {0}) Refusal × List ℕ
leaves κs x e = (x, e.1.1.1.0.now)

pub write-settled : Settles 3 kinds.ps kinds.r (Result (Unit {0}) Refusal × List ℕ) leaves write.Post
write-settled κs a x y e f p q =
    let same = both p q in
    λ i. (as_verdict-one x y (ap (λ (w : Writing). w.verdict) same) i, ap (λ (w : Writing). w.out) same i)
