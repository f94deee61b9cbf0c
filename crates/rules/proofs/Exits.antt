-- A chain of checks by `?`: what a refused check answers, and what follows one that lets through. Assumes nothing.
use mathlib.Core.Path.{◌≡◌, refl, ap, ◌∙◌}
use Prim.Native.Nat.{ℕ}
use borrow.Author.Tests.{eq-eqb}
use Rattle.std.specs.Prelude.{Result, Ok, Err}
use Rattle.std.specs.Result.{IsErrAnd}
use Rattle.rules.specs.declared.Verdict.{Verdict}
use Rattle.rules.specs.declared.refusal.Refusal.{Refusal}
use Rattle.rules.specs.Numbers.{verdict_of}
use Rattle.rules.specs.Cases.{as_verdict}
use Rattle.rules.specs.Check.{done, ◌or_else◌}
use Rattle.rules.proofs.CasesOne.{case_of, case-refused}
use Rattle.rules.proofs.Verdicts.{chain-stop, chain-go}

-- what a `?` hands out is the refusal
pub exit-is : {A : Type 0} (x : Result A Refusal) (r : Refusal) → IsErrAnd x (λ y. y ≡ r) → x ≡ Err r
exit-is (Ok a) r h = absurd h
exit-is {A} (Err y) r h = let err : Refusal → Result A Refusal = λ z. Err z in ap err h

-- no refusal's number is 0
pub not-done : (r : Refusal) → (verdict_of r).number ≡ 0 → ⊥
not-done r e =
    let answered : Verdict → Result ℕ Refusal = λ v. case_of v 0 in
    let p : answered (verdict_of r) ≡ Ok 0 = rw (eq-eqb (verdict_of r).number 0 e) refl in
    let q : answered (verdict_of r) ≡ Err r = case-refused r 0 in cc

-- the chain stops at a refusal, and goes on past a check that is done
pub refusal-stops : (r : Refusal) {v : Verdict} (w : Verdict) → verdict_of r ≡ v → verdict_of r ≡ (v or_else w)
refusal-stops r w e = chain-stop w e (not-done r)

pub exit-stops : (x : Result (Unit {0}) Refusal) (r : Refusal) {v : Verdict} (w : Verdict) → IsErrAnd x (λ y. y ≡ r) → verdict_of r ≡ v → as_verdict x ≡ (v or_else w)
exit-stops x r w h e = ap as_verdict (exit-is x r h) ∙ refusal-stops r w e

pub done-goes : {v w r : Verdict} → done ≡ v → r ≡ w → r ≡ (v or_else w)
done-goes e = chain-go e refl

-- for `search`: the exits of a chain
pub ruleset exits = (exit-stops, done-goes)
