-- A chain of checks by `?` that answers something. Assumes nothing.
use mathlib.Core.Path.{◌≡◌, sym, ap, ◌∙◌}
use Prim.Native.Nat.{ℕ}
use mathlib.Core.Bool.{Bool, not}
use native.Mathlib.Decide.{dec_lt}
use native.Mathlib.Omega.{arith}
use lib.Dec.{leb, ltb}
use borrow.Author.Tests.{lt-ltb, le-ltb, le-leb, lt-leb}
use Rattle.std.specs.Prelude.{Result}
use Rattle.std.specs.Result.{IsErrAnd}
use Rattle.rules.specs.declared.Verdict.{Verdict}
use Rattle.rules.specs.declared.refusal.Refusal.{Refusal}
use Rattle.rules.specs.Numbers.{verdict_of}
use Rattle.rules.specs.Check.{done, refuse_if, ◌or_else◌}
use Rattle.rules.proofs.Exits.{exit-is, not-done, done-goes}
use Rattle.rules.proofs.Verdicts.{chain-stop}
use Rattle.report.specs.Steps.{verdict_on}

pub exit-on : {A : Type 0} (x : Result A Refusal) (r : Refusal) {v : Verdict} (w : Verdict) → IsErrAnd x (λ y. y ≡ r) → verdict_of r ≡ v → verdict_on x ≡ (v or_else w)
exit-on x r w h e = ap verdict_on (exit-is x r h) ∙ chain-stop w e (not-done r)

pub last-on : {A : Type 0} (x : Result A Refusal) (r : Refusal) {v w : Verdict} → IsErrAnd x (λ y. y ≡ r) → done ≡ v → verdict_of r ≡ w → verdict_on x ≡ (v or_else w)
last-on x r h d e = done-goes d (ap verdict_on (exit-is x r h) ∙ e)

-- n of something are fewer than m that are needed
fewer-is : (n m : ℕ) → ltb n m ≡ not (leb m n)
fewer-is n m = elim (dec_lt n m) [
  | yes h ↦ lt-ltb n m h ∙ sym (ap not (lt-leb m n h))
  | no h ↦ le-ltb n m (omega arith) ∙ sym (ap not (le-leb m n (omega arith)))
]

pub fewer : {v : Verdict} (n m : ℕ) → v ≡ refuse_if (ltb n m) 3 0 → v ≡ refuse_if (not (leb m n)) 3 0
fewer n m e = e ∙ ap (λ (b : Bool). refuse_if b 3 0) (fewer-is n m)

-- for `search`: the exits of a chain
pub ruleset exits = (exit-on, last-on, done-goes, fewer)
