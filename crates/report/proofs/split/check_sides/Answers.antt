use Prim.Native.Nat.{◌≤◌, ◌<◌}
use Rattle.std.proofs.Common.{rules, Some, None}
use Rattle.std.proofs.lemmas.Iterator.{YieldsList-from_slice, IsFirst-from_position}
use native.Mathlib.Omega.{arith}
use borrow.Author.Tests.{tests}
use Rattle.report.proofs.Splits.{bad-side, no-bad-side}
use Rattle.report.proofs.split.check_sides.Goals as goal

pub returns-in-Some : goal.returns-in-Some
returns-in-Some c =
    let w = IsFirst-from_position _ _ (Some c.in-Some.file) (λ s. 1 < s) (λ s. s ≤ 1) c.in-Some.ensures.ran (YieldsList-from_slice c.args.sides.now cc)
    (λ x q k. search (rules, tests)) (λ x q k. search (rules, tests)) in
    bad-side c.args.sides.now c.in-Some.file w.0 (w.1 0) (λ k h. w.2 k 0 (omega arith) h)

pub returns-in-None : goal.returns-in-None
returns-in-None c =
    let w = IsFirst-from_position _ _ None (λ s. 1 < s) (λ s. s ≤ 1) c.in-None.ensures.ran (YieldsList-from_slice c.args.sides.now cc)
    (λ x q k. search (rules, tests)) (λ x q k. search (rules, tests)) in
    no-bad-side c.args.sides.now (λ k h. w k 0 (omega arith) h)
