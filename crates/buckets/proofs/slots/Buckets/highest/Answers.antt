use Rattle.std.proofs.Common.{◌≡◌, ◌∙◌, sym, arith}
use Rattle.buckets.specs.Links.{highest_in}
use Rattle.buckets.proofs.Found.{stops, goes_on}
use Rattle.buckets.proofs.slots.Buckets.highest.Goals as goal

pub returns-then-front-none-clause-value : goal.returns-then-front-none-clause-value
returns-then-front-none-clause-value c =
    let a = c.args in
    let l = c.loop-level in
    let e = rw (c.from.ensures, c.from-in-loop-level.ensures) at c.entry-front.ensures in
    omega (arith, stops a.none a.from a.self.now.links.now l.level c.loop-level-test.true (λ q. c.if-front-none.true (e ∙ q)), l.invariant)

pub loop-level-preserved : goal.loop-level-preserved
loop-level-preserved c =
    let a = c.args in
    let l = c.loop-level in
    let e = rw (c.from.ensures, c.from-in-loop-level.ensures) at c.entry-front.ensures in
    sym (goes_on a.none a.from a.self.now.links.now l.level c.loop-level-test.true (sym e ∙ c.if-front-none.false)) ∙ l.invariant

pub returns-clause-value : goal.returns-clause-value
unfolding highest_in
returns-clause-value c =
    let z : c.loop-level.level ≡ 0 = omega arith in
    rw z at c.loop-level.invariant
