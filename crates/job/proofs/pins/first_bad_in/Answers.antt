use mathlib.Core.Path.{refl}
use native.Mathlib.Omega.{arith}
use Rattle.job.proofs.HoldsOf.{recipe-hit, recipe-more, recipe-end}
use Rattle.job.proofs.pins.first_bad_in.Goals as goal

pub returns-then-is_bad_pin-clause-first : goal.returns-then-is_bad_pin-clause-first
returns-then-is_bad_pin-clause-first c = (omega arith, recipe-hit c.loop-k.invariant (omega arith) _ refl c.is_bad_pin.ensures c.if-is_bad_pin.true)

pub loop-k-preserved : goal.loop-k-preserved
loop-k-preserved c = recipe-more c.loop-k.invariant (omega arith) _ refl c.is_bad_pin.ensures c.if-is_bad_pin.false

pub returns-clause-first : goal.returns-clause-first
returns-clause-first c = (recipe-end c.loop-k.invariant (omega arith)).0
