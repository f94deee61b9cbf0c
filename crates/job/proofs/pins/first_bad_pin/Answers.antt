use mathlib.Core.Path.{refl}
use native.Mathlib.Omega.{arith}
use Rattle.rules.proofs.SoundJob.{bounds-pass}
use Rattle.job.proofs.OwnRecipe.{pins-none, pins-part, pins-hit, pins-more, pins-end}
use Rattle.job.proofs.pins.first_bad_pin.Goals as goal

pub loop-j-init : goal.loop-j-init
loop-j-init c = let r = bounds-pass _ c.requires in pins-none _ _ (record { first = r.0; two = r.1; last = r.2 }) c.args.placed.few_files

pub first_bad_in-requires : goal.first_bad_in-requires
first_bad_in-requires c = pins-part c.loop-j.invariant (omega arith) _ _ refl refl

pub returns-in-Some : goal.returns-in-Some
returns-in-Some c = let s = c.in-Some.ensures.first in pins-hit c.loop-j.invariant (omega arith) _ _ refl refl _ s.1 s.0

pub loop-j-preserved : goal.loop-j-preserved
loop-j-preserved c =
    let s = c.in_default.ensures in pins-more c.loop-j.invariant (omega arith) _ _ refl refl _ s.first _ refl s.held.0 s.held.1

pub returns : goal.returns
returns c = pins-end c.loop-j.invariant (omega arith)
