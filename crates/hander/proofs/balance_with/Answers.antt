use mathlib.Core.Path.{refl, ap, ◌∙◌}
use native.Mathlib.Omega.{arith}
use Rattle.rules.specs.Writing.{HandedOut, hand_into}
use Rattle.rules.proofs.Exits.{not-done}
use Rattle.job.specs.Given.{the_limits, the_job}
use Rattle.hander.proofs.Balancing.{refused-out, made-out, after-made}
use Rattle.hander.proofs.balance_with.Goals as goal

pub returns-in-Err : goal.returns-in-Err
returns-in-Err c =
    let a = c.args in
    let o = refused-out the_limits (the_job a.job a.book a.sides.now) _ _ _ _ c.in-Err.ensures c.requires.zeros_lent (not-done c.in-Err.refusal) in
    let h = c.hand_refusal.ensures in
    record { room_after = h.room_after ∙ ap (λ (x : HandedOut). hand_into x a.room.now) o; answered = λ long. h.answered (omega (arith, long)) }

pub hand_made-requires : goal.hand_made-requires
hand_made-requires c =
    let a = c.args in
    after-made the_limits (the_job a.job a.book a.sides.now) _ _ _ _ c.in-Ok.ensures c.requires.zeros_lent refl a.bytes c.requires.blocks.0

pub returns-in-Ok : goal.returns-in-Ok
returns-in-Ok c =
    let a = c.args in
    let o = made-out the_limits (the_job a.job a.book a.sides.now) _ _ _ _ c.in-Ok.ensures c.requires.zeros_lent refl in
    let h = c.hand_made.ensures in
    record { room_after = h.room_after ∙ ap (λ (x : HandedOut). hand_into x a.room.now) o; answered = λ long. h.answered (omega (arith, long, c.requires.blocks.1)) }
