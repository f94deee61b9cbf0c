use mathlib.Core.Path.{refl, ap, ◌∙◌}
use native.Mathlib.Omega.{arith}
use Rattle.rules.specs.Writing.{HandedOut, hand_into}
use Rattle.job.specs.Given.{the_limits, the_job}
use Rattle.hander.proofs.Resettling.{run-refused, run-made, run-writes}
use Rattle.rules.proofs.Exits.{not-done}
use Rattle.hander.proofs.resettle_run.Goals as goal

pub returns-in-Err : goal.returns-in-Err
returns-in-Err c =
    let a = c.args in
    let o = run-refused a.edition the_limits (the_job a.job a.book a.sides.now) _ _ _ _ c.in-Err.ensures.value c.requires.zeros_lent (not-done c.in-Err.refusal) in
    let h = c.hand_refusal.ensures in
    record { room_after = h.room_after ∙ ap (λ (x : HandedOut). hand_into x a.room.now) o; answered = λ long. h.answered (omega (arith, long)) }

pub hand_blocks-requires : goal.hand_blocks-requires
hand_blocks-requires c =
    let a = c.args in
    record { can_be_written = run-writes a.edition the_limits (the_job a.job a.book a.sides.now) _ _ _ _ c.in-Ok.ensures.value c.requires.zeros_lent refl; blocks = c.requires.blocks.0 }

pub returns-in-Ok : goal.returns-in-Ok
returns-in-Ok c =
    let a = c.args in
    let o = run-made a.edition the_limits (the_job a.job a.book a.sides.now) _ _ _ _ c.in-Ok.ensures.value c.requires.zeros_lent refl in
    let h = c.hand_blocks.ensures in
    record { room_after = h.room_after ∙ ap (λ (x : HandedOut). hand_into x a.room.now) o; answered = λ long. h.answered (omega (arith, long, c.requires.blocks.1)) }
