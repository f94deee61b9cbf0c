use mathlib.Core.Path.{ap, ◌∙◌}
use native.Mathlib.Omega.{arith}
use Rattle.rules.specs.Writing.{HandedOut, hand_into}
use Rattle.rules.specs.Balance.{balances}
use Rattle.job.specs.Given.{the_limits}
use Rattle.stored.proofs.JobTaken.{bytes_read, within-read}
use Rattle.hander.proofs.Handing.{result-both-lendable}
use Rattle.hander.proofs.Balancing.{balance-refused, balance-read}
use Rattle.hander.proofs.balance.Goals as goal

pub balance_job-requires : goal.balance_job-requires
balance_job-requires c =
    let t = c.in-Ok in
    let bytes = c.args.input.now in
    record { blocks = (bytes_read the_limits bytes t.taken t.ensures.read_value t.ensures.result_value, within-read the_limits bytes t.taken t.ensures.read_value t.ensures.result_value _ (omega arith)) }

pub returns-in-Ok : goal.returns-in-Ok
returns-in-Ok c =
    let a = c.args in
    let t = c.in-Ok in
    let j = c.balance_job in
    let e = j.ensures.room_after ∙ ap (λ (x : HandedOut). hand_into x a.room.now) (balance-read the_limits a.input.now t.taken t.ensures.read_value t.ensures.result_value) in
    record { room_after = e; answered = (j.ensures.answered, result-both-lendable (balances the_limits a.input.now) a.room.now _ j.result e) }

pub returns-in-Err : goal.returns-in-Err
returns-in-Err c =
    let a = c.args in
    let h = c.hand_refusal in
    let e = h.ensures.room_after ∙ ap (λ (x : HandedOut). hand_into x a.room.now) (balance-refused the_limits a.input.now c.in-Err.refusal c.in-Err.ensures.read_value) in
    record { room_after = e; answered = (λ long. h.ensures.answered (omega (arith, long)), result-both-lendable (balances the_limits a.input.now) a.room.now _ h.result e) }
