use Rattle.std.proofs.Common.{arith}
use Rattle.frames.proofs.Failing.{changed_first}
use Rattle.frames.proofs.take.Goals as goal

pub returns-in_err-got-clause-failed : goal.returns-in_err-got-clause-failed
returns-in_err-got-clause-failed g c =
    let came = c.in_err-got.ensures.failed in
    changed_first _ _ _ came.0 _ (omega (arith, came.1)) came.2

pub returns-in_err-take_from-clause-failed : goal.returns-in_err-take_from-clause-failed
returns-in_err-take_from-clause-failed g c = changed_first _ _ _ c.in_ok-got.got _ (omega (arith, c.in_ok-got.ensures.prefix_len.1)) c.in_ok-got.ensures.room_unchanged
