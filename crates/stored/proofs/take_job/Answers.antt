use Rattle.std.proofs.Common.{ap, ◌∙◌}
use Rattle.std.specs.Prelude.{Result}
use Rattle.rules.specs.declared.Verdict.{Verdict}
use Rattle.rules.specs.declared.refusal.Refusal.{Refusal}
use Rattle.rules.proofs.Exits.{exit-is}
use Rattle.stored.specs.declared.taken.TakenUp.{TakenUp}
use Rattle.stored.specs.Room.{as_taken}
use Rattle.stored.proofs.Readings.{opening-refused, blocks-refused, contents-told}
use Rattle.stored.proofs.take_job.Goals as goal

abbrev verdict_in : Result TakenUp Refusal → Verdict
verdict_in r = (as_taken r).verdict

pub returns-in_err-header-clause-verdict : goal.returns-in_err-header-clause-verdict
returns-in_err-header-clause-verdict c = ap verdict_in (exit-is _ _ c.from_residual.ensures.1) ∙ opening-refused _ _ _ _ c.in_err-header.ensures.verdict

pub returns-in_err-take_blocks-clause-verdict : goal.returns-in_err-take_blocks-clause-verdict
returns-in_err-take_blocks-clause-verdict c =
    let o = c.in_ok-header.ensures in
    ap verdict_in (exit-is _ _ c.from_residual-in_err-take_blocks.ensures.1) ∙ blocks-refused _ _ _ o.verdict o.header _ c.in_err-take_blocks.ensures.verdict

pub returns-in_err-sound_verdict-clause-verdict : goal.returns-in_err-sound_verdict-clause-verdict
returns-in_err-sound_verdict-clause-verdict c =
    let o = c.in_ok-header.ensures in
    let b = c.in_ok-take_blocks.ensures in
    let h = b.header ∙ o.header in
    ap verdict_in (exit-is _ _ c.from_residual-in_err-sound_verdict.ensures.1)
    ∙ contents-told _ _ _ o.verdict h (rw (← b.header) at b.verdict) _ b.lists c.in_err-sound_verdict.ensures

pub returns-clause-verdict : goal.returns-clause-verdict
returns-clause-verdict c =
    let o = c.in_ok-header.ensures in
    let b = c.in_ok-take_blocks.ensures in
    let h = b.header ∙ o.header in
    contents-told _ _ _ o.verdict h (rw (← b.header) at b.verdict) _ b.lists c.in_ok-sound_verdict.ensures
