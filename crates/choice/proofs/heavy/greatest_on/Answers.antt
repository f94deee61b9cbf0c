use Rattle.std.proofs.Common.{rules, sym, ◌∙◌}
use Rattle.choice.proofs.Fitting.{fit-lengths}
use Rattle.choice.proofs.Leading.{led-none, led-more, led-all, greatest-unfit, greatest-fit}
use Rattle.choice.proofs.heavy.greatest_on.Goals as goal

pub returns-then-not-fit_files-clause-value : goal.returns-then-not-fit_files-clause-value
returns-then-not-fit_files-clause-value c =
    let a = c.args in
    greatest-unfit a.side a.sides.now a.scratch.now a.gains.now (search rules)

pub loop-f-init : goal.loop-f-init
loop-f-init c = record { led = led-none; file = tt }

pub loop-f-preserved : goal.loop-f-preserved
loop-f-preserved c = record { led = led-more c.loop-f.invariant.led c.loop-f-test.true c.leader-best.ensures.leads; file = c.leader-best.ensures.file }

pub returns-clause-value : goal.returns-clause-value
returns-clause-value c =
    let a = c.args in
    let t = fit-lengths (sym c.fit_files.ensures ∙ c.if-not-fit_files.false) in
    led-all c.loop-f.invariant.led c.loop-f-test.false ∙ sym (greatest-fit a.side a.sides.now a.scratch.now a.gains.now t.0 t.1)
