use Rattle.std.proofs.Common.{sym, ◌∙◌}
use Rattle.choice.proofs.Fitting.{all-lengths}
use Rattle.choice.proofs.FilesPassed.{files-none, files-next, files-legal, files-done, choice-unfit, choice-fit}
use Rattle.choice.proofs.edition1.choose.Goals as goal

pub returns-then-not-fits-clause-value : goal.returns-then-not-fits-clause-value
returns-then-not-fits-clause-value c =
    let a = c.args in
    let s = a.standing in
    choice-unfit a.window a.size s.sizes.now s.sides.now a.scratch.now s.gains.now (sym c.fits.ensures ∙ c.if-not-fits.true)

pub loop-next-init : goal.loop-next-init
loop-next-init c = record { passed = files-none; file = tt }

pub next_first-requires-clause-best_is_legal : goal.next_first-requires-clause-best_is_legal
next_first-requires-clause-best_is_legal c = files-legal c.loop-next.best c.loop-next.invariant.file c.loop-next.invariant.passed

pub loop-next-preserved : goal.loop-next-preserved
loop-next-preserved c =
    let h = c.in-Some.ensures in
    record { passed = files-next h.file h.next c.loop-next.invariant.passed; file = h.file }

pub returns-clause-value : goal.returns-clause-value
returns-clause-value c =
    let a = c.args in
    let s = a.standing in
    let t = all-lengths (sym c.fits.ensures ∙ c.if-not-fits.false) in
    files-done c.next_first.result c.in_default.not-Some c.next_first.ensures.next c.loop-next.invariant.passed
    ∙ sym (choice-fit a.window a.size s.sizes.now s.sides.now a.scratch.now s.gains.now t.0 t.1 t.2)
