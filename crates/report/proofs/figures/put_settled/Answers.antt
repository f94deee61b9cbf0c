use native.Mathlib.Omega.{arith}
use mathlib.Core.Path.{refl}
use Rattle.rules.specs.Report.{text, spaced, line}
use Rattle.report.proofs.Laying.{wrote_as}
use Rattle.report.proofs.figures.put_settled.Goals as goal

pub returns-then-settled : goal.returns-then-settled
unfolding text spaced line
returns-then-settled c = rw c.if-settled.true c.plain.ensures

pub returns : goal.returns
unfolding text spaced line
returns c = rw c.if-settled.false (wrote_as _ c.plain-2.ensures refl (omega arith))
