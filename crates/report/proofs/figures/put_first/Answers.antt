use native.Mathlib.Omega.{arith}
use Rattle.rules.specs.Report.{text}
use Rattle.report.specs.Laying.{widest, longest}
use Rattle.report.proofs.Lines.{first_done, first-partial}
use Rattle.report.proofs.Laying.{wrote_as}
use Rattle.report.proofs.figures.put_first.Goals as goal

pub returns-then-unread-eq0 : goal.returns-then-unread-eq0
unfolding text
returns-then-unread-eq0 c = wrote_as _ c.plain.ensures (first_done c.args.unread c.args.holding c.if-unread-eq0.true) (omega arith)

pub returns : goal.returns
unfolding text widest longest
returns c = wrote_as _ c.form.ensures (first-partial c.args.unread c.args.holding c.if-unread-eq0.false) (omega arith)
