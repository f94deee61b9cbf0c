use native.Mathlib.Omega.{arith}
use Rattle.rules.specs.Report.{text}
use Rattle.report.specs.Laying.{widest, longest}
use Rattle.report.proofs.Comparisons.{difference-form}
use Rattle.report.proofs.Laying.{wrote_as}
use Rattle.report.proofs.differences.put_difference.Goals as goal

pub returns : goal.returns
unfolding text widest longest
returns c = let d = c.args.d in wrote_as _ c.form.ensures (difference-form d.what d.number d.old d.new) (omega arith)
