use native.Mathlib.Omega.{arith}
use Rattle.rules.specs.Report.{text}
use Rattle.report.specs.Laying.{widest, longest}
use Rattle.report.proofs.Traces.{scan-form}
use Rattle.report.proofs.Laying.{wrote_as}
use Rattle.report.proofs.moves.put_scan.Goals as goal

pub returns : goal.returns
unfolding text widest longest
returns c = wrote_as _ c.form.ensures (scan-form c.args.recipe c.args.kind) (omega arith)
