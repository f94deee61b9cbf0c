use native.Mathlib.Omega.{arith}
use Rattle.rules.specs.Report.{text}
use Rattle.rules.specs.Cases.{run_numbers}
use Rattle.report.specs.Laying.{widest, longest}
use Rattle.report.specs.Splits.{told_job}
use Rattle.report.proofs.Lines.{figure-form}
use Rattle.report.proofs.Laying.{wrote_as, wrote_more}
use Rattle.report.proofs.figures.RunLinesTold.lay.Goals as goal

pub returns : goal.returns
unfolding text widest longest
returns c =
    let r = c.args.self.now in
    let head = wrote_more (wrote_more c.put_first.ensures c.form.ensures) c.put_settled.ensures in
    wrote_as _ (wrote_more (wrote_more head c.form-2.ensures) c.lay_sides.ensures)
    (figure-form (told_job r.split) (run_numbers r.ran) r.split.sides.now _ c.size_on-b.ensures) (omega arith)
