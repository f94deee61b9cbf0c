use native.Mathlib.Omega.{arith}
use Rattle.rules.specs.Report.{text}
use Rattle.report.specs.Bytes.{gain_bytes}
use Rattle.report.specs.Laying.{widest, longest}
use Rattle.report.proofs.Gains.{signed_back}
use Rattle.report.proofs.Traces.{move-form}
use Rattle.report.proofs.Laying.{wrote_as, wrote_more}
use Rattle.report.proofs.moves.put_own_line.Goals as goal

pub returns : goal.returns
unfolding text widest longest
returns c =
    let gain = wrote_as gain_bytes c.put_signed.ensures (signed_back c.ranges.gain) (omega arith) in
    wrote_as _ (wrote_more (wrote_more c.form.ensures gain) c.form-2.ensures) (move-form c.args.file c.args.gain c.args.cut) (omega arith)
