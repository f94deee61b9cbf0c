use native.Mathlib.Omega.{arith}
use Rattle.rules.specs.Cases.{balance_numbers}
use Rattle.rules.specs.Report.{text}
use Rattle.report.specs.Laying.{widest, longest}
use Rattle.report.specs.Splits.{told_job}
use Rattle.report.proofs.Lines.{balance-form}
use Rattle.report.proofs.Laying.{wrote_as, wrote_more}
use Rattle.report.proofs.balance.BalanceLinesTold.lay.Goals as goal

pub returns : goal.returns
unfolding text widest longest
returns c =
    let b = c.args.self.now in
    wrote_as _ (wrote_more c.put_first.ensures c.form.ensures) (balance-form (told_job b.split) (balance_numbers b.balanced) b.split.sides.now _ c.size_on-b.ensures) (omega arith)
