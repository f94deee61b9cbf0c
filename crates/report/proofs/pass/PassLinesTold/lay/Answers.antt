use native.Mathlib.Omega.{arith}
use Rattle.rules.specs.Cases.{pass_numbers}
use Rattle.rules.specs.Report.{text}
use Rattle.report.specs.Cases.{listed}
use Rattle.report.specs.Laying.{widest, longest}
use Rattle.report.specs.Splits.{told_job}
use Rattle.report.proofs.Traces.{lines-held, pass-form, before-held}
use Rattle.report.proofs.Laying.{wrote_as, wrote_more}
use Rattle.report.proofs.pass.PassLinesTold.lay.Goals as goal

pub put_moves-requires-clause-moves_held : goal.put_moves-requires-clause-moves_held
put_moves-requires-clause-moves_held c = (lines-held c.args.self.now).moves

pub returns : goal.returns
unfolding text widest longest
returns c =
    let p = c.args.self.now in
    let l = listed p.lists in
    let f = pass_numbers p.passed in
    let h = lines-held p in
    let head = wrote_more (wrote_more c.put_first.ensures c.put_moves.ensures.wrote) c.put_gains.ensures in
    wrote_as _ (wrote_more (wrote_more head c.form.ensures) c.lay_sides.ensures) (pass-form (told_job p.split) f p.split.sides.now l _ c.size_on-b.ensures)
    (omega (arith, p.split.each_file.sided, before-held l f.tried h.moves))
