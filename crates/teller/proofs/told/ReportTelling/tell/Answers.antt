use mathlib.Core.Path.{◌∙◌}
use native.Mathlib.Omega.{arith}
use Rattle.job.specs.Given.{the_limits, the_job}
use Rattle.report.proofs.Lending.{result-answered}
use Rattle.teller.proofs.Telling.{run-numbered, run-printed}
use Rattle.teller.proofs.told.ReportTelling.tell.Goals as goal

pub returns : goal.returns
returns c =
    let a = c.args in
    let r = c.report in
    let each = c.requires.each_file in
    let sides = c.run-answer.auto.sides in
    let told = rw c.numbered.ensures at r.ensures.out_after in
    let e = run-printed a.edition the_limits (the_job a.job a.book a.sides.now) _ _ _ _ _ _ _ c.run-answer.ensures.value c.requires.zeros_lent (told ∙ run-numbered the_limits _ _ _ a.out.now c.run-answer.result) in
    record {
      out_after = e.0;
      answered = λ room. result-answered _ a.out.now _ r.result e.0 (r.ensures.enough (sides ∙ each.0) each.1 (omega (arith, room, sides, each.0, c.requires.files)));
    }
