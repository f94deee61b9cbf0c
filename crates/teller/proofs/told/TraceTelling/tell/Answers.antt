use mathlib.Core.Path.{ap, ◌∙◌}
use native.Mathlib.Omega.{arith}
use Rattle.rules.specs.Cases.{as_printed, pass_told}
use Rattle.job.specs.Given.{the_limits, the_job}
use Rattle.report.proofs.Lending.{result-answered}
use Rattle.teller.proofs.Telling.{pass-numbered, pass-told, enough-as, pass-printed}
use Rattle.teller.proofs.told.TraceTelling.tell.Goals as goal

pub returns : goal.returns
returns c =
    let a = c.args in
    let t = c.trace in
    let each = c.requires.each_file in
    let told = rw (c.numbered.ensures, c.listing-lists.ensures) at t.ensures.out_after in
    let e = pass-printed a.edition the_limits (the_job a.job a.book a.sides.now) _ _ _ _ _ _ _ c.pass_once-answer.ensures.value c.requires.zeros_lent (told ∙ pass-numbered the_limits _ _ _ a.out.now _ c.pass_once-answer.result) in
    let enough = enough-as (as_printed t.result).verdict _ _ _ a.out.now (ap pass_told c.numbered.ensures ∙ pass-told c.pass_once-answer.result) c.listing-lists.ensures t.ensures.enough_told in
    record {
      out_after = e.0;
      answered = λ room. result-answered _ a.out.now _ t.result e.0 (enough (e.3 ∙ each.0) each.1 e.2 (omega (arith, room, e.4, c.requires.files)));
    }
