use mathlib.Core.Path.{refl}
use native.Mathlib.Omega.{arith}
use Rattle.rules.specs.Report.{refusal}
use Rattle.report.proofs.Lending.{result-answered, result-lendable}
use Rattle.teller.proofs.told.print_refusal.Goals as goal

pub returns-clause-answered : goal.returns-clause-answered
returns-clause-answered c =
    let r = c.report in
    let line = refusal c.from.result in (
      λ long. result-answered line c.args.out.now _ r.result r.ensures.out_after (r.ensures.enough refl refl (omega (arith, long))),
      result-lendable line c.args.out.now _ r.result r.ensures.out_after,
    )
