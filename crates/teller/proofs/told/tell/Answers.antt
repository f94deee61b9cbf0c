use mathlib.Core.Path.{ap, ◌∙◌}
use mathlib.Core.List.{List}
use Prim.Native.Nat.{ℕ}
use Rattle.rules.specs.Report.{into_room}
use Rattle.job.specs.Given.{the_limits}
use Rattle.report.proofs.Lending.{result-lendable}
use Rattle.teller.proofs.Telling.{told-refused, told-read}
use Rattle.teller.proofs.told.tell.Goals as goal

pub returns-in-Ok-clause-out_after : goal.returns-in-Ok-clause-out_after
returns-in-Ok-clause-out_after g c =
    let a = c.args in
    let t = c.in-Ok in
    c.tell_taken.ensures.out_after ∙ ap (λ (l : List ℕ). into_room l a.out.now) (told-read (g.T.Telling.text a.edition) the_limits a.input.now t.taken t.ensures.read_value t.ensures.result_value)

pub returns-in-Ok-clause-answered : goal.returns-in-Ok-clause-answered
returns-in-Ok-clause-answered g c =
    let e = c.tell_taken.ensures in
    (e.answered, result-lendable _ c.args.out.now _ c.tell_taken.result e.out_after)

pub returns-in-Err-clause-out_after : goal.returns-in-Err-clause-out_after
returns-in-Err-clause-out_after g c =
    let a = c.args in
    c.print_refusal.ensures.out_after ∙ ap (λ (l : List ℕ). into_room l a.out.now) (told-refused (g.T.Telling.text a.edition) the_limits a.input.now c.in-Err.refusal c.in-Err.ensures.read_value)
