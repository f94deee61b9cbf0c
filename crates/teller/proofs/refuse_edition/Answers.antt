use mathlib.Core.Path.{◌≡◌, refl, ap, ◌∙◌}
use Rattle.rules.specs.declared.Verdict.{Verdict}
use Rattle.rules.specs.Check.{check_edition}
use Rattle.rules.specs.Report.{refusal, into_room}
use Rattle.teller.proofs.refuse_edition.Goals as goal

-- 0 names none
none_named : record { number = 32; place = 0 } ≡ check_edition 0
unfolding check_edition
none_named = refl

pub returns-clause-out_after : goal.returns-clause-out_after
returns-clause-out_after c = c.print_refusal.ensures.out_after ∙ ap (λ (v : Verdict). into_room (refusal v) c.args.out.now) none_named
