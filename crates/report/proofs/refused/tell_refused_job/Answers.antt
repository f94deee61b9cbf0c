use mathlib.Core.Path.{ap, ◌∙◌}
use mathlib.Core.List.{List}
use Prim.Native.Nat.{ℕ}
use Rattle.rules.specs.Report.{text, into_room}
use Rattle.report.proofs.Comparisons.{refused-form, as-line}
use Rattle.report.proofs.refused.tell_refused_job.Goals as goal

pub returns-clause-out_after : goal.returns-clause-out_after
unfolding text
returns-clause-out_after c = c.tell.ensures.told ∙ as-line _ _ ∙ ap (λ (t : List ℕ). into_room t c.args.out.now) (refused-form c.args.refused.job c.args.refused.verdict)
