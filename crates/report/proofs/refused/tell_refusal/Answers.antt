use mathlib.Core.Path.{ap, ◌∙◌}
use mathlib.Core.List.{List}
use Prim.Native.Nat.{ℕ}
use Rattle.rules.specs.Report.{text, into_room}
use Rattle.report.proofs.Lines.{refusal-form}
use Rattle.report.proofs.Comparisons.{as-line}
use Rattle.report.proofs.refused.tell_refusal.Goals as goal

pub returns-clause-out_after : goal.returns-clause-out_after
unfolding text
returns-clause-out_after c = c.tell.ensures.told ∙ as-line _ _ ∙ ap (λ (t : List ℕ). into_room t c.args.out.now) (refusal-form c.args.verdict)
