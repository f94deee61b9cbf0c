use mathlib.Core.Path.{ap, ◌∙◌}
use mathlib.Core.List.{List}
use Prim.Native.Nat.{ℕ}
use Rattle.rules.specs.Report.{into_room}
use Rattle.job.specs.Given.{the_limits}
use Rattle.teller.proofs.Telling.{traces-told}
use Rattle.teller.proofs.trace.Goals as goal

pub returns-clause-out_after : goal.returns-clause-out_after
returns-clause-out_after c = c.tell.ensures.out_after ∙ ap (λ (l : List ℕ). into_room l c.args.out.now) (traces-told c.args.edition the_limits c.args.input.now)
