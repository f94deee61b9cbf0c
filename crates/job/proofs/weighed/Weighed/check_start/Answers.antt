use mathlib.Core.Path.{◌∙◌}
use Rattle.job.proofs.Whole.{start_is, possible-is}
use Rattle.job.proofs.weighed.Weighed.check_start.Goals as goal
use Rattle.job.proofs.weighed.Weighed.check_start.Goals.{then-balancing, else-balancing}

pub returns : goal.returns
returns c =
    λ job has.
    c.refuse_if.ensures.numbers
    ∙ elim c.if-balancing.branch [
      | then-balancing w ↦ rw (c.is_balanced.ensures, w.least-is, w.if-balancing.true) (possible-is has)
      | else-balancing w ↦ rw (c.is_balanced.ensures, w.least-is, w.if-balancing.false) (start_is has)
    ]
