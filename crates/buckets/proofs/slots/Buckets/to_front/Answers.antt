use Rattle.std.proofs.Common.{rules, refl}
use Rattle.buckets.specs.Entries.{brought_front}
use Rattle.buckets.proofs.slots.Buckets.to_front.Goals as goal

pub returns-in-Some-clause-value : goal.returns-in-Some-clause-value
unfolding brought_front
returns-in-Some-clause-value c =
    let fit = c.in-Some.ensures in
    rw fit.0 (search rules)

pub returns-in_default-clause-value : goal.returns-in_default-clause-value
unfolding brought_front
returns-in_default-clause-value c = rw c.in_default.ensures refl
