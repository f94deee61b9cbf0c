use Rattle.std.proofs.Common.{refl}
use Rattle.buckets.specs.Entries.{taken_out}
use Rattle.buckets.proofs.slots.Buckets.take_out.Goals as goal

pub returns-in-Some-clause-value : goal.returns-in-Some-clause-value
unfolding taken_out
returns-in-Some-clause-value c =
    let fit = c.in-Some.ensures in
    rw fit.0 cc

pub returns-in_default-clause-value : goal.returns-in_default-clause-value
unfolding taken_out
returns-in_default-clause-value c = rw c.in_default.ensures refl
