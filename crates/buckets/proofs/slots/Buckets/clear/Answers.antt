use Rattle.std.proofs.Common.{rules}
use Rattle.buckets.specs.Entries.{cleared}
use Rattle.buckets.proofs.slots.Buckets.clear.Goals as goal

pub returns-clause-value : goal.returns-clause-value
unfolding cleared
returns-clause-value c = search rules
