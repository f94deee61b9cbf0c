use Rattle.std.proofs.Common.{rules}
use Rattle.buckets.specs.Entries.{entered_at}
use Rattle.buckets.proofs.slots.Buckets.enter_at.Goals as goal

pub returns-clause-value : goal.returns-clause-value
unfolding entered_at
returns-clause-value c = search rules
