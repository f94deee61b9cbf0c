-- The two stores are those of the definition. Assumes nothing.
use Rattle.buckets.specs.Links.{joined}
use Rattle.buckets.proofs.slots.Buckets.join.Goals as goal

pub returns-clause-value : goal.returns-clause-value
unfolding joined
returns-clause-value c = cc
