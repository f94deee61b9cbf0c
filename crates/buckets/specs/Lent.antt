-- The buckets that a call is lent: the same list of links, of the same shape, before it and after it. Assumes nothing.
use Rattle.std.specs.Prelude.{◌≡◌}
use Rattle.buckets.specs.declared.slots.Buckets.{Buckets}

pub record SameBuckets (old new : Buckets) : Type 0 where
  pub links : new.links.ghost_name ≡ old.links.ghost_name
  pub shape : new.shape ≡ old.shape
