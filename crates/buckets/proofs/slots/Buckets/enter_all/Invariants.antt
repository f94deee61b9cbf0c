-- The free files passed have entered. Assumes nothing.
use Rattle.std.proofs.Common.{◌≡◌}
use Rattle.buckets.specs.Entries.{entered_below}
use Rattle.buckets.specs.Lent.{SameBuckets}
use Rattle.buckets.proofs.slots.Buckets.enter_all.Given as goal

abbrev pub invariant-loop-f : goal.invariant-loop-f
invariant-loop-f l = record {
  same_lists : SameBuckets l.initial.self l.self;
  entered : l.self.links.now ≡ entered_below l.places.shape l.marks l.sides l.gains l.initial.self.links.now l.f;
}
