-- The heads passed name none. Assumes nothing.
use Rattle.std.proofs.Common.{◌≡◌}
use Rattle.buckets.specs.Links.{emptied}
use Rattle.buckets.specs.Lent.{SameBuckets}
use Rattle.buckets.proofs.slots.Buckets.empty.Given as goal

abbrev pub invariant-loop-s : goal.invariant-loop-s
invariant-loop-s l = record {
  same_lists : SameBuckets l.initial.self l.self;
  emptied : l.self.links.now ≡ emptied l.none l.initial.self.links.now l.s;
}
