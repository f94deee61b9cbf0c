-- `AfterMove::bring_pins` meets its contract. The invariant: those changed of the first pins are brought. Assumes nothing.
use mathlib.Core.Path.{◌≡◌}
use lib.ListN.{take}
use Rattle.buckets.specs.Lent.{SameBuckets}
use Rattle.split.specs.Bringing.{changed, brought}
use Rattle.split.proofs.fronts.AfterMove.bring_pins.Given as goal

abbrev pub invariant-loop-f : goal.invariant-loop-f
invariant-loop-f l = record {
  same_lists : SameBuckets l.initial.buckets l.buckets;
  links : l.buckets.links.now ≡ brought l.self (changed l.self l.kind (take l.f-index l.pins)) l.initial.buckets;
}
