-- `AfterMove::bring_scans` meets its contract. The invariant: the files that the first scans changed are brought. Assumes nothing.
use mathlib.Core.Path.{◌≡◌}
use lib.ListN.{length, take}
use Rattle.rules.specs.Job.{view_of}
use Rattle.buckets.specs.Lent.{SameBuckets}
use Rattle.split.specs.Links.{touched_by}
use Rattle.split.specs.Bringing.{state_after, brought}
use Rattle.split.proofs.fronts.AfterMove.bring_scans.Given as goal

abbrev pub invariant-loop-j : goal.invariant-loop-j
invariant-loop-j l =
    let s = l.self.scans in
    let at = length l.yielded in
    record {
      same_lists : SameBuckets l.initial.buckets l.buckets;
      links :
          l.buckets.links.now
          ≡ brought l.self
          (touched_by (state_after l.self) l.self.moved.side (view_of s.recipes.bounds.now s.recipes.pins.now) (take at s.listed.now) (take at s.kinds.now))
          l.initial.buckets;
    }
