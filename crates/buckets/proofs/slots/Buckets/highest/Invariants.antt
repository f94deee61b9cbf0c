-- The heads not yet passed give the answer. Assumes nothing.
use Rattle.std.proofs.Common.{◌≡◌}
use Rattle.buckets.specs.Links.{highest_in}
use Rattle.buckets.proofs.slots.Buckets.highest.Given as goal

abbrev pub invariant-loop-level : goal.invariant-loop-level
invariant-loop-level l = highest_in l.none l.from l.self.links.now l.level ≡ highest_in l.none l.from l.self.links.now l.top
