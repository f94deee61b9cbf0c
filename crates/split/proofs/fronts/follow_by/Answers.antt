-- `fronts::follow_by` meets its contract: the links come back to their place. Assumes nothing.
use Rattle.rules.specs.Job.{view_of}
use Rattle.rules.specs.Split.{side_of}
use Rattle.buckets.specs.Entries.{taken_out}
use Rattle.tables.specs.Zones.{state_of}
use Rattle.split.specs.Links.{brought_all, touched_by, followed_by}
use Rattle.split.proofs.LinksLent.{split-back}
use Rattle.split.proofs.fronts.follow_by.Goals as goal

pub returns-in-Two : goal.returns-in-Two
unfolding followed_by
returns-in-Two c =
    let a = c.args in
    let sides = a.standing.sides.now in
    let look = view_of a.scans.recipes.bounds.now a.scans.recipes.pins.now in
    let s = c.split_at_mut-front.ensures in
    rw c.in-Two.is
    (split-back a.extent.files a.extent.recipes a.extent.pins a.scratch.now c.links_of-at.ensures.0 c.links_of-at.ensures.1
    (λ locks shape links. brought_all shape sides a.standing.gains.now
    (touched_by (state_of sides locks) (side_of sides a.f) look a.scans.listed.now a.scans.kinds.now) (taken_out shape a.f links))
    s.front s.back c.requires.sides.0 c.shape_of.ensures c.follow.ensures)
