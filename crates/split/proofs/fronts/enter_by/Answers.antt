-- `fronts::enter_by` meets its contract: the links come back to their place. Assumes nothing.
use Rattle.buckets.specs.Entries.{entered_all}
use Rattle.split.specs.Links.{entered_by}
use Rattle.split.proofs.LinksLent.{lent_back}
use Rattle.split.proofs.fronts.enter_by.Goals as goal

pub returns-in-Two : goal.returns-in-Two
unfolding entered_by
returns-in-Two c =
    let a = c.args in
    rw c.in-Two.is
    (lent_back a.extent.files a.extent.recipes a.extent.pins a.scratch.now c.links_of.ensures.0 c.links_of.ensures.1
    (λ x l. entered_all x a.marks.now a.standing.sides.now a.standing.gains.now l) c.shape_of.ensures c.enter.ensures)
