-- `fronts::choose_by` meets its contract: the links come back to their place. Assumes nothing.
use mathlib.Core.Path.{sym, ap, ap₂, ◌∙◌}
use Rattle.choice.specs.Cases.{as_best}
use Rattle.buckets.specs.declared.slots.Shape.{Shape}
use Rattle.buckets.specs.Offers.{Chosen, chosen_front}
use Rattle.split.specs.Links.{picked_is, picked_by}
use Rattle.split.proofs.LinksLent.{lent_back, lent-read}
use Rattle.split.proofs.fronts.choose_by.Goals as goal

pub returns-in-Two-clause-best_or_none : goal.returns-in-Two-clause-best_or_none
unfolding picked_by
returns-in-Two-clause-best_or_none c =
    let a = c.args in
    let st = a.standing in
    let at = c.links_of.ensures in
    let shape = c.shape_of.ensures in
    let q = c.choose_front.ensures.best_or_none in
    rw c.in-Two.is
    (ap₂ picked_is
    (ap (λ (x : Shape). as_best x.files c.choose_front.result) (sym shape)
    ∙ ap (λ (x : Chosen). x.best) q
    ∙ lent-read a.extent.files a.extent.recipes a.extent.pins a.scratch.now at.0 at.1
    (λ x l. (chosen_front x a.window a.size st.sizes.now st.sides.now st.gains.now l).best) shape)
    (lent_back a.extent.files a.extent.recipes a.extent.pins a.scratch.now at.0 at.1
    (λ x l. (chosen_front x a.window a.size st.sizes.now st.sides.now st.gains.now l).links) shape (ap (λ (x : Chosen). x.links) q)))
