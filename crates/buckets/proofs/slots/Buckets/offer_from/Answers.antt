-- The front file's offer is that of the definition. Assumes nothing.
use Rattle.std.proofs.Common.{sym}
use Rattle.buckets.specs.Offers.{front_in}
use Rattle.buckets.proofs.Chosen.{no-offer, made-offer}
use Rattle.buckets.proofs.slots.Buckets.offer_from.Goals as goal

pub returns-in_err-front-clause-offer : goal.returns-in_err-front-clause-offer
returns-in_err-front-clause-offer c =
    let s = c.args.standing in
    let at = c.args.places.shape in
    rw c.from_residual.ensures
    (no-offer c.args.window c.args.size s.sizes.now s.sides.now s.gains.now at.files (front_in at c.args.side c.args.self.now.links.now).file (sym c.in_err-front.ensures.file))

pub returns-clause-offer : goal.returns-clause-offer
returns-clause-offer c =
    let s = c.args.standing in
    let at = c.args.places.shape in
    rw c.offer.ensures
    (made-offer c.args.window c.args.size s.sizes.now s.sides.now s.gains.now at.files (front_in at c.args.side c.args.self.now.links.now).file c.in_ok-front.front (sym c.in_ok-front.ensures.file)).0

pub returns-clause-file : goal.returns-clause-file
returns-clause-file c =
    let s = c.args.standing in
    let at = c.args.places.shape in
    rw c.offer.ensures
    (made-offer c.args.window c.args.size s.sizes.now s.sides.now s.gains.now at.files (front_in at c.args.side c.args.self.now.links.now).file c.in_ok-front.front (sym c.in_ok-front.ensures.file)).1
