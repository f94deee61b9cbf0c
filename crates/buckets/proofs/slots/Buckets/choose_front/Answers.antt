-- A is asked first, B in what that left. Assumes nothing.
use Rattle.std.proofs.Common.{◌≡◌, ◌<◌, IfSome, rules, refl}
use Rattle.choice.specs.Cases.{as_best}
use Rattle.buckets.specs.Offers.{chosen_is, chosen_front}
use Rattle.buckets.proofs.Chosen.{chosen-made}
use Rattle.buckets.proofs.slots.Buckets.choose_front.Goals as goal

pub returns-in_err-places-clause-value : goal.returns-in_err-places-clause-value
unfolding chosen_front
returns-in_err-places-clause-value c = rw (c.in_err-places.ensures, c.from_residual.ensures) refl

made : (c : goal.After-first_of) → (chosen_is (as_best c.args.self.now.shape.files c.first_of.result) c.offer_from-from_b.new.self.links.now
    ≡ chosen_front c.args.self.now.shape c.args.window c.args.size c.args.standing.sizes.now c.args.standing.sides.now c.args.standing.gains.now c.args.self.now.links.now)
    × IfSome c.first_of.result (λ best. best.file < c.args.self.now.shape.files)
made c =
    let s = c.args.standing in
    let fit = c.in_ok-places.ensures in
    let a = c.offer_from-from_a in
    let b = c.offer_from-from_b in
    rw c.first_of.ensures
    (rw fit.1 at (chosen-made c.args.window c.args.size s.sizes.now s.sides.now s.gains.now c.in_ok-places.places.shape c.args.self.now.links.now a.result b.result
    (search rules) a.ensures.links b.ensures.links a.ensures.offer b.ensures.offer a.ensures.file b.ensures.file))

pub returns-clause-value : goal.returns-clause-value
returns-clause-value c = (made c).0

pub returns-clause-file : goal.returns-clause-file
returns-clause-file c = (made c).1
