use Rattle.std.proofs.Common.{◌≡◌, rules}
use Rattle.buckets.specs.Links.{as_top}
use Rattle.buckets.specs.Offers.{front_in}
use Rattle.buckets.proofs.Found.{front-file}
use Rattle.buckets.proofs.slots.Buckets.find_front.Goals as goal

pub returns-clause-links : goal.returns-clause-links
unfolding front_in
returns-clause-links c =
    let top : c.map_or.result ≡ as_top c.highest-bucket.result = search rules in
    cc

pub returns-clause-file : goal.returns-clause-file
unfolding front_in
returns-clause-file c =
    let x = front-file c.args.places.shape.files c.vault_at-from.result c.args.self.now.links.now c.highest-bucket.result c.map-front.result c.filter.result (search rules) (search rules) (search rules) in
    rw (c.highest-bucket.ensures.value, c.vault_at-from.ensures, c.entry.ensures, c.top_at-at.ensures) at x
