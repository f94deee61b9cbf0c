use mathlib.Core.Path.{◌≡◌}
use lib.ListN.{length, take}
use Rattle.job.specs.Given.{the_limits}
use Rattle.stored.proofs.JobTaken.{own-lent}
use Rattle.std.proofs.Common.{rules}
use Rattle.teller.proofs.told.tell_taken.Goals as goal

pub tell-requires-clause-zeros_lent : goal.tell-requires-clause-zeros_lent
tell-requires-clause-zeros_lent g c =
    let t = c.args.taken.now in
    let n = t.header.files in
    let long : length (take n t.sizes) ≡ n = search rules in
    own-lent the_limits _ n (rw c.book.ensures.files.0 long) t.few_files
