use lib.ListN.{length, take}
use Rattle.job.specs.Given.{the_limits}
use Rattle.stored.proofs.JobTaken.{own-lent}
use Rattle.std.proofs.Common.{rules, ◌≡◌}
use Rattle.hander.proofs.resettle_job.Goals as goal

pub resettle_run-requires-clause-zeros_lent : goal.resettle_run-requires-clause-zeros_lent
resettle_run-requires-clause-zeros_lent c =
    let t = c.args.taken.now in
    let n = t.header.files in
    let long : length (take n t.sizes) ≡ n = search rules in
    own-lent the_limits _ n (rw c.book.ensures.files.0 long) t.few_files
