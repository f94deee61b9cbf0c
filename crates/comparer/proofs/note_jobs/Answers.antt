use Rattle.std.proofs.Common.{rules}
use Rattle.job.specs.Given.{the_limits}
use Rattle.stored.specs.Steps.{Held}
use Rattle.comparer.proofs.Noted.{adds-as, adds-then, all-noted}
use Rattle.comparer.proofs.Differences.{differences-are}
use Rattle.comparer.proofs.note_jobs.Goals as goal

pub returns-clause-noted : goal.returns-clause-noted
returns-clause-noted c =
    let old : Held the_limits c.args.old.now = search rules in
    let new : Held the_limits c.args.new.now = search rules in
    all-noted (adds-as (differences-are the_limits _ _ old new) (adds-then (adds-then c.header.ensures c.files.ensures) c.recipes.ensures)) (search rules)
