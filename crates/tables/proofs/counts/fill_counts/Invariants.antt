-- The recipes below j are counted. Assumes nothing.
use Rattle.tables.specs.SoundJob.{read_recipes, many_recipes, state_at_start}
use Rattle.tables.proofs.FourCounts.{CountedTo}
use Rattle.tables.proofs.counts.fill_counts.Given as goal

abbrev pub invariant-loop-j : goal.invariant-loop-j
invariant-loop-j l = CountedTo (read_recipes l.job) (state_at_start l.job) (many_recipes l.job) l.j l.zone
