-- The first f gains are the starting gains. Assumes nothing.
use Rattle.std.proofs.Common.{◌≡◌, ℕ, ◌<◌, get_or, pos}
use Rattle.tables.specs.SoundJob.{gains_at_start}
use Rattle.tables.proofs.counts.start_gains.Given as goal

abbrev pub invariant-loop-f : goal.invariant-loop-f
invariant-loop-f l = (k : ℕ) → k < l.f → get_or l.gains k (pos 0) ≡ get_or (gains_at_start l.job) k (pos 0)
