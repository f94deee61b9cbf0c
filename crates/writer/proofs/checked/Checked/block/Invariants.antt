use Rattle.std.proofs.Common.{◌≡◌, map}
use Rattle.rules.specs.Lists.{up_to}
use Rattle.rules.specs.Stored.{kind_of}
use Rattle.rules.specs.Writing.{job_value}
use Rattle.job.specs.Given.{the_job}
use Rattle.writer.specs.Filling.{filled}
use Rattle.writer.proofs.checked.Checked.block.Given as goal

abbrev pub invariant-loop-v : goal.invariant-loop-v
invariant-loop-v l = l.block ≡ filled l.b (kind_of l.self.header l.b) l.n (map (job_value (the_job l.self.job l.self.book l.self.sides.now) l.b) (up_to l.v))
