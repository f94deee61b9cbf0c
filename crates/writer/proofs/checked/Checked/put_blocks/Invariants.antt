use Rattle.std.proofs.Common.{◌≡◌}
use Rattle.rules.specs.Lists.{in_turn, onto}
use Rattle.rules.specs.Writing.{job_block}
use Rattle.job.specs.Given.{the_job}
use Rattle.writer.proofs.checked.Checked.put_blocks.Given as goal

abbrev pub invariant-loop-b : goal.invariant-loop-b
invariant-loop-b l = l.out ≡ onto (in_turn (job_block (the_job l.self.job l.self.book l.self.sides.now)) l.b) l.initial.out
