use Rattle.std.proofs.Common.{◌≡◌, ap, ◌∙◌, ℕ, ◌*◌, arith}
use Rattle.rules.specs.Lists.{in_turn, onto}
use Rattle.rules.specs.Job.{Job}
use Rattle.rules.specs.Stored.{block_count}
use Rattle.rules.specs.Writing.{header_for, job_block}
use Rattle.job.specs.Given.{the_job}
use Rattle.writer.proofs.Walked.{walked_none, walked_more, walked_all}
use Rattle.writer.proofs.checked.Checked.put_blocks.Goals as goal

pub loop-b-init : goal.loop-b-init
loop-b-init c = walked_none _ _

pub loop-b-preserved : goal.loop-b-preserved
loop-b-preserved c = walked_more _ _ _ _ (omega arith) c.loop-b.invariant (c.copy_from_slice.ensures.after ∙ c.block-block.ensures)

pub returns : goal.returns
returns c =
    let a = c.args in
    let job : Job = the_job a.self.now.job a.self.now.book a.self.now.sides.now in
    let many : block_count a.self.now.header ≡ block_count (header_for job) = ap block_count a.self.now.own_header in
    let e : c.loop-b.b ≡ block_count (header_for job) = omega arith in
    c.loop-b.invariant ∙ ap (λ (n : ℕ). onto (in_turn (job_block job) n) a.out.now) e ∙ walked_all job a.out.now (c.requires ∙ ap (λ (n : ℕ). 512 * n) many)
