use Rattle.std.proofs.Common.{◌≡◌, ℕ, ◌+◌, ◌*◌, List, map, set, ap, ap₂, ◌∙◌, arith}
use Rattle.std.proofs.Math.Seq.{paste}
use Rattle.rules.specs.Lists.{up_to}
use Rattle.rules.specs.Job.{Job}
use Rattle.rules.specs.Stored.{kind_of}
use Rattle.rules.specs.Writing.{two_bytes, job_value}
use Rattle.job.specs.Given.{the_job}
use Rattle.writer.specs.Filling.{filled}
use Rattle.writer.proofs.Filled.{filled_none, filled_more, filled-block}
use Rattle.writer.proofs.ByKind.{kind-tag}
use Rattle.writer.proofs.checked.Checked.block.Goals as goal

pub loop-v-init : goal.loop-v-init
unfolding up_to
loop-v-init c =
    let n : ℕ = c.values_in-n.result in
    ap₂ (λ (t : List ℕ) (k : ℕ). set (set t 2 k) 3 n) c.put_word.ensures (kind-tag c.kind_of.result ∙ c.kind_of.ensures)
    ∙ filled_none c.args.b (kind_of c.args.self.now.header c.args.b) n

pub loop-v-preserved : goal.loop-v-preserved
loop-v-preserved c =
    c.put_word-in-loop-v.ensures
    ∙ ap (λ (t : List ℕ). paste t (4 + 2 * c.loop-v.v) (two_bytes c.value.result) 2) c.loop-v.invariant
    ∙ filled_more _ _ _ _ c.loop-v.v _ c.value.ensures

pub returns : goal.returns
returns c =
    let a = c.args in
    let n : ℕ = c.values_in-n.result in
    let job : Job = the_job a.self.now.job a.self.now.book a.self.now.sides.now in
    let e : c.loop-v.v ≡ n = omega arith in
    c.put_word-2.ensures
    ∙ ap (λ (x : ℕ). paste c.loop-v.block 510 (two_bytes x) 2) c.check_of-check.ensures
    ∙ filled-block a.self.now.header _ a.b n a.self.now.own_header c.values_in-n.ensures c.loop-v.block
    (c.loop-v.invariant ∙ ap (λ (k : ℕ). filled a.b (kind_of a.self.now.header a.b) n (map (job_value job a.b) (up_to k))) e)
