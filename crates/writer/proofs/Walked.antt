-- The output list as the blocks are put in: the first b are in place, the rest is as it was. Assumes nothing.
use Rattle.std.proofs.Common.{◌≡◌, refl, sym, ap, ap₂, ◌∙◌, ℕ, ◌+◌, ◌*◌, ◌≤◌, List, length, arith}
use Rattle.std.proofs.Math.Seq.{paste}
use Rattle.std.proofs.lemmas.Slice.{put_mid-paste}
use borrow.Rule.Slice.PartMut.{put_mid}
use Rattle.rules.specs.Lists.{in_turn, onto}
use Rattle.rules.specs.Job.{Job}
use Rattle.rules.specs.Stored.{block_count}
use Rattle.rules.specs.Writing.{header_for, job_block, blocks_of}
use Rattle.rules.proofs.Entries.{onto-length, onto-paste, onto-all}
use Rattle.rules.proofs.InTurn.{in_turn-length, turn_more}
use Rattle.rules.proofs.RoundTrip.{job-block-length, blocks-length}

module _ (job : Job) (old : List ℕ) where
  pub walked_none : old ≡ onto (in_turn (job_block job) 0) old
  unfolding in_turn onto
  walked_none = refl

  pub walked-length : (b n : ℕ) → b ≤ n → length old ≡ 512 * n → length (onto (in_turn (job_block job) b) old) ≡ length old
  walked-length b n h l = onto-length 0 (in_turn (job_block job) b) old (omega (arith, in_turn-length 512 (job_block job) (job-block-length job) b))

  pub walked_more : (b k : ℕ) {out block : List ℕ} → k ≡ 512 → out ≡ onto (in_turn (job_block job) b) old → block ≡ job_block job b
      → put_mid (512 * b) k out block ≡ onto (in_turn (job_block job) (b + 1)) old
  walked_more b k {out} {block} w o e =
      let xs : List ℕ = in_turn (job_block job) b in
      let long : length (job_block job b) ≡ 512 = job-block-length job b in
      put_mid-paste (512 * b) k out block (job_block job b) 512 e (sym w) (sym long)
      ∙ ap (λ (s : List ℕ). paste s (512 * b) (job_block job b) 512) o
      ∙ ap₂ (λ (i n : ℕ). paste (onto xs old) i (job_block job b) n) (sym (in_turn-length 512 (job_block job) (job-block-length job) b)) (sym long)
      ∙ onto-paste xs (job_block job b) old
      ∙ ap (λ (t : List ℕ). onto t old) (sym (turn_more (job_block job) b))

  pub walked_all : length old ≡ 512 * block_count (header_for job) → onto (blocks_of job) old ≡ blocks_of job
  walked_all l = onto-all (blocks_of job) old (l ∙ sym (blocks-length job))
