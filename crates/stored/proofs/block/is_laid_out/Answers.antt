use Rattle.rules.specs.Stored.{laid_out}
use Rattle.stored.proofs.Blocks.{byte-kind, files-kind}
use Rattle.stored.proofs.block.is_laid_out.Goals as goal

pub returns : goal.returns
unfolding laid_out
returns c = simp (byte-kind, c.eq.ensures, files-kind, c.word_at.ensures, c.has_left_over-over.ensures, c.has_bad_second.ensures)
