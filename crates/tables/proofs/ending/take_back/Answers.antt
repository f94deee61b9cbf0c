-- One move more is taken back, and in the end all are. Assumes nothing.
use Rattle.std.proofs.Common.{sym, ◌∙◌, arith}
use Rattle.tables.proofs.TakenBack.{back-one, back-none}
use Rattle.tables.proofs.ending.take_back.Goals as goal

pub loop-k-preserved : goal.loop-k-preserved
loop-k-preserved c = rw (c.turn.ensures.1, c.entry_at.ensures) (sym (back-one _ _ _ _ (omega arith)) ∙ c.loop-k.invariant)

pub returns : goal.returns
returns c = back-none _ _ _ _ (omega arith) ∙ c.loop-k.invariant
