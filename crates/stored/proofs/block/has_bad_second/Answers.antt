use Rattle.std.proofs.Common.{arith}
use borrow.Author.Tests.{lt-ltb}
use Rattle.rules.proofs.Searches.{passed-some, passed-no}
use Rattle.stored.proofs.block.has_bad_second.Goals as goal

pub returns-then-value_in-gt5 : goal.returns-then-value_in-gt5
returns-then-value_in-gt5 c = passed-some c.loop-f.invariant (omega arith) (simp (lt-ltb _ _ c.if-f-n.true, ← c.value_in.ensures, lt-ltb _ _ c.if-value_in-gt5.true))

pub returns : goal.returns
returns c = passed-no c.loop-f.invariant (omega arith)
