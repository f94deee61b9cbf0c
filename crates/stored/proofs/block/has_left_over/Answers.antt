use Rattle.std.proofs.Common.{◌≡◌, true, sym, arith}
use borrow.Author.Tests.{le-leb, ne_eqb}
use Rattle.rules.proofs.Searches.{some-here, some-none}
use Rattle.stored.specs.Steps.{left_over}
use Rattle.stored.proofs.block.has_left_over.Goals as goal

pub returns-then-value_in-ne0 : goal.returns-then-value_in-ne0
returns-then-value_in-ne0 c =
    let over : left_over c.args.block.now c.args.n c.loop-v.v ≡ true =
    simp (le-leb c.args.n c.loop-v.v (omega arith), ← c.value_in.ensures, ne_eqb c.value_in.result 0 c.if-value_in-ne0.true) in
    sym (some-here (left_over c.args.block.now c.args.n) 253 c.loop-v.v (omega arith) over)

pub returns : goal.returns
returns c = sym (some-none (left_over c.args.block.now c.args.n) 253 (λ i h. c.loop-v.invariant i (omega arith)))
