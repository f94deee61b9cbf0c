use Rattle.std.proofs.Common.{sym, refl, ◌∙◌, arith, rules}
use Rattle.rules.proofs.Exits.{exit-stops, done-goes}
use Rattle.stored.proofs.Blocks.{block-first, blocks-past}
use Rattle.stored.proofs.Readings.{all-written}
use Rattle.stored.proofs.entries.take_blocks.Goals as goal

pub returns-in_err-take_block-clause-verdict : goal.returns-in_err-take_block-clause-verdict
returns-in_err-take_block-clause-verdict c =
    let v = c.loop-b.invariant in
    exit-stops _ _ _ c.from_residual.ensures.1 (rw v.header at c.in_err-take_block.ensures.verdict) ∙ sym (block-first _ _ (omega arith)) ∙ sym v.verdict

pub loop-b-preserved : goal.loop-b-preserved
loop-b-preserved c =
    let v = c.loop-b.invariant in
    let e = c.in_ok-take_block.ensures in
    record {
      header = e.header ∙ v.header;
      verdict = v.verdict ∙ block-first _ _ (omega arith) ∙ sym (done-goes (rw v.header at e.verdict) refl);
      taken = (rw v.header at e.taken) _ v.taken;
    }

pub returns-clause-verdict : goal.returns-clause-verdict
returns-clause-verdict c = sym (c.loop-b.invariant.verdict ∙ blocks-past _ _ (omega arith))

pub returns-clause-lists : goal.returns-clause-lists
returns-clause-lists c =
    all-written _ c.requires.header (record { sizes = search rules; sides = search rules; marks = search rules; bounds = search rules; pins = search rules }) (omega arith)
    c.loop-b.invariant.taken
