use Rattle.report.specs.Laying.{longest}
use Rattle.report.proofs.Forms.{filling-ahead, filling-more}
use Rattle.report.proofs.Laying.{laying-none}
use Rattle.report.proofs.text.Text.form.Goals as goal

pub loop-byte-init : goal.loop-byte-init
unfolding longest
loop-byte-init c = laying-none

pub part-requires : goal.part-requires
part-requires c = filling-ahead _ _ c.loop-byte.invariant c.requires c.loop-byte-test.true

pub loop-byte-preserved : goal.loop-byte-preserved
loop-byte-preserved c = filling-more _ _ c.loop-byte.invariant c.loop-byte-test.true c.part.ensures
