use mathlib.Core.Path.{refl}
use Prim.Native.Nat.{◌*◌}
use native.Mathlib.Omega.{arith}
use lib.ListN.{length, get_or}
use lib.IntN.{pos}
use Rattle.std.proofs.Common.{rules}
use Rattle.rules.specs.Report.{text}
use Rattle.report.specs.Bytes.{gain_bytes}
use Rattle.report.specs.Tracing.{gains_line}
use Rattle.report.proofs.Gains.{signed_back, gain-pieces}
use Rattle.report.proofs.Laying.{laying-none, laying-more, laying-end, wrote_as, wrote_more}
use Rattle.report.proofs.moves.put_gains.Goals as goal

pub loop-gain-init : goal.loop-gain-init
loop-gain-init c = laying-none

pub loop-gain-preserved : goal.loop-gain-preserved
loop-gain-preserved c =
    let here = signed_back {g = get_or c.args.gains.now c.loop-gain.gain-index (pos 0)} (search rules) in
    let gain = wrote_as gain_bytes c.put_signed.ensures here (omega arith) in
    laying-more (pos 0) c.loop-gain.invariant _ c.loop-gain-test.true gain (omega arith)

pub returns : goal.returns
unfolding gains_line text
returns c =
    let l = c.loop-gain.invariant in
    let gains = wrote_as (gain_bytes * length c.args.gains.now) (laying-end (pos 0) l c.loop-gain-test.false) (gain-pieces _) (omega (arith, l.stop)) in
    wrote_as _ (wrote_more (wrote_more c.plain.ensures gains) c.put.ensures) refl (omega arith)
