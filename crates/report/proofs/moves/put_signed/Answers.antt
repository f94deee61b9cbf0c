use native.Mathlib.Omega.{arith}
use Rattle.report.proofs.Gains.{signed-text, signed-short}
use Rattle.report.proofs.Laying.{wrote_as, wrote_more}
use Rattle.report.proofs.moves.put_signed.Goals as goal

pub number-requires : goal.number-requires
number-requires c = omega (arith, c.requires, signed-short c.args.gain c.ranges.gain)

pub returns : goal.returns
returns c = wrote_as _ (wrote_more c.plain.ensures c.number.ensures) (signed-text c.args.gain c.ranges.gain) (omega (arith, signed-short c.args.gain c.ranges.gain))
