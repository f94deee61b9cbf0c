use native.Mathlib.Omega.{arith}
use Rattle.report.proofs.Forms.{number-part, byte-part}
use Rattle.report.proofs.Laying.{wrote_as}
use Rattle.report.proofs.text.Text.part.Goals as goal

pub number-requires : goal.number-requires
number-requires c =
    let a = c.args in
    let f = c.in-Some.ensures.lookup in
    omega (arith, c.requires, (number-part a.numbers.now a.byte c.in-Some.n.now f.3.0 (f.3.1 0) (omega arith)).1)

pub put-requires : goal.put-requires
put-requires c = omega (arith, c.requires, (byte-part c.args.numbers.now c.args.byte c.in-None.ensures.lookup.3).1)

pub returns-in-Some : goal.returns-in-Some
returns-in-Some c =
    let a = c.args in
    let f = c.in-Some.ensures.lookup in
    let p = number-part a.numbers.now a.byte c.in-Some.n.now f.3.0 (f.3.1 0) (omega arith) in
    wrote_as _ c.number.ensures p.0 p.1

pub returns-in-None : goal.returns-in-None
returns-in-None c = let p = byte-part c.args.numbers.now c.args.byte c.in-None.ensures.lookup.3 in wrote_as _ c.put.ensures p.0 p.1
