use mathlib.Core.Path.{refl}
use native.Mathlib.Omega.{arith}
use Rattle.std.proofs.Common.{rules}
use Rattle.std.proofs.lemmas.List.{length_push}
use Rattle.std.proofs.lemmas.Slice.Zip.{zip_turn, zip_end}
use Rattle.rules.specs.Report.{text, sides_line}
use Rattle.report.proofs.Laying.{laying-none, wrote_more, wrote_as}
use Rattle.report.proofs.Splits.{letter-more, letters-end}
use Rattle.report.proofs.split.Split.lay_sides.Goals as goal

pub loop-side-init : goal.loop-side-init
loop-side-init c = (search rules, search rules, laying-none)

pub loop-side-preserved : goal.loop-side-preserved
loop-side-preserved c =
    let a = c.args.self in
    let l = c.loop-side in
    let first = c.into_iter-side-iterator.result in
    let t = zip_turn a.sides.now a.files.marks.now l.yielded first l.side-iterator c.next.new.self c.next.result (cc) (cc) l.yielded_by (c.in-Some.side, c.in-Some.mark)
    c.in-Some.is c.next.ensures.steps in
    let n = length_push l.yielded (c.in-Some.side, c.in-Some.mark) in
    (search rules, search rules, rw n (letter-more a l.invariant.2 t.0 (t.2 0) (t.3 0) c.letter.ensures c.put.ensures))

pub returns : goal.returns
unfolding sides_line text
returns c =
    let a = c.args.self in
    let l = c.loop-side in
    let first = c.into_iter-side-iterator.result in
    let t = zip_end a.sides.now a.files.marks.now l.yielded first l.side-iterator c.next.new.self c.next.result (cc) (cc) l.yielded_by c.in-None.is c.next.ensures.steps in
    wrote_as _ (wrote_more (wrote_more c.plain.ensures (letters-end a l.invariant.2 (omega (arith, t, a.each_file.sided, a.each_file.marked)))) c.put-2.ensures) refl (omega arith)
