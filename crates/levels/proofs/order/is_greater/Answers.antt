-- Two arrays of three, as arrays are compared. Assumes nothing.
use Rattle.std.proofs.Common.{sym, ◌∙◌}
use borrow.Kind.Array.{e_s_int, good_length}
use mir.Syntax.{w32}
use Rattle.levels.proofs.Walked.{greater-lists}
use Rattle.levels.proofs.order.is_greater.Goals as goal

pub returns : goal.returns
returns c =
    let a = c.args.a in
    let b = c.args.b in
    c.gt.ensures ∙ greater-lists a b (good_length (e_s_int w32) 3 a _ c.well_formed.0 ∙ sym (good_length (e_s_int w32) 3 b _ c.well_formed.1.0))
