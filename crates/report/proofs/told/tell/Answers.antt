use native.Mathlib.Omega.{arith}
use Rattle.report.proofs.Printings.{no-room, bad-sides, all-laid, lets-through, laid-at-once}
use Rattle.report.proofs.told.tell.Goals as goal

pub returns-in_err-refuse_if-clause-told : goal.returns-in_err-refuse_if-clause-told
returns-in_err-refuse_if-clause-told g c = no-room c.args.sides.now _ c.lay_into-bytes.ensures.laid _ _ c.from_residual.ensures.1 c.in_err-refuse_if.ensures.numbers

pub returns-in_err-check_sides-clause-told : goal.returns-in_err-check_sides-clause-told
returns-in_err-check_sides-clause-told g c =
    bad-sides c.args.sides.now _ c.lay_into-bytes.ensures.laid c.in_ok-refuse_if.ensures.numbers _ _ c.from_residual-in_err-check_sides.ensures.1 c.in_err-check_sides.ensures

pub returns-clause-told : goal.returns-clause-told
returns-clause-told g c = all-laid c.args.sides.now _ c.lay_into-bytes.ensures.laid c.in_ok-refuse_if.ensures.numbers c.in_ok-check_sides.ensures c.lay_into-2.ensures.laid

pub returns-then-is_ok-clause-told : goal.returns-then-is_ok-clause-told
returns-then-is_ok-clause-told g c =
    laid-at-once c.args.sides.now c.args.out.now c.lay_into.ensures.laid (omega (arith, c.lay_into.ensures.upper_bound, c.fits.ensures c.if-fits.true)) (lets-through _ c.if-is_ok.ensures.value c.check_sides.ensures)
