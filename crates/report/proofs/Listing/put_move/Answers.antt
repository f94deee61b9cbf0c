use mathlib.Core.Path.{ap}
use native.Mathlib.Omega.{arith}
use lib.IntN.{ℤ, pos}
use lib.ListN.{get_or}
use mir.Syntax.{w32}
use mir.Facts.{to_z-of_z}
use Rattle.std.proofs.Common.{rules}
use Rattle.report.specs.Bytes.{move_bytes}
use Rattle.report.specs.Cases.{listed}
use Rattle.report.specs.Tracing.{move_line}
use Rattle.report.proofs.Traces.{move-parts}
use Rattle.report.proofs.Laying.{wrote_as, wrote_more}
use Rattle.report.proofs.Listing.put_move.Goals as goal

pub returns-clause-wrote : goal.returns-clause-wrote
returns-clause-wrote c =
    let l = listed c.args.self in
    let i = c.args.i in
    let gain = to_z-of_z {w = w32} {z = get_or l.gained i (pos 0)} (search rules) in
    let own = wrote_as move_bytes c.put_own_line.ensures (ap (λ (g : ℤ). move_line (get_or l.tried i 0) g (get_or l.cuts i 0)) gain) (omega arith) in
    wrote_as _ (wrote_more own (rw c.scans_before.ensures at c.put_scans.ensures)) (move-parts l i) (omega arith)
