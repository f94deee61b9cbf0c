-- The zones lie within the scratch, and a file has no more recipes than there are pins. Assumes nothing.
use mathlib.Core.Path.{◌≡◌, ap, ◌∙◌}
use Prim.Native.Nat.{◌+◌, ◌-◌, ◌*◌, ◌<◌}
use native.Mathlib.Omega.{arith}
use lib.ListN.{length, get_or, drop, length-take}
use lib.IntN.{pos}
use borrow.Author.Rules.{rules}
use mir.Syntax.{w32}
use mir.Val.{SFits, to_z, of_z}
use mir.Facts.{to_z-of_z}
use Rattle.tables.specs.Zones.{counts_at, part}
use Rattle.tables.proofs.Parts.{part_length}
use Rattle.tables.proofs.Sides.{zones-are}
use Rattle.levels.proofs.Walked.{view-few, across, vector-is}
use Rattle.levels.proofs.vector.vector_of.Goals as goal

pub levels_of-requires : goal.levels_of-requires
levels_of-requires c =
    let a = c.args in
    let x = a.extent in
    let z = c.zones-zones.result in
    let n = c.from-n.result in
    let own = c.side_at-own.result in
    let other = z.counts + (z.counts + n - own) in
    let at = zones-are x.files x.pins c.zones-zones.ensures in
    let near = (across (counts_at x.files x.pins) x.recipes (get_or a.standing.sides.now a.f 0) own c.side_at-own.ensures).0 in
    let long = c.requires.2 in
    let few : length c.view.result.now < 65536
    = omega (
      arith,
      ap length c.view.ensures,
      view-few (part z.starts (z.counts - z.starts) a.scratch.now) (part z.cells (z.starts - z.cells) a.scratch.now) a.f,
      length-take (z.starts - z.cells) (drop z.cells a.scratch.now),
      at,
      c.from-n.ensures,
      near,
      long,
      c.well_formed,
    ) in
    let mine : own + 3 * n - own ≡ 3 * n = omega arith in
    let theirs : other + 3 * n - other ≡ 3 * n = omega arith in (
      few,
      rw (mine, part_length own (3 * n) a.scratch.now (omega (arith, at, c.from-n.ensures, near, long))) (omega arith),
      rw (theirs, part_length other (3 * n) a.scratch.now (omega (arith, at, c.from-n.ensures, near, long))) (omega arith),
    )

pub returns : goal.returns
returns c =
    let a = c.args in
    let x = a.extent in
    let fits : SFits w32 (get_or a.standing.gains.now a.f (pos 0)) = search rules in
    c.levels_of.ensures
    ∙ vector-is x.files x.recipes x.pins a.standing.sides.now a.standing.gains.now a.scratch.now a.f c.zones-zones.result
    c.from-n.result c.side_at-own.result (to_z w32 (of_z w32 (get_or a.standing.gains.now a.f (pos 0)))) c.view.result.now c.zones-zones.ensures c.from-n.ensures
    c.side_at-own.ensures (to_z-of_z fits) c.view.ensures
