-- The way, the cells and the progress are those of the definition, so its conditions are the call's. Assumes nothing.
use mathlib.Core.Path.{◌∙◌}
use Rattle.split.proofs.OneMove.{treats-safe, treats-from}
use Rattle.split.proofs.moves.treat_move.Goals as goal

pub treat_all-requires : goal.treat_all-requires
treat_all-requires c =
    let safe = treats-safe c.requires (record {
      turn = c.turn-side.ensures;
      extent = c.extent_of-extent.ensures;
      lock = c.lock-cells.ensures;
      to = c.way_to-way.ensures;
      shift = c.shift-q.ensures;
    }) in
    record {
      two_sides = safe.two_sides;
      cells_in_scratch = safe.cells_in_scratch;
      a_gain_each = safe.a_gain_each;
      ready = safe.ready;
      near_visits = safe.near_visits;
      fits = safe.fits;
    }

pub returns-clause-treated_after : goal.returns-clause-treated_after
returns-clause-treated_after c =
    c.treat_all.ensures.treated_after
    ∙ treats-from c.requires (record {
      turn = c.turn-side.ensures;
      extent = c.extent_of-extent.ensures;
      lock = c.lock-cells.ensures;
      to = c.way_to-way.ensures;
      shift = c.shift-q.ensures;
    })
