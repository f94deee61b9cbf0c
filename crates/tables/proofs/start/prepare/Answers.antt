-- Each zone keeps what the step that it was lent to put there. Assumes nothing.
use Rattle.std.proofs.Common.{ap, ◌∙◌}
use Rattle.tables.specs.declared.zones.Extent.{Extent}
use Rattle.tables.specs.Zones.{zones_of}
use Rattle.tables.proofs.Placing.{cells_fit}
use Rattle.tables.proofs.LentParts.{lend, zones-long, zones-room, zones-beyond, zones-locks, zones-starts, zones-spare, zones-cells, zones-counts}
use Rattle.tables.proofs.start.prepare.Goals as goal

pub start_gains-requires-clause-stands : goal.start_gains-requires-clause-stands
start_gains-requires-clause-stands c =
    let zones = c.zones-zones.ensures ∙ ap (λ (e : Extent). zones_of e.files e.pins) c.extent.ensures in
    let l = lend zones c.count.ensures c.requires.room c.copy_from_slice.ensures.len c.build_cells.auto.zone c.fill_counts.auto.zone in
    record { room = zones-room l; cells = zones-cells l (cells_fit c.args.job) c.build_cells.ensures; counts = zones-counts l c.fill_counts.ensures }

pub returns : goal.returns
returns c =
    let zones = c.zones-zones.ensures ∙ ap (λ (e : Extent). zones_of e.files e.pins) c.extent.ensures in
    let l = lend zones c.count.ensures c.requires.room c.copy_from_slice.ensures.len c.build_cells.auto.zone c.fill_counts.auto.zone in
    let fits = cells_fit c.args.job in
    record {
      locks = zones-locks l ∙ c.copy_from_slice.ensures.after;
      starts = zones-starts l fits c.build_cells.ensures;
      cells = zones-cells l fits c.build_cells.ensures;
      spare = zones-spare l fits c.build_cells.ensures;
      counts = zones-counts l c.fill_counts.ensures;
      long = zones-long l;
      beyond = zones-beyond l;
      starting = c.start_gains.ensures;
    }
