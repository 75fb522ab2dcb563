use Rattle.std.proofs.Common.{◌∙◌, List, ap}
use Rattle.ts_core.specs.aggregates.Aggregates.{Aggregate, merged_within}
use Rattle.ts_core.specs.store.Cells.{Cell}
use Rattle.ts_core.specs.lists.Changes.{changed}
use Rattle.ts_core.specs.store.StoreData.{CellMap}
use Rattle.ts_core.specs.store.TwoParts.{in_frozen}
use Rattle.ts_cells.specs.Grids.{RollupSeries, cell_in}
use Rattle.ts_store.proofs.image.PartsBuilt.{cell_made}
use Rattle.ts_store.proofs.rollup.add_frozen.Goals as goal

pub returns-clause-ok : goal.returns-clause-ok
returns-clause-ok g c =
    let q : Cell = cell_in c.args.cells.now.rollup_series c.args.index.now c.args.series in
    let part : Aggregate = c.args.frozen in
    c.freeze.ensures.cells
    ∙ ap (λ (ls : List RollupSeries). changed c.make_room.new.self.cells (cell_in ls c.args.index.now c.args.series) (in_frozen (merged_within part))) c.make_room.ensures.kept
    ∙ ap (λ (m : CellMap). changed m q (in_frozen (merged_within part))) c.in_ok-make_room.ensures.ok
    ∙ cell_made c.args.cells.now.cells q part c.sum.ensures.counted c.requires.absent
