use Rattle.std.proofs.Common.{◌≡◌, ◌∙◌, List, ap}
use Rattle.std.proofs.lemmas.Option.{get_or_from_slice_get, slice_get_within}
use Rattle.std.specs.FinMap as finmap
use Rattle.ts_core.specs.aggregates.Aggregates.{empty_aggregate}
use Rattle.ts_core.specs.store.Cells.{Cell}
use Rattle.ts_core.specs.store.StoreStates.{CellParts}
use Rattle.ts_core.specs.store.StoreData.{CellMap}
use Rattle.ts_cells.specs.Grids.{RollupSeries, no_rollup_series, cell_at, cell_in, rollup_series_named}
use Rattle.ts_store.specs.rollup.Rollups.{RollupState}
use Rattle.ts_store.proofs.image.PartsBuilt.{ok_then, err_then}
use Rattle.ts_store.proofs.rollup.Rollup.add_cell.Goals as goal

pub add_frozen-requires : goal.add_frozen-requires
add_frozen-requires g c =
    let rollup_series : List RollupSeries = c.listed_rollup_series.new.cells.rollup_series in
    let series : RollupSeries = rollup_series_named c.args.field.now c.args.group.now in
    let q : Cell = cell_at c.args.index.now series in
    let key : cell_in rollup_series c.args.index.now c.in_ok-series.series ≡ q = ap (cell_at c.args.index.now) (get_or_from_slice_get rollup_series c.in_ok-series.series series no_rollup_series c.in_ok-series.ensures.number) in
    let same : c.listed_rollup_series.new.cells.cells ≡ c.args.self.now.grid.cells = c.in_ok-series.ensures.kept.cells ∙ ap (λ (s : RollupState). s.grid.cells) c.self.view_is in
    record {
      series = slice_get_within rollup_series c.in_ok-series.series series c.in_ok-series.ensures.number;
      absent = ap (finmap.get c.listed_rollup_series.new.cells.cells) key ∙ ap (λ (m : CellMap). finmap.get m q) same ∙ c.requires.absent;
    }

pub returns-clause-ok : goal.returns-clause-ok
returns-clause-ok g c =
    let rollup_series : List RollupSeries = c.listed_rollup_series.new.cells.rollup_series in
    let cells : CellMap = c.listed_rollup_series.new.cells.cells in
    let series : RollupSeries = rollup_series_named c.args.field.now c.args.group.now in
    let q : Cell = cell_at c.args.index.now series in
    let x : CellParts = record { frozen = c.args.frozen; live = empty_aggregate } in
    let key : cell_in rollup_series c.args.index.now c.in_ok-series.series ≡ q = ap (cell_at c.args.index.now) (get_or_from_slice_get rollup_series c.in_ok-series.series series no_rollup_series c.in_ok-series.ensures.number) in
    let same : cells ≡ c.args.self.now.grid.cells = c.in_ok-series.ensures.kept.cells ∙ ap (λ (s : RollupState). s.grid.cells) c.self.view_is in
    ok_then c.add_frozen.result c.add_frozen.ensures.ok
    (λ (e : c.add_frozen.new.cells.cells ≡ finmap.insert cells (cell_in rollup_series c.args.index.now c.in_ok-series.series) x). e ∙ ap (λ (k : Cell). finmap.insert cells k x) key ∙ ap (λ (m : CellMap). finmap.insert m q x) same)

pub returns-clause-err : goal.returns-clause-err
returns-clause-err g c =
    let cells : CellMap = c.listed_rollup_series.new.cells.cells in
    err_then c.add_frozen.result c.add_frozen.ensures.err
    (λ (e : c.add_frozen.new.cells.cells ≡ cells). e ∙ c.in_ok-series.ensures.kept.cells ∙ ap (λ (s : RollupState). s.grid.cells) c.self.view_is)
