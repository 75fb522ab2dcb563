use Rattle.std.proofs.Common.{◌≡◌, ◌<◌, ◌∙◌, List, length, map, set, ap, sym, subst, arith}
use Rattle.std.specs.FinMap as finmap
use Rattle.std.proofs.Math.Seq.{map-set_same}
use Rattle.std.proofs.lemmas.List.{map-set}
use Rattle.ts_core.specs.aggregates.Aggregates.{empty_aggregate}
use Rattle.ts_core.specs.store.Cells.{Cell}
use Rattle.ts_core.specs.store.StoreStates.{CellParts, column_of}
use Rattle.ts_core.specs.store.StoreData.{CellMap}
use Rattle.ts_cells.specs.Grids.{cell_at, rollup_series_named}
use Rattle.ts_store.specs.image.Building.{cell_map_at}
use Rattle.ts_store.specs.store.ColumnStates.{StoreContent}
use Rattle.ts_store.specs.rollup.Rollups.{RollupState, AreRollups, cells_of}
use Rattle.ts_store.proofs.image.PartsBuilt.{ok_then, err_then, cells-at, rollups-set}
use Rattle.ts_store.proofs.store.column_facts.ColumnFacts.add_cell.Goals as goal

pub add_cell-requires : goal.add_cell-requires
add_cell-requires g c =
    let q : Cell = cell_at c.args.index.now (rollup_series_named c.args.field.now c.args.group.now) in
    let us : List RollupState = c.self.inside.rollups.items in
    let shown : us ≡ c.args.self.now.rollups = ap (λ (h : StoreContent). h.rollups) c.self.view_is in
    let within : c.args.rule < length us = let e = ap (λ (xs : List RollupState). length xs) shown in omega (arith, e, c.requires.rule) in
    record { absent = ap (λ (m : CellMap). finmap.get m q) (sym (cells-at us c.args.rule c.index_mut.result.now within c.index_mut.ensures.value) ∙ ap (λ (xs : List RollupState). cell_map_at (cells_of xs) c.args.rule) shown) ∙ c.requires.absent }

pub returns-clause-rollups : goal.returns-clause-rollups
returns-clause-rollups g c = λ rules h.
    let us : List RollupState = c.self.inside.rollups.items in
    let shown : us ≡ c.args.self.now.rollups = ap (λ (h : StoreContent). h.rollups) c.self.view_is in
    rollups-set rules (map column_of c.args.self.now.columns) us c.args.rule c.index_mut.result.now c.add_cell.new.self c.index_mut.ensures.value c.add_cell.ensures.made c.add_cell.ensures.kept
    (subst (AreRollups rules (map column_of c.args.self.now.columns)) (sym shown) h)

pub returns-clause-ok : goal.returns-clause-ok
returns-clause-ok g c =
    let q : Cell = cell_at c.args.index.now (rollup_series_named c.args.field.now c.args.group.now) in
    let x : CellParts = record { frozen = c.args.frozen; live = empty_aggregate } in
    let us : List RollupState = c.self.inside.rollups.items in
    let n = c.args.rule in
    let shown : us ≡ c.args.self.now.rollups = ap (λ (h : StoreContent). h.rollups) c.self.view_is in
    let within : n < length us = let e = ap (λ (xs : List RollupState). length xs) shown in omega (arith, e, c.requires.rule) in
    ok_then c.add_cell.result c.add_cell.ensures.ok
    (λ (made : c.add_cell.new.self.grid.cells ≡ finmap.insert c.index_mut.result.now.grid.cells q x).
    map-set (λ (s : RollupState). s.grid.cells) us n c.add_cell.new.self
    ∙ ap (λ (m : CellMap). set (cells_of us) n m) (made ∙ ap (λ (m : CellMap). finmap.insert m q x) (sym (cells-at us n c.index_mut.result.now within c.index_mut.ensures.value)))
    ∙ ap (λ (xs : List RollupState). set (cells_of xs) n (finmap.insert (cell_map_at (cells_of xs) n) q x)) shown)

pub returns-clause-err : goal.returns-clause-err
returns-clause-err g c =
    let us : List RollupState = c.self.inside.rollups.items in
    let shown : us ≡ c.args.self.now.rollups = ap (λ (h : StoreContent). h.rollups) c.self.view_is in
    err_then c.add_cell.result c.add_cell.ensures.err
    (λ (same : c.add_cell.new.self.grid.cells ≡ c.index_mut.result.now.grid.cells). map-set_same (λ (s : RollupState). s.grid.cells) us c.args.rule c.add_cell.new.self c.index_mut.result.now (same ∙ ap (λ (s : RollupState). s.grid.cells) c.index_mut.ensures.value) ∙ ap cells_of shown)
