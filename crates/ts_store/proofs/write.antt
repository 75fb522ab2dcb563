-- Inventories: columns and cells that exist
pub mod InventoriesGrown
-- SizedStores
pub mod NamesKept
-- PossibleCells
pub mod LivesGrown
-- ColumnStates, Registered, PointsRead: columns and their points
pub mod StagedColumns
-- Rollups, Rooms: rollups when a rollup series, a column or a cell is created, and when a line is inserted
pub mod RollupsPut
pub mod CellsCreatedLemmas
-- LivePuts, LiveCells: the effect of a fact on cells
pub mod PointsPut
-- LineTexts: the outcome of a line's text
pub mod LineTextLemmas
-- StoreFaultTexts
pub mod StoreFaultLemmas
