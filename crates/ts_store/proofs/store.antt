-- StandsFor of ts_core, LinesPut, Refusals: the history that a store represents after a call
pub mod Stands
-- Inventories: columns and cells that exist
pub mod InventoriesKept
-- RuleLists
pub mod RuleListLemmas
-- ColumnStates, BlocksHeld
pub mod ColumnsLemmas
-- CellCounts, PossibleCells, SizedStores
pub mod CountsKept
-- WholeStates
pub mod WholeStatesKept
