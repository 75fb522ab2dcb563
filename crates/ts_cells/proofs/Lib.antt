-- Grids, CellChanges: the finite map of cells
pub mod GridMoves
pub mod FrozenLemmas
pub mod GridLemmas
pub mod Searches
-- Rollup series: their indices in order
pub mod RollupSeriesOrder
pub mod RollupSeriesLemmas
pub mod RankLemmas
-- Rows: cells by the positions of their rollup series
pub mod RowLemmas
pub mod SlotLemmas
-- Expiry: removal of cells
pub mod Sweeps
pub mod ExpiryLemmas
-- Walks: entries one by one
pub mod WalkLemmas
