-- cited by public contracts and laws
pub mod Grids
pub mod CellChanges
pub mod Expiry
pub mod FrozenCounts
pub mod Walks
-- used only by models and proofs of the code
pub mod RollupSeriesTable
pub mod Rows
pub mod RowChanges
