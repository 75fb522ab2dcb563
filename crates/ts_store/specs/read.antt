-- Reads of columns, and the results of a view.
-- cited by public contracts and laws
pub mod PointsRead
pub mod ViewResults
pub mod CellsRead
-- used only by models and proofs of the code
pub mod LiveCells
pub mod CellsLeft
