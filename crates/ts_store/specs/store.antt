-- The columns and cells of a store, and plain facts about them.
-- cited by public contracts and laws
pub mod Inventories
pub mod WholeStates
pub mod BlocksHeld
-- used only by models and proofs of the code
pub mod RuleLists
pub mod ColumnStates
pub mod CellCounts
pub mod SizedStores
pub mod PossibleCells
pub mod SoundStores
