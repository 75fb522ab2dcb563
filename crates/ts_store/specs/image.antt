-- The parts of a store that an image saves, and a store that is built from them.
-- cited by public contracts and laws
pub mod SavedContent
pub mod Building
-- used only by models and proofs of the code
pub mod FrozenLeft
pub mod ColumnsListed
pub mod BuildingParts
