-- Writes: when they are refused, and their effect otherwise.
-- cited by public contracts and laws
pub mod Registered
pub mod Refusals
pub mod StoreFaultTexts
pub mod LinesPut
pub mod LineTexts
-- used only by models and proofs of the code
pub mod LinesInColumns
pub mod CellsCreated
pub mod LivePuts
pub mod PointPuts
