-- cited by public contracts and laws
pub mod RowParts
pub mod GroupTables
pub mod Shares
pub mod Selections
pub mod Borrowed
pub mod Answered
pub mod ExecTexts
pub mod Executions
pub mod Fillings
-- used only by models and proofs of the code
pub mod Slots
pub mod JoinedPieces
pub mod ReducedConditions
pub mod Searches
pub mod SeriesTests
pub mod GroupValues
