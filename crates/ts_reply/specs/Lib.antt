-- cited by public contracts and laws
pub mod TimeTexts
pub mod Epochs
pub mod Outcomes
pub mod OutcomeViews
pub mod Replies
pub mod Answering
pub mod Explaining
pub mod Counts
-- used only by models and proofs of the code
pub mod SeriesTexts
pub mod AppendedData
