-- cited by public contracts and laws
pub mod Names
pub mod Parts
pub mod FaultText
pub mod Scan
pub mod PartTexts
pub mod ReadSteps
pub mod TagParts
pub mod Values
pub mod Fields
pub mod Lines
pub mod EscapeLaws
pub mod Spelling
pub mod Readings
pub mod Spans
-- used only by models and proofs of the code
pub mod Sorting
pub mod NameFilters
pub mod StepsPut
pub mod Digits
pub mod Ends
