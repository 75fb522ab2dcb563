-- cited by public contracts and laws
pub mod Planning
pub mod PlanTexts
-- used only by models and proofs of the code
pub mod Instants
pub mod Steps
pub mod Joins
