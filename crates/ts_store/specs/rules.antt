-- Rules that are added to a store, or dropped, and the state afterwards.
-- cited by public contracts and laws
pub mod RuleTexts
pub mod RulesChanged
-- used only by models and proofs of the code
pub mod RuleRollups
