-- RuleTexts: adding a rule by its text
pub mod ShortNames
pub mod RuleStates
pub mod RuleTextLemmas
-- RulesChanged: adding and dropping rules
pub mod RuleRollupLemmas
pub mod RulesMoved
