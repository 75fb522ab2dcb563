-- SettingsTexts, SettingsWritten: settings written and parsed back
pub mod SettingsBack
pub mod SettingsForms
pub mod FoundLemmas
pub mod EachItem
-- SettingsFaults: the properties of settings without a fault
pub mod SettingsLaws
pub mod RuleLaws
pub mod Intervals
pub mod RuleNames
-- Settings: a rule by its name and its index
pub mod RuleIndices
