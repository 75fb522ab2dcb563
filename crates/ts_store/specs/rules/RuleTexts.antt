-- A rule that is added by its text, and the state of a store after rules come and go. (Own rules. InfluxData 1.8,
-- database management: retention policies and continuous queries are created and dropped while the database is in use.)
use Rattle.std.specs.Prelude.{◌≡◌, ⊤, ℤ, ◌∷◌, Option, Some, None, Result, Ok, Err}
use Rattle.serde_json.specs.Data.{Data}
use Rattle.ts_core.specs.facts.Facts.{Text}
use Rattle.ts_core.specs.settings.Settings.{Rule, Settings}
use Rattle.ts_core.specs.settings.SettingsFaults.{added_fault}
use Rattle.ts_core.specs.settings.SettingsTexts.{rule_parsed, rule_read}
use Rattle.ts_core.specs.declared.settings.settings_fault.SettingsError.{SettingsError}
use Rattle.ts_core.specs.declared.settings.settings_fault.SettingsError.TheVariants as errors
use Rattle.ts_core.specs.declared.settings.settings_fault.SettingsFault.{SettingsFault}
use Rattle.ts_core.specs.declared.settings.settings_fault.SettingsFault.TheVariants.{Form}
use Rattle.ts_core.specs.store.History.{AddRule, DropRule, settings_of, raw_mark}
use Rattle.ts_core.specs.store.Marks.{first_from}
use Rattle.ts_core.specs.store.StoreData.{StoreData, store_settings}
use Rattle.ts_store.specs.write.LineTexts.{LineState}
use Rattle.ts_store.specs.rules.RulesChanged.{RuleComes}
use Rattle.ts_store.specs.declared.rules.rule_text.AddedRule.{AddedRule}

-- a rule, unless appending it has a fault
abbrev pub unless_added : Rule → Option SettingsFault → Result Rule SettingsFault
unless_added r None = Ok r
unless_added r (Some fault) = Err fault

abbrev pub rule_or_fault : Settings → Option Rule → Result Rule SettingsFault
rule_or_fault s None = Err Form
rule_or_fault s (Some r) = unless_added r (added_fault s r)

-- the rule that a text adds to these settings, or its first fault; the form of the text is checked first
unfoldable pub rule_for : Settings → Text → Result Rule SettingsFault
rule_for s text = rule_or_fault s (rule_read text)

-- ---- the state of a store

abbrev pub settings_in : LineState → Settings
settings_in s = settings_of s.opening s.history

-- the index that a rule starts with if it is added: that of the first bucket at or above the raw mark
abbrev pub low_in : LineState → Rule → ℤ
low_in s r = first_from r (raw_mark s.opening s.history)

-- a rule is added
abbrev pub with_rule_added : Rule → LineState → LineState
with_rule_added r s = record s { history = AddRule r ∷ s.history }

-- the rule with this name is dropped
abbrev pub with_rule_dropped : Text → LineState → LineState
with_rule_dropped name s = record s { history = DropRule name ∷ s.history }

-- ---- the call that adds the rule of a text

-- the error is the fault of the text, or out of memory
abbrev pub IsErrorOf : Result Rule SettingsFault → SettingsError → Type 0
IsErrorOf read errors.OutOfMemory = ⊤
IsErrorOf read (errors.Fault fault) = read ≡ Err fault

-- the rule of the text was added, with this name and low index
pub record TextComes (old new : StoreData) (text : Text) (added : AddedRule) : Type 0 where
  pub rule : Rule
  pub read : rule_for (store_settings old) text ≡ Ok rule
  pub name : added.name.bytes ≡ rule.name
  pub comes : RuleComes old new rule added.low

-- The rule of the text is added. A text with a fault is refused with its first fault. On an error, nothing changes.
abbrev pub AddsText : StoreData → StoreData → Text → Result AddedRule SettingsError → Type 0
AddsText old new text (Ok added) = TextComes old new text added
AddsText old new text (Err error) = IsErrorOf (rule_for (store_settings old) text) error × (new ≡ old)

-- ---- the call that adds the rule of a JSON value

-- the rule that a value adds to these settings, or its first fault; the form of the value is checked first
abbrev pub rule_of_value : Settings → Data → Result Rule SettingsFault
rule_of_value s value = rule_or_fault s (rule_parsed value)

-- the rule of the value was added, with this name and low index
pub record ValueComes (old new : StoreData) (value : Data) (added : AddedRule) : Type 0 where
  pub rule : Rule
  pub read : rule_of_value (store_settings old) value ≡ Ok rule
  pub name : added.name.bytes ≡ rule.name
  pub comes : RuleComes old new rule added.low

-- The rule of the value is added. A value with a fault is refused with its first fault. On an error, nothing changes.
abbrev pub AddsValue : StoreData → StoreData → Data → Result AddedRule SettingsError → Type 0
AddsValue old new value (Ok added) = ValueComes old new value added
AddsValue old new value (Err error) = IsErrorOf (rule_of_value (store_settings old) value) error × (new ≡ old)
