-- The parts of settings that a JSON value has, empty where it lacks one: what a fault is looked for in, before anything
-- is copied. (Own rules.)
use Rattle.std.specs.Prelude.{pos, unsigned_abs, List, [], ◌∷◌, Option, Some, None, option_and_then, unwrap_or, Result, codes, map}
use Rattle.serde_json.specs.Data.{Data, Items, no_items, item}
use Rattle.serde_json.specs.Find.{get, as_str, as_array}
use Rattle.serde_json.specs.View.{view}
use Rattle.serde_json.specs.declared.value.Value.{Value}
use Rattle.ts_core.specs.facts.Facts.{Text}
use Rattle.ts_core.specs.facts.Durations.{span_of, offset_of, keeping_of}
use Rattle.ts_core.specs.settings.Settings.{Rule, Settings}
use Rattle.ts_core.specs.settings.SettingsTexts.{text_at, if_not_empty, settings_parsed, settings_or_fault}
use Rattle.ts_core.specs.declared.settings.settings_fault.SettingsFault.{SettingsFault}
use Rattle.ts_core.specs.declared.settings.settings_fault.SettingsFault.TheVariants.{Form}
use Rattle.ts_core.specs.settings.SettingsFaults.{added_fault}

-- the text of a value
abbrev pub text_found : Data → Text
text_found d = unwrap_or (as_str d) []

-- the same of each item
abbrev pub of_each : {X : Type 0} → (Data → X) → Items → List X
of_each f no_items = []
of_each f (item d ds) = f d ∷ of_each f ds

-- the items of a key
abbrev pub items_in : Text → Data → Items
items_in key d = unwrap_or (option_and_then as_array (get key d)) no_items

-- the parts of a rule
unfoldable pub rule_found : Data → Rule
rule_found d = record {
  name = unwrap_or (text_at (codes "name") d) [];
  measurement = unwrap_or (option_and_then if_not_empty (text_at (codes "measurement") d)) [];
  interval = unwrap_or (option_and_then span_of (text_at (codes "interval") d)) (pos 0);
  offset = unwrap_or (option_and_then offset_of (text_at (codes "offset") d)) (pos 0);
  kept_tags = of_each text_found (items_in (codes "keep") d);
  duration = unsigned_abs (unwrap_or (option_and_then keeping_of (text_at (codes "duration") d)) (pos 0));
}

-- of several values
abbrev pub texts_found : List Value → List Text
texts_found values = map (λ v. text_found (view v)) values

abbrev pub rules_found : List Value → List Rule
rules_found values = map (λ v. rule_found (view v)) values

-- the parts of settings
unfoldable pub settings_found : Data → Settings
settings_found d = record {
  raw_duration = unsigned_abs (unwrap_or (option_and_then keeping_of (text_at (codes "raw") d)) (pos 0));
  rules = of_each rule_found (items_in (codes "rules") d);
}

-- the settings that a value is, or their first error
abbrev pub settings_from : Data → Result Settings SettingsFault
settings_from d = settings_or_fault (settings_parsed d)

-- the fault of appending the rule that a value is, if it is one
abbrev pub fault_added : Settings → Option Rule → Option SettingsFault
fault_added s None = Some Form
fault_added s (Some r) = added_fault s r
