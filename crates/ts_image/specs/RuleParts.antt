-- The values of rules and settings that the code reads. (Own rules.)
use Rattle.std.specs.Prelude.{List, map, string_bytes, Vec, String}
use Rattle.ts_core.specs.facts.Facts.{Text}
use Rattle.ts_image.specs.declared.read.rules.RuleParts.{RuleParts}
use Rattle.ts_image.specs.declared.read.rules.SettingsParts.{SettingsParts}
use Rattle.ts_image.specs.Images.{ImageRule, ImageSettings}

abbrev pub texts_of : {A : Type 0} → Vec (String A) A → List Text
texts_of v = map string_bytes v.items

abbrev pub rule_from_parts : {A : Type 0} → RuleParts A → ImageRule
rule_from_parts r = record {
  name = string_bytes r.name;
  measurement = string_bytes r.measurement;
  interval = r.interval;
  offset = r.offset;
  duration = r.duration;
  kept_tags = texts_of r.kept_tags;
}

abbrev pub rules_of_parts : {A : Type 0} → Vec (RuleParts A) A → List ImageRule
rules_of_parts v = map rule_from_parts v.items

abbrev pub settings_of_parts : {A : Type 0} → SettingsParts A → ImageSettings
settings_of_parts s = record { raw_duration = s.raw_duration; rules = rules_of_parts s.rules }
