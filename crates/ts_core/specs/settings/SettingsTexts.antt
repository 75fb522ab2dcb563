-- Settings as a JSON object. (Own rules. The words are of InfluxData 1.8, downsampling and data retention.)
use Rattle.std.specs.Prelude.{◌≡◌, ⊤, ℕ, suc, ◌==◌, ℤ, unsigned_abs, List, [], ◌∷◌, Bool, true, false, Option, Some, None, option_map, option_and_then, unwrap_or, Result, Ok, Err, codes}
use Rattle.serde_json.specs.Data.{Data, Items, no_items, item, Members, no_members, member}
use Rattle.serde_json.specs.Find.{get, as_str, as_array, as_object}
use Rattle.serde_json.specs.Read.{read}
use Rattle.ts_core.specs.facts.Facts.{Text}
use Rattle.ts_core.specs.settings.Settings.{Rule, Settings}
use Rattle.ts_core.specs.settings.SettingsFaults.{settings_fault}
use Rattle.ts_core.specs.facts.Durations.{span_of, offset_of, keeping_of}
use Rattle.ts_core.specs.declared.settings.settings_fault.SettingsError.{SettingsError}
use Rattle.ts_core.specs.declared.settings.settings_fault.SettingsError.TheVariants.{Fault, OutOfMemory}
use Rattle.ts_core.specs.declared.settings.settings_fault.SettingsFault.{SettingsFault}
use Rattle.ts_core.specs.declared.settings.settings_fault.SettingsFault.TheVariants.{Form}

-- ---- parts of an object

abbrev pub members_count : Members → ℕ
members_count no_members = 0
members_count (member k d ms) = suc (members_count ms)

-- an object with n keys. (An object has each key once: of a repeated key, the last value counts.)
abbrev pub has_keys : ℕ → Data → Bool
has_keys n d = unwrap_or (option_map (λ ms. members_count ms == n) (as_object d)) false

-- the text of a key
abbrev pub text_at : Text → Data → Option Text
text_at key d = option_and_then as_str (get key d)

-- a text that isn't empty
abbrev pub if_not_empty : Text → Option Text
if_not_empty [] = None
if_not_empty (b ∷ bs) = Some (b ∷ bs)

abbrev pub filled_text : Data → Option Text
filled_text d = option_and_then if_not_empty (as_str d)

-- all items, parsed by the same function
abbrev pub each : {X : Type 0} → (Data → Option X) → Items → Option (List X)
each f no_items = Some []
each f (item d ds) = option_and_then (λ x. option_map (λ xs. x ∷ xs) (each f ds)) (f d)

-- the items of a key
abbrev pub each_at : {X : Type 0} → Text → (Data → Option X) → Data → Option (List X)
each_at key f d = option_and_then (each f) (option_and_then as_array (get key d))

-- ---- settings

abbrev pub rule_with : Bool → Option Text → Option Text → Option ℤ
    → Option ℤ → Option (List Text) → Option ℤ → Option Rule
rule_with true (Some name) (Some measurement) (Some interval) (Some offset) (Some kept_tags) (Some duration) =
    Some (record {
      name = name;
      measurement = measurement;
      interval = interval;
      offset = offset;
      kept_tags = kept_tags;
      duration = unsigned_abs duration;
    })
rule_with _ _ _ _ _ _ _ = None

-- exactly six keys; the measurement and the kept tags aren't empty
unfoldable pub rule_parsed : Data → Option Rule
rule_parsed d = rule_with (has_keys 6 d)
    (text_at (codes "name") d)
    (option_and_then if_not_empty (text_at (codes "measurement") d))
    (option_and_then span_of (text_at (codes "interval") d))
    (option_and_then offset_of (text_at (codes "offset") d))
    (each_at (codes "keep") filled_text d)
    (option_and_then keeping_of (text_at (codes "duration") d))

-- parses a rule by itself
unfoldable pub rule_read : Text → Option Rule
rule_read text = option_and_then rule_parsed (read text)

abbrev pub settings_with : Bool → Option ℤ → Option (List Rule) → Option Settings
settings_with true (Some raw) (Some rules) = Some (record { raw_duration = unsigned_abs raw; rules = rules })
settings_with _ _ _ = None

-- exactly two keys
unfoldable pub settings_parsed : Data → Option Settings
settings_parsed d = settings_with (has_keys 2 d)
    (option_and_then keeping_of (text_at (codes "raw") d))
    (each_at (codes "rules") rule_parsed d)

-- settings, or their first error
abbrev pub unless_fault : Settings → Option SettingsFault → Result Settings SettingsFault
unless_fault s None = Ok s
unless_fault s (Some fault) = Err fault

abbrev pub settings_or_fault : Option Settings → Result Settings SettingsFault
settings_or_fault None = Err Form
settings_or_fault (Some s) = unless_fault s (settings_fault s)

-- parses settings; the form of the whole text is checked first
unfoldable pub settings_read : Text → Result Settings SettingsFault
settings_read text = settings_or_fault (option_and_then settings_parsed (read text))

-- ---- refusals

-- out of memory, or the text can't be parsed and the error is `Form`
abbrev pub IsRefusal : {X : Type 0} → SettingsError → Option X → Type 0
IsRefusal OutOfMemory read = ⊤
IsRefusal (Fault fault) read = (fault ≡ Form) × (read ≡ None)
