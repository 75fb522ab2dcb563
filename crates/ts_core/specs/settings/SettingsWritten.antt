-- The text of settings, from which the same settings can be read. (Own rules.)
use Rattle.std.specs.Prelude.{◌≡◌, ◌≢◌, ℕ, ◌<◌, ◌^◌, ◌==◌, ℤ, [], ◌++◌, map, if◌then◌else◌, None, Ok, codes, decimal, FitsSigned}
use Rattle.std.specs.Fmt.{signed_decimal}
use Rattle.std.specs.Int.{w64}
use Rattle.std.specs.List.{AllByRecursion}
use Rattle.serde_json.specs.Data.{Data, string, array, object, no_members, member}
use Rattle.serde_json.specs.View.{items_of}
use Rattle.serde_json.specs.Written.{compact_text}
use Rattle.ts_core.specs.facts.Facts.{Text}
use Rattle.ts_core.specs.settings.Settings.{Rule, Settings}
use Rattle.ts_core.specs.settings.SettingsFaults.{settings_fault}
use Rattle.ts_core.specs.settings.SettingsTexts.{settings_read}

abbrev pub nanoseconds_text : ℤ → Text
nanoseconds_text n = signed_decimal n ++ codes "ns"

-- 0 means for ever
abbrev pub keeping_text : ℕ → Text
keeping_text n = if n == 0 then codes "INF" else decimal n ++ codes "ns"

-- the keys in byte order
abbrev pub rule_data : Rule → Data
rule_data r = object
    (member (codes "duration") (string (keeping_text r.duration))
    (member (codes "interval") (string (nanoseconds_text r.interval))
    (member (codes "keep") (array (items_of (map string r.kept_tags)))
    (member (codes "measurement") (string r.measurement)
    (member (codes "name") (string r.name)
    (member (codes "offset") (string (nanoseconds_text r.offset)) no_members))))))

abbrev pub settings_data : Settings → Data
settings_data s = object
    (member (codes "raw") (string (keeping_text s.raw_duration))
    (member (codes "rules") (array (items_of (map rule_data s.rules))) no_members))

-- JSON without spaces
abbrev pub settings_text : Settings → Text
settings_text s = compact_text (settings_data s)

-- a rule whose numbers fit 64 bits, as `Rule::new` creates it
pub record MayBeWritten (r : Rule) : Type 0 where
  pub measured : r.measurement ≢ []
  pub tagged : AllByRecursion (λ tag. tag ≢ []) r.kept_tags
  pub interval : FitsSigned w64 r.interval
  pub offset : FitsSigned w64 r.offset
  pub duration : r.duration < 2 ^ 63

-- valid settings whose numbers fit 64 bits
pub record HaveText (s : Settings) : Type 0 where
  pub faultless : settings_fault s ≡ None
  pub raw : s.raw_duration < 2 ^ 63
  pub rules : AllByRecursion MayBeWritten s.rules

-- reading the text of settings returns the same settings, whatever bytes their texts have
abbrev pub SettingsReadBack : Type 0
SettingsReadBack = (s : Settings) → HaveText s → settings_read (settings_text s) ≡ Ok s
