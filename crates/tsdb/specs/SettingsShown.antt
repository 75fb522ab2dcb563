-- Settings as an inspection shows them: reading them gives the same settings. (InfluxData 1.8, InfluxQL reference,
-- literals: durations. Own rule: the form.)
use Rattle.std.specs.Prelude.{◌≡◌, ℕ, pos, Some, map, string_bytes}
use Rattle.std.specs.List.{AllZip}
use Rattle.ts_core.specs.facts.Facts.{Text}
use Rattle.ts_core.specs.facts.Durations.{keeping_of, offset_of, span_of}
use Rattle.ts_core.specs.facts.TimeUnits.{duration_unit_of, nanoseconds_of}
use Rattle.ts_core.specs.settings.Settings.{Rule, Settings}
use Rattle.ts_core.specs.declared.facts.time_unit.TimeUnit.{TimeUnit}
use Rattle.tsdb.specs.declared.summary.RuleSettings.{RuleSettings}
use Rattle.tsdb.specs.declared.summary.SettingsSummary.{SettingsSummary}

-- the name of a unit of this number of nanoseconds
pub record IsUnit (nanos : ℕ) (name : Text) : Type 0 where
  pub unit : TimeUnit
  pub called : duration_unit_of name ≡ Some unit
  pub lasts : nanoseconds_of unit ≡ pos nanos

pub record ShowsRule (r : Rule) (shown : RuleSettings) : Type 0 where
  pub name : shown.name.now ≡ r.name
  pub measurement : shown.measurement.now ≡ r.measurement
  pub interval : span_of (string_bytes shown.interval) ≡ Some r.interval
  pub offset : offset_of (string_bytes shown.offset) ≡ Some r.offset
  pub keep : map string_bytes shown.keep.now ≡ r.kept_tags
  pub duration : keeping_of (string_bytes shown.duration) ≡ Some (pos r.duration)

pub record ShowsSettings (s : Settings) (shown : SettingsSummary) : Type 0 where
  pub raw : keeping_of (string_bytes shown.raw) ≡ Some (pos s.raw_duration)
  pub rules : AllZip ShowsRule s.rules shown.rules.items
