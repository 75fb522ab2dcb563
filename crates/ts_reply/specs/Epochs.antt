-- Time formats of replies, and their names. (InfluxData 1.8, API reference, /query, the parameter `epoch`: ns, u or µ,
-- ms, s, m, h. Own rules: also `n`, as for a precision, and `text` for RFC 3339.)
use Rattle.std.specs.Prelude.{[], ◌∷◌, Option, Some, option_map, bytes_eq, codes, if◌then◌else◌}
use Rattle.ts_core.specs.facts.Facts.{Text}
use Rattle.ts_core.specs.facts.TimeUnits.{UnitNames, unit_called}
use Rattle.ts_core.specs.declared.facts.time_unit.TimeUnit.{TimeUnit}
use Rattle.ts_core.specs.declared.facts.time_unit.TimeUnit.TheVariants.{Nanoseconds, Microseconds, Milliseconds, Seconds, Minutes, Hours}
use Rattle.ts_reply.specs.declared.epoch.Epoch.{Epoch}
use Rattle.ts_reply.specs.declared.epoch.Epoch.TheVariants.{Text as AsText, Units}

-- 194 and 181 are the bytes of µ
abbrev pub epoch_names : UnitNames
epoch_names =
    (codes "ns", Nanoseconds) ∷ (codes "n", Nanoseconds) ∷ (codes "u", Microseconds) ∷ (194 ∷ 181 ∷ [], Microseconds)
    ∷ (codes "ms", Milliseconds) ∷ (codes "s", Seconds) ∷ (codes "m", Minutes) ∷ (codes "h", Hours) ∷ []

-- the unit with this name
unfoldable pub epoch_unit_of : Text → Option TimeUnit
epoch_unit_of = unit_called epoch_names

-- the time format with this name
unfoldable pub epoch_of : Text → Option Epoch
epoch_of name = if bytes_eq name (codes "text") then Some AsText else option_map Units (epoch_unit_of name)
