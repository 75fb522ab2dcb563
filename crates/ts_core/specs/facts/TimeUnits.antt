-- Units of time, and their names in timestamps, durations and scripts.
-- (InfluxData 1.8, InfluxQL reference, durations: ns, u or µ, ms, s, m, h, d, w. HTTP API reference, /write, the
-- parameter `precision`: ns, u, ms, s, m, h. Own rules: a precision can also be `n`, and a time in a script without a
-- unit is in nanoseconds.)
use Rattle.std.specs.Prelude.{ℕ, ℤ, pos, List, [], ◌∷◌, if◌then◌else◌, Option, Some, None, option_map, bytes_eq, codes}
use Rattle.ts_core.specs.facts.Facts.{Text}
use Rattle.ts_core.specs.declared.facts.time_unit.TimeUnit.{TimeUnit}
use Rattle.ts_core.specs.declared.facts.time_unit.TimeUnit.TheVariants.{Nanoseconds, Microseconds, Milliseconds, Seconds, Minutes, Hours, Days, Weeks}

abbrev pub nanoseconds_of : TimeUnit → ℤ
nanoseconds_of Nanoseconds = pos 1
nanoseconds_of Microseconds = pos 1000
nanoseconds_of Milliseconds = pos 1000000
nanoseconds_of Seconds = pos 1000000000
nanoseconds_of Minutes = pos 60000000000
nanoseconds_of Hours = pos 3600000000000
nanoseconds_of Days = pos 86400000000000
nanoseconds_of Weeks = pos 604800000000000

-- names with their units
abbrev pub UnitNames : Type 0
UnitNames = List (Text × TimeUnit)

-- the unit of a name
abbrev pub unit_called : UnitNames → Text → Option TimeUnit
unit_called [] name = None
unit_called (known ∷ names) name = if bytes_eq name known.0 then Some known.1 else unit_called names name

-- names in the precision of timestamps
abbrev pub precision_names : UnitNames
precision_names =
    (codes "ns", Nanoseconds)
    ∷ (codes "n", Nanoseconds) ∷ (codes "u", Microseconds) ∷ (codes "ms", Milliseconds) ∷ (codes "s", Seconds)
    ∷ (codes "m", Minutes) ∷ (codes "h", Hours) ∷ []

-- names in durations; 194 and 181 are the bytes of µ
abbrev pub duration_names : UnitNames
duration_names =
    (codes "ns", Nanoseconds)
    ∷ (codes "u", Microseconds) ∷ (194 ∷ 181 ∷ [], Microseconds) ∷ (codes "ms", Milliseconds) ∷ (codes "s", Seconds)
    ∷ (codes "m", Minutes) ∷ (codes "h", Hours) ∷ (codes "d", Days) ∷ (codes "w", Weeks) ∷ []

-- names in the times of a script: a duration's units, or none
abbrev pub moment_names : UnitNames
moment_names = ([], Nanoseconds) ∷ duration_names

unfoldable pub precision_of : Text → Option TimeUnit
precision_of = unit_called precision_names

unfoldable pub duration_unit_of : Text → Option TimeUnit
duration_unit_of = unit_called duration_names

unfoldable pub moment_unit_of : Text → Option TimeUnit
moment_unit_of = unit_called moment_names

-- a unit with a name of two bytes takes precedence over one with a name of one byte; returns the length of the name too
abbrev pub longer_first : Option TimeUnit → Option TimeUnit → Option (TimeUnit × ℕ)
longer_first (Some unit) other = Some (unit, 2)
longer_first None other = option_map (λ unit. (unit, 1)) other

-- the unit of a duration whose name begins with these two bytes
unfoldable pub unit_begun : ℕ → ℕ → Option (TimeUnit × ℕ)
unit_begun byte next = longer_first (duration_unit_of (byte ∷ next ∷ [])) (duration_unit_of (byte ∷ []))
