-- Duration units, identified by the first two bytes of their names.
-- (InfluxData 1.8, InfluxQL reference, literals: durations.)
use Rattle.std.specs.Prelude.{ℕ, unsigned_abs, Option, Some, None}
use Rattle.ts_core.specs.declared.facts.time_unit.TimeUnit.{TimeUnit}
use Rattle.ts_core.specs.facts.TimeUnits.{nanoseconds_of, unit_begun}

abbrev pub begun_len : Option (TimeUnit × ℕ) → ℕ
begun_len None = 0
begun_len (Some begun) = begun.1

abbrev pub begun_nanoseconds : Option (TimeUnit × ℕ) → ℕ
begun_nanoseconds None = 1
begun_nanoseconds (Some begun) = unsigned_abs (nanoseconds_of begun.0)

-- length in bytes of the unit that begins with these two bytes; 0 if none does
unfoldable pub unit_len : ℕ → ℕ → ℕ
unit_len byte next = begun_len (unit_begun byte next)

-- nanoseconds of the unit that begins with these two bytes; 1 if none does
unfoldable pub nanoseconds_of_unit : ℕ → ℕ → ℕ
nanoseconds_of_unit byte next = begun_nanoseconds (unit_begun byte next)
