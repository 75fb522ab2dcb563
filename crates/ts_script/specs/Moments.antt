-- Times of commands: a number with an optional unit. (Own rule.)
use Rattle.std.specs.Prelude.{ℕ, ℤ, take, drop, not, ◌||◌, ◌==◌, if◌then◌else◌, Option, None, option_and_then}
use Rattle.std.specs.Char.{is_ascii_digit}
use Rattle.std.specs.List.{position_or_len}
use Rattle.ts_core.specs.facts.Facts.{Text}
use Rattle.ts_core.specs.facts.TimeUnits.{nanoseconds_of, moment_unit_of}
use Rattle.ts_core.specs.text.Numbers.{is_number}
use Rattle.ts_line.specs.Lines.{time_of}

-- the time of a number of units, if it is valid; the unit is in nanoseconds
unfoldable pub moment_in : ℤ → Text → Option ℤ
moment_in unit number = if is_number number then time_of unit number else None

-- the length of the leading digits and minus signs, in bytes
unfoldable pub number_len : Text → ℕ
number_len text = position_or_len (λ b. not (b == 45 || is_ascii_digit b)) text

-- the time of a number with a unit
unfoldable pub moment_of : Text → Option ℤ
moment_of text = option_and_then (λ unit. moment_in (nanoseconds_of unit) (take (number_len text) text))
    (moment_unit_of (drop (number_len text) text))
