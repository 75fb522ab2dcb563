-- Timestamps in quotes, in UTC.
-- (InfluxData 1.8, InfluxQL reference, dates & times: YYYY-MM-DD, YYYY-MM-DD HH:MM:SS.nnnnnnnnn, RFC 3339. Own rule: Z
-- or none.)
use Rattle.std.specs.Prelude.{ℕ, ℤ, pos, ◌+◌, ◌-◌, ◌*◌, ◌+ℤ◌, ◌*ℤ◌, length, drop, take, slice_index, slice_range, Bool, ◌&&◌, ◌||◌, ◌==◌, nat_lt, nat_le, if◌then◌else◌, Option, Some, None, option_and_then, option_map, unsigned_abs}
use Rattle.jiff_core.specs.Calendar.{days_in_month, days_from_civil}
use Rattle.ts_core.specs.facts.Durations.{in_64_bits}
use Rattle.ts_core.specs.facts.Facts.{Text}
use Rattle.ts_core.specs.text.Numbers.{are_digits, whole_of}

-- the number of one or more digits, if it has 63 bits
unfoldable pub digits : Text → Option ℕ
digits text = if are_digits text then option_map unsigned_abs (whole_of text) else None

-- ---- dates

-- the calendar has this day
abbrev pub is_date : ℕ → ℕ → ℕ → Bool
is_date year month day =
    nat_le year 9999 && nat_le 1 month && nat_le month 12 && nat_le 1 day && nat_le day (days_in_month (pos year) month)

-- midnight of a day, in nanoseconds of the Unix epoch
unfoldable pub midnight : ℕ → ℕ → ℕ → Option ℤ
midnight year month day =
    if is_date year month day then Some (days_from_civil (pos year) month day *ℤ pos 86400000000000) else None

-- YYYY-MM-DD
unfoldable pub date_of : Text → Option ℤ
date_of text =
    if length text == 10 && slice_index text 4 == 45 && slice_index text 7 == 45
    then option_and_then (λ year. option_and_then (λ month. option_and_then (λ day. midnight year month day)
    (digits (slice_range text 8 10))) (digits (slice_range text 5 7))) (digits (slice_range text 0 4))
    else None

-- ---- times of a day

-- weight in nanoseconds of the last of n decimals of a second
unfoldable pub place_value : ℕ → ℕ
place_value places =
    if places == 1 then 100000000 else if places == 2 then 10000000 else if places == 3 then 1000000
    else if places == 4 then 100000 else if places == 5 then 10000 else if places == 6 then 1000
    else if places == 7 then 100 else if places == 8 then 10 else 1

-- nothing, or a point and one to nine digits, in nanoseconds
unfoldable pub fraction : Text → Option ℕ
fraction text =
    if length text == 0 then Some 0
    else if slice_index text 0 == 46 && nat_le 2 (length text) && nat_le (length text) 10
    then option_and_then (λ n. in_64_bits (n * place_value (length text - 1))) (digits (drop 1 text))
    else None

abbrev pub clock_nanos : ℕ → ℕ → ℕ → ℕ → Option ℕ
clock_nanos hour minute second nanos =
    if nat_lt hour 24 && nat_lt minute 60 && nat_lt second 60
    then Some (((hour * 60 + minute) * 60 + second) * 1000000000 + nanos) else None

-- HH:MM:SS, with or without a fraction
unfoldable pub time_of_day : Text → Option ℕ
time_of_day text =
    if nat_le 8 (length text) && slice_index text 2 == 58 && slice_index text 5 == 58
    then option_and_then (λ hour. option_and_then (λ minute. option_and_then (λ second.
    option_and_then (λ nanos. clock_nanos hour minute second nanos) (fraction (drop 8 text)))
    (digits (slice_range text 6 8))) (digits (slice_range text 3 5))) (digits (slice_range text 0 2))
    else None

-- ---- both

-- the text without a trailing Z
unfoldable pub without_zone : Text → Text
without_zone text = if slice_index text (length text - 1) == 90 then take (length text - 1) text else text

abbrev pub day_plus_clock : Option ℤ → Option ℕ → Option ℤ
day_plus_clock date clock = option_and_then (λ day. option_map (λ nanos. day +ℤ pos nanos) clock) date

-- a date alone; or a date, `T` or a space, and a time of day with or without `Z`
unfoldable pub timestamp_of : Text → Option ℤ
timestamp_of text =
    if nat_le (length text) 10 then date_of text
    else if slice_index text 10 == 84 || slice_index text 10 == 32
    then day_plus_clock (date_of (take 10 text)) (time_of_day (without_zone (drop 11 text)))
    else None
