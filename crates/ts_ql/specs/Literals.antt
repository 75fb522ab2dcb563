-- Values of literals: numbers, durations and strings.
-- (InfluxData 1.8, InfluxQL reference, literals: integers, durations, strings. Own rule: the four escapes, and the
-- ranges.)
use Rattle.std.specs.Prelude.{ℕ, ℤ, ◌+◌, ◌-◌, ◌*◌, [], ◌∷◌, List, Bool, true, false, ◌==◌, if◌then◌else◌, Option, slice_index, encode_utf8_all}
use Rattle.std.specs.Char.{is_ascii_digit}
use Rattle.std.specs.Str.{chars, str_eq_ignore_ascii_case}
use Rattle.ts_core.specs.facts.Durations.{counted_up, counted_down}
use Rattle.ts_core.specs.facts.Facts.{Text}
use Rattle.ts_ql.specs.DurationUnits.{nanoseconds_of_unit}

-- ---- numbers

-- the sum of numbers times their units, continued from a total and a number; a number without a unit is added unchanged
-- (The second byte of a unit has no number before it, and adds nothing.)
abbrev pub units_added_up : ℕ → ℕ → Text → ℕ
units_added_up total number [] = total + number
units_added_up total number (b ∷ bs) =
    if is_ascii_digit b then units_added_up total (number * 10 + (b - 48)) bs
    else units_added_up (total + number * nanoseconds_of_unit b (slice_index bs 0)) 0 bs

-- the value of an integer, or the nanoseconds of a duration
unfoldable pub magnitude : Text → ℕ
magnitude text = units_added_up 0 0 text

abbrev pub signed : Bool → ℕ → Option ℤ
signed true n = counted_down n
signed false n = counted_up n

-- the value of a literal with or without a minus, if it fits in 64 bits
unfoldable pub literal : Bool → Text → Option ℤ
literal negative text = signed negative (magnitude text)

-- ---- strings

-- the character for an escape, given the character after the backslash
abbrev pub escape : ℕ → ℕ
escape c = if c == 110 then 10 else c

-- the characters with their escapes resolved; `escaped` is true after a backslash
abbrev pub characters_spelled : Bool → List ℕ → List ℕ
characters_spelled escaped [] = []
characters_spelled true (c ∷ cs) = escape c ∷ characters_spelled false cs
characters_spelled false (c ∷ cs) = if c == 92 then characters_spelled true cs else c ∷ characters_spelled false cs

-- the characters of a string with its escapes resolved
abbrev pub spelled_chars : Text → List ℕ
spelled_chars text = characters_spelled false (chars text)

-- the string with its escapes resolved
unfoldable pub text_spelled : Text → Text
text_spelled text = encode_utf8_all (characters_spelled false (chars text))

-- the word, in any case
abbrev pub is_word : Text → Text → Bool
is_word word text = str_eq_ignore_ascii_case text word
