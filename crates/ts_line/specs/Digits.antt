-- Digits in a line and their values. (Own rule.)
use Rattle.std.specs.Prelude.{◌≡◌, ◌≤◌, ◌<◌, ◌+◌, ℕ, ℤ, pos, true, length, drop, slice_index, slice_range}
use Rattle.std.specs.Char.{is_ascii_digit}
use Rattle.std.specs.List.{list_all}
use Rattle.std.specs.Str.Parse.{digits_value}
use Rattle.ts_core.specs.facts.Facts.{Text}
use Rattle.ts_line.specs.Values.{is_value_end}

-- the bytes from `from` to `end` are digits, possibly none, and their value is the number
pub record AreDigits (line : Text) (from end number : ℕ) : Type 0 where
  pub order : from ≤ end
  pub within : end ≤ length line
  pub digits : list_all is_ascii_digit (slice_range line from end) ≡ true
  pub value : number ≡ digits_value 10 (slice_range line from end)

-- the bytes from `first` to `end` are digits, an `i` follows them, and their value has at most 63 bits
pub record IsShortInteger (line : Text) (first end : ℕ) (n : ℤ) : Type 0 where
  pub some : first < end
  pub within : end < length line
  pub digits : list_all is_ascii_digit (slice_range line first end) ≡ true
  pub value : n ≡ pos (digits_value 10 (slice_range line first end))
  pub short : digits_value 10 (slice_range line first end) < 9223372036854775808
  pub last : slice_index line end ≡ 105
  pub rest : is_value_end (drop (end + 1) line) ≡ true
