-- Numbers as text. (InfluxData 1.8, line protocol reference, data types: integers, timestamps.)
use Rattle.std.specs.Prelude.{ℤ, pos, neg_ℤ, int_le, [], ◌∷◌, length, Bool, not, ◌&&◌, ◌==◌, if◌then◌else◌, Option, Some, None}
use Rattle.std.specs.Char.{is_ascii_digit}
use Rattle.std.specs.List.{list_all}
use Rattle.std.specs.Str.Parse.{signed_digits_value}
use Rattle.ts_core.specs.facts.Facts.{Text}

abbrev pub without_minus : Text → Text
without_minus [] = []
without_minus (b ∷ bs) = if b == 45 then bs else (b ∷ bs)

-- one or more digits
abbrev pub are_digits : Text → Bool
are_digits text = not (length text == 0) && list_all is_ascii_digit text

-- one or more digits, with or without a leading minus
unfoldable pub is_number : Text → Bool
is_number text = are_digits (without_minus text)

-- between two numbers, both included
abbrev pub is_from_to : ℤ → ℤ → ℤ → Bool
is_from_to least greatest n = int_le least n && int_le n greatest

-- the value of a number, if it fits in 64 bits
abbrev pub whole_of : Text → Option ℤ
whole_of number = if is_from_to (neg_ℤ (pos 9223372036854775808))
    (pos 9223372036854775807) (signed_digits_value 10 number) then Some (signed_digits_value 10 number) else None
