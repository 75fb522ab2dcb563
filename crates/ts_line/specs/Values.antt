-- Field values, classified by their form. (InfluxData 1.8, line protocol reference, data types and format; the store
-- accepts integers only.)
use Rattle.std.specs.Prelude.{ℕ, ℤ, ◌+◌, ◌-◌, [], ◌∷◌, length, take, drop, Bool, true, false, not, ◌&&◌, ◌||◌, ◌==◌, if◌then◌else◌, slice_index, slice_range, Option, Some, None, Result, Ok, Err, bytes_eq, codes}
use Rattle.std.specs.Char.{is_ascii_digit}
use Rattle.ts_core.specs.facts.Facts.{Text}
use Rattle.ts_line.specs.declared.fault.LineFault.{LineFault}
use Rattle.ts_line.specs.declared.fault.LineFaultKind.TheVariants.{BadField, FieldType, IntegerRange}
use Rattle.ts_line.specs.FaultText.{fault_at}
use Rattle.ts_line.specs.declared.scan.Stops.TheVariants.{Plain}
use Rattle.ts_core.specs.text.Numbers.{are_digits, is_number, without_minus, whole_of}
use Rattle.ts_line.specs.Scan.{end_of}
use Rattle.ts_core.specs.text.Steps.{◌>>=◌}

-- ---- forms

-- a text that satisfies `is_front`, and one more byte
abbrev pub ends_in : ℕ → (Text → Bool) → Text → Bool
ends_in last is_front text =
    not (length text == 0) && slice_index text (length text - 1) == last && is_front (take (length text - 1) text)

abbrev pub is_integer : Text → Bool
is_integer = ends_in 105 is_number

abbrev pub is_unsigned : Text → Bool
is_unsigned = ends_in 117 are_digits

unfoldable pub is_boolean : Text → Bool
is_boolean text = bytes_eq text (codes "t") || bytes_eq text (codes "T")
    || bytes_eq text (codes "true") || bytes_eq text (codes "True") || bytes_eq text (codes "TRUE")
    || bytes_eq text (codes "f") || bytes_eq text (codes "F")
    || bytes_eq text (codes "false") || bytes_eq text (codes "False") || bytes_eq text (codes "FALSE")

-- the rest after one or more leading digits
abbrev pub after_digits : Bool → Text → Option Text
after_digits some [] = if some then Some [] else None
after_digits some (b ∷ bs) = if is_ascii_digit b then after_digits true bs else (if some then Some (b ∷ bs) else None)

-- skips a point and digits, or nothing (own: digits must follow the point, though the reference also shows `1.e+78`)
abbrev pub after_fraction : Text → Option Text
after_fraction [] = Some []
after_fraction (b ∷ bs) = if b == 46 then after_digits false bs else Some (b ∷ bs)

abbrev pub without_sign : Text → Text
without_sign [] = []
without_sign (b ∷ bs) = if b == 43 || b == 45 then bs else (b ∷ bs)

-- an `e` and digits, with or without a sign before them, or nothing
abbrev pub is_exponent : Text → Bool
is_exponent [] = true
is_exponent (b ∷ bs) = (b == 101 || b == 69) && are_digits (without_sign bs)

abbrev pub then_is : Option Text → (Text → Bool) → Bool
then_is None is_rest = false
then_is (Some rest) is_rest = is_rest rest

abbrev pub is_float : Text → Bool
is_float text = then_is (after_digits false (without_minus text)) (λ rest. then_is (after_fraction rest) is_exponent)

-- The rest after a string's closing quote, from the byte after its opening quote. A backslash followed by a quote or a
-- backslash is skipped as a pair.
abbrev pub after_quotes : Bool → Text → Option Text
after_quotes escaped [] = None
after_quotes escaped (b ∷ bs) =
    if escaped && (b == 34 || b == 92) then after_quotes false bs else
    (if b == 34 then Some bs else after_quotes (b == 92) bs)

-- a comma, a space or the end
abbrev pub is_value_end : Text → Bool
is_value_end [] = true
is_value_end (b ∷ bs) = b == 44 || b == 32

-- ---- values

abbrev pub integer_by : ℕ → Option ℤ → Result ℤ LineFault
integer_by start None = Err (fault_at IntegerRange start)
integer_by start (Some n) = Ok n

-- the value of the field at `start`: an integer, or an error
unfoldable pub integer_value : ℕ → Text → Result ℤ LineFault
integer_value start text =
    if is_integer text then integer_by start (whole_of (take (length text - 1) text)) else
    (if is_unsigned text || is_boolean text || is_float text
    then Err (fault_at FieldType start) else Err (fault_at BadField start))

-- the value at `at` of the field at `start`, and the offset after it
unfoldable pub value_begun_at : ℕ → Text → ℕ → Result (ℤ × ℕ) LineFault
value_begun_at start line at =
    if slice_index line at == 34
    then (if then_is (after_quotes false (drop (at + 1) line)) is_value_end
    then Err (fault_at FieldType start) else Err (fault_at BadField start))
    else (integer_value start (slice_range line at (end_of Plain line at)) >>= λ n. Ok (n, end_of Plain line at))
