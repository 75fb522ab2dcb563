-- The first token from an offset on.
-- (InfluxData 1.8, InfluxQL reference: letters, digits, identifiers, strings, integers, durations, operators.)
use Rattle.std.specs.Prelude.{ℕ, ◌+◌, ◌-◌, [], ◌∷◌, drop, length, slice_index, slice_range, Bool, true, false, ◌&&◌, ◌||◌, ◌==◌, nat_lt, if◌then◌else◌, Option, Some, None}
use Rattle.std.specs.Char.{is_ascii_alphabetic, is_ascii_digit}
use Rattle.ts_core.specs.facts.Facts.{Text}
use Rattle.ts_ql.specs.declared.bytes.Class.{Class}
use Rattle.ts_ql.specs.declared.bytes.Class.TheVariants.{Space, Name, Digit}
use Rattle.ts_ql.specs.declared.token.Kind.{Kind}
use Rattle.ts_ql.specs.declared.token.Kind.TheVariants as kinds
use Rattle.ts_ql.specs.DurationUnits.{unit_len}
use Rattle.ts_ql.specs.Tokens.{Lexeme}
use Rattle.ts_ql.specs.Keywords.{is_keyword}

-- ---- runs of bytes

-- space, tab, line feed and carriage return separate tokens; names consist of letters, digits and `_`
abbrev pub is_in : Class → ℕ → Bool
is_in Space byte = byte == 32 || byte == 9 || byte == 10 || byte == 13
is_in Name byte = is_ascii_alphabetic byte || byte == 95 || is_ascii_digit byte
is_in Digit byte = is_ascii_digit byte

-- offset of the first of these bytes that isn't in the class, or the offset after them; `at` is the offset of their
-- first
abbrev pub run_end : Class → ℕ → Text → ℕ
run_end class at [] = at
run_end class at (b ∷ bs) = if is_in class b then run_end class (at + 1) bs else at

unfoldable pub end_of_run : Class → Text → ℕ → ℕ
end_of_run class text from = run_end class from (drop from text)

-- ---- strings in quotes

-- the only escapes are `\\`, `\n`, `\"` and `\'`
abbrev pub is_escape_byte : ℕ → Bool
is_escape_byte byte = byte == 92 || byte == 110 || byte == 34 || byte == 39

-- offset of the closing quote; none if the string is unclosed or has another escape
abbrev pub closing : ℕ → Bool → ℕ → Text → Option ℕ
closing quote escaped at [] = None
closing quote true at (b ∷ bs) = if is_escape_byte b then closing quote false (at + 1) bs else None
closing quote false at (b ∷ bs) = if b == quote then Some at else closing quote (b == 92) (at + 1) bs

unfoldable pub closing_quote : ℕ → Text → ℕ → Option ℕ
closing_quote quote text from = closing quote false from (drop from text)

-- ---- durations

-- The offset after the last number with its unit. `last` is that offset so far, `at` is the offset of these bytes, and
-- `counting` is true after a digit.
abbrev pub parts_end : ℕ → Bool → ℕ → Text → ℕ
parts_end last counting at [] = last
parts_end last counting at (b ∷ bs) =
    if is_ascii_digit b then parts_end last true (at + 1) bs
    else if counting then (if unit_len b (slice_index bs 0) == 0
    then last else parts_end (at + unit_len b (slice_index bs 0)) false (at + 1) bs)
    else if nat_lt at last then parts_end last false (at + 1) bs else last

-- offset after the duration at `from`, or `from` if there is none
unfoldable pub duration_end : Text → ℕ → ℕ
duration_end text from = parts_end from false from (drop from text)

-- ---- tokens

abbrev pub shape : Kind → ℕ → Kind × ℕ
shape kind end = (kind, end)

-- an operator of two bytes
unfoldable pub double : ℕ → ℕ → Option Kind
double first second =
    if first == 61 && second == 126 then Some kinds.Unsupported
    else if first == 33 && second == 126 then Some kinds.Unsupported
    else if first == 33 && second == 61 then Some kinds.NotEqual
    else if first == 60 && second == 62 then Some kinds.NotEqual
    else if first == 60 && second == 61 then Some kinds.LessOrEqual
    else if first == 62 && second == 61 then Some kinds.GreaterOrEqual
    else if first == 58 && second == 58 then Some kinds.DoubleColon else None

-- an operator of one byte
unfoldable pub single : ℕ → Option Kind
single byte =
    if byte == 44 then Some kinds.Comma
    else if byte == 40 then Some kinds.LeftParen
    else if byte == 41 then Some kinds.RightParen
    else if byte == 59 then Some kinds.Semicolon
    else if byte == 61 then Some kinds.Equals
    else if byte == 60 then Some kinds.Less
    else if byte == 62 then Some kinds.Greater
    else if byte == 43 then Some kinds.Plus
    else if byte == 45 then Some kinds.Minus
    else if byte == 42 || byte == 47 || byte == 37 || byte == 46 then Some kinds.Unsupported else None

abbrev pub single_at : Text → ℕ → Option Kind → Kind × ℕ
single_at text start None = (kinds.Bad, length text)
single_at text start (Some kind) = (kind, start + 1)

abbrev pub double_at : Text → ℕ → Option Kind → Kind × ℕ
double_at text start None = single_at text start (single (slice_index text start))
double_at text start (Some kind) = (kind, start + 2)

-- the longest operator at `start`
unfoldable pub operator_at : Text → ℕ → Kind × ℕ
operator_at text start = double_at text start (double (slice_index text start) (slice_index text (start + 1)))

-- a number: a duration, or digits without a letter or a point after them
unfoldable pub number_token_at : Text → ℕ → Kind × ℕ
number_token_at text start =
    if nat_lt start (duration_end text start) then (kinds.Duration, duration_end text start)
    else if is_ascii_alphabetic (slice_index text (end_of_run Digit text start))
    || slice_index text (end_of_run Digit text start) == 46 then (kinds.Bad, length text)
    else (kinds.Integer, end_of_run Digit text start)

-- a string in quotes; a quoted name isn't empty
abbrev pub closed_at : Text → ℕ → ℕ → Option ℕ → Kind × ℕ
closed_at text quote start None = (kinds.Bad, length text)
closed_at text quote start (Some close) =
    if quote == 39 then (kinds.StringLiteral, close + 1)
    else if close == start + 1 then (kinds.Bad, length text) else (kinds.QuotedName, close + 1)

unfoldable pub quoted_at : Text → ℕ → Kind × ℕ
quoted_at text start =
    closed_at text (slice_index text start) start (closing_quote (slice_index text start) text (start + 1))

-- the kind of the token at `start`, and the offset after it
unfoldable pub shape_at : Text → ℕ → Kind × ℕ
shape_at text start =
    if length text == start then (kinds.End, start)
    else if is_ascii_digit (slice_index text start) then number_token_at text start
    else if is_in Name (slice_index text start) then (kinds.Word, end_of_run Name text start)
    else if slice_index text start == 34 || slice_index text start == 39 then quoted_at text start
    else operator_at text start

-- a token of this kind is in quotes
abbrev pub is_quoted : Kind → Bool
is_quoted kinds.QuotedName = true
is_quoted kinds.StringLiteral = true
is_quoted kind = false

-- the token's bytes without quotes
abbrev pub token_text : Text → ℕ → Kind × ℕ → Text
token_text text start shape =
    if is_quoted shape.0 then slice_range text (start + 1) (shape.1 - 1) else slice_range text start shape.1

-- a word may be a keyword
abbrev pub kind_of : Kind → Text → Kind
kind_of kinds.Word raw = if is_keyword raw then kinds.Keyword else kinds.Word
kind_of kind raw = kind

abbrev pub shaped : Text → ℕ → Kind × ℕ → Lexeme
shaped text start shape = record {
  kind = kind_of shape.0 (slice_range text start shape.1);
  start = start;
  end = shape.1;
  raw = slice_range text start shape.1;
  text = token_text text start shape;
}

-- the first token from an offset on
unfoldable pub token_at : Text → ℕ → Lexeme
token_at text from = shaped text (end_of_run Space text from) (shape_at text (end_of_run Space text from))
