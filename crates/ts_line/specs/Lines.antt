-- A whole line: no line at all, its parts, or its first error with its byte offset.
-- (InfluxData 1.8, line protocol reference, syntax, comments, whitespace; own limits.)
use Rattle.std.specs.Prelude.{ℕ, ℤ, zero, suc, ◌+◌, ◌-◌, ◌*ℤ◌, length, take, Bool, not, ◌&&◌, ◌||◌, ◌==◌, nat_lt, if◌then◌else◌, slice_index, slice_range, Option, Some, None, Result, Ok, Err, []}
use Rattle.std.specs.Str.Parse.{signed_digits_value}
use Rattle.ts_core.specs.facts.Facts.{Text}
use Rattle.ts_core.specs.facts.Times.{least_time, greatest_time}
use Rattle.ts_line.specs.declared.fault.LineFault.{LineFault}
use Rattle.ts_line.specs.declared.fault.LineFaultKind.TheVariants.{NoMeasurement, NoField, BadTimestamp, TimestampRange, OverLimit}
use Rattle.ts_line.specs.FaultText.{fault_at}
use Rattle.ts_line.specs.declared.scan.Stops.TheVariants.{Space, Comma}
use Rattle.ts_line.specs.Parts.{LinePart, Parts}
use Rattle.ts_core.specs.text.Numbers.{is_number, is_from_to}
use Rattle.ts_line.specs.Scan.{is_backslash, end_of, spaces_end}
use Rattle.ts_line.specs.PartTexts.{piece_at}
use Rattle.ts_core.specs.text.Steps.{◌>>=◌}
use Rattle.ts_line.specs.TagParts.{tags_at}
use Rattle.ts_line.specs.Fields.{fields_at}

-- an unescaped space
unfoldable pub is_bare_space : Text → ℕ → Bool
is_bare_space line at = slice_index line at == 32 && (at == 0 || not (is_backslash (slice_index line (at - 1))))

-- length of the first n bytes without trailing unescaped spaces
abbrev pub trimmed : Text → ℕ → ℕ
trimmed line zero = 0
trimmed line (suc n) = if is_bare_space line n then trimmed line n else suc n

-- length of the text without one trailing carriage return
abbrev pub without_return : Text → ℕ
without_return line =
    if not (length line == 0) && slice_index line (length line - 1) == 13 then (length line - 1) else length line

-- the text without one trailing carriage return, then without trailing unescaped spaces
unfoldable pub content : Text → Text
content source = take (trimmed source (without_return source)) source

-- the measurement, and the offset after it; together with its tags it has at most 4,096 bytes
unfoldable pub measurement_at : Text → ℕ → Result (LinePart × ℕ) LineFault
measurement_at line start =
    if nat_lt (start + 4096) (end_of Space line start) then Err (fault_at OverLimit (start + 4096)) else
    (if end_of Comma line start == start then Err (fault_at NoMeasurement start)
    else Ok (piece_at Comma line start (end_of Comma line start), end_of Comma line start))

-- the time of this number of units
unfoldable pub time_of : ℤ → Text → Option ℤ
time_of unit number = if is_from_to least_time greatest_time (signed_digits_value 10 number *ℤ unit)
    then Some (signed_digits_value 10 number *ℤ unit) else None

abbrev pub time_by : ℕ → Option ℤ → Result ℤ LineFault
time_by start None = Err (fault_at TimestampRange start)
time_by start (Some t) = Ok t

-- the timestamp's time, or `now` if there is no timestamp
unfoldable pub time_at : ℤ → ℤ → Text → ℕ → Result ℤ LineFault
time_at unit now line at =
    let start = spaces_end line at in
    let number = slice_range line start (length line) in
    if start == length line then Ok now
    else (if is_number number then time_by start (time_of unit number) else Err (fault_at BadTimestamp start))

-- measurement, tags, fields and time of the line, parsed from `start`
unfoldable pub parts_at : ℤ → ℤ → Text → ℕ → Result Parts LineFault
parts_at unit now line start =
    measurement_at line start >>= λ m.
    tags_at 65 [] line m.1 >>= λ tags.
    (if spaces_end line tags.1 == length line
    then Err (fault_at NoField tags.1) else fields_at 256 [] line (spaces_end line tags.1)) >>= λ fields.
    time_at unit now line fields.1 >>= λ time.
    Ok (record { measurement = m.0; tags = tags.0; fields = fields.0; time = time })

-- a line without its line feed, parsed: its parts, nothing for a comment or a blank line, or its first error
unfoldable pub line_of : ℤ → ℤ → Text → Result (Option Parts) LineFault
line_of unit now source =
    if nat_lt 65536 (length source) then Err (fault_at OverLimit 65536) else
    (let line = content source in
    let start = spaces_end line 0 in
    if start == length line || slice_index line start == 35
    then Ok None else (parts_at unit now line start >>= λ p. Ok (Some p)))
