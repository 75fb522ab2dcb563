-- Parts of a line with their unescaped texts.
-- (InfluxData 1.8, line protocol reference, special characters. Own: a backslash before anything else is itself, and
-- nothing escapes the backslash.)
use Rattle.std.specs.Prelude.{ℕ, [], ◌∷◌, slice_range, Bool, false, ◌&&◌, if◌then◌else◌}
use Rattle.ts_core.specs.facts.Facts.{Text}
use Rattle.ts_line.specs.declared.scan.Stops.{Stops}
use Rattle.ts_line.specs.Parts.{LinePart}
use Rattle.ts_line.specs.Scan.{is_backslash, is_stop}

-- the first byte is escapable, that is, a delimiter
abbrev pub begins_escapable : Stops → Text → Bool
begins_escapable stops [] = false
begins_escapable stops (b ∷ bs) = is_stop stops b

-- the text without its escaping backslashes
abbrev pub unescaped : Stops → Text → Text
unescaped stops [] = []
unescaped stops (b ∷ bs) =
    if is_backslash b && begins_escapable stops bs then unescaped stops bs else b ∷ unescaped stops bs

-- the part of a line from `start` to `end`, if it has no escape
abbrev pub plain_piece : Text → ℕ → ℕ → LinePart
plain_piece line start end =
    record { start = start; raw = slice_range line start end; text = slice_range line start end }

-- the part of a line from `start` to `end`
abbrev pub piece_at : Stops → Text → ℕ → ℕ → LinePart
piece_at stops line start end =
    record { start = start; raw = slice_range line start end; text = unescaped stops (slice_range line start end) }
