-- Ends of the parts of a line.
-- (InfluxData 1.8, line protocol reference, special characters; own in all corner cases of backslashes.)
use Rattle.std.specs.Prelude.{ℕ, ◌+◌, [], ◌∷◌, drop, Bool, false, not, ◌&&◌, ◌||◌, ◌==◌, if◌then◌else◌}
use Rattle.ts_core.specs.facts.Facts.{Text}
use Rattle.ts_line.specs.declared.scan.Stops.{Stops}
use Rattle.ts_line.specs.declared.scan.Stops.TheVariants.{Space, Comma, Equals, Plain}

abbrev pub is_backslash : ℕ → Bool
is_backslash byte = byte == 92

-- the byte is a delimiter
abbrev pub is_stop : Stops → ℕ → Bool
is_stop Space byte = byte == 32
is_stop Comma byte = byte == 32 || byte == 44
is_stop Equals byte = byte == 32 || byte == 44 || byte == 61
is_stop Plain byte = byte == 32 || byte == 44

-- a backslash directly before a byte escapes it
abbrev pub is_escaped : Stops → ℕ → Bool
is_escaped Plain before = false
is_escaped _ before = is_backslash before

-- the part ends at `byte`, which follows `before`
abbrev pub ends : Stops → ℕ → ℕ → Bool
ends stops before byte = is_stop stops byte && not (is_escaped stops before)

-- length in bytes of a part that follows the byte `before`
abbrev pub part_len : Stops → ℕ → Text → ℕ
part_len stops before [] = 0
part_len stops before (b ∷ bs) = if ends stops before b then 0 else (part_len stops b bs + 1)

-- offset of the end of the part that begins at `from`
unfoldable pub end_of : Stops → Text → ℕ → ℕ
end_of stops line from = from + part_len stops 0 (drop from line)

abbrev pub spaces : Text → ℕ
spaces [] = 0
spaces (b ∷ bs) = if b == 32 then (spaces bs + 1) else 0

unfoldable pub spaces_end : Text → ℕ → ℕ
spaces_end line from = from + spaces (drop from line)
