-- The tags of a line. (InfluxData 1.8, line protocol reference, tag set; own limits and refusals.)
use Rattle.std.specs.Prelude.{ℕ, zero, suc, ◌+◌, List, [], ◌∷◌, ◌++◌, length, Bool, not, ◌||◌, ◌==◌, nat_le, if◌then◌else◌, slice_index, Result, Ok, Err, bytes_eq, codes, ⊤}
use Rattle.std.specs.List.{list_any}
use Rattle.ts_core.specs.facts.Facts.{Text}
use Rattle.ts_line.specs.declared.fault.LineFault.{LineFault}
use Rattle.ts_line.specs.declared.fault.LineFaultKind.TheVariants.{BadTag, RepeatedTagKey, OverLimit, ReservedKey}
use Rattle.ts_line.specs.FaultText.{fault_at}
use Rattle.ts_line.specs.declared.scan.Stops.TheVariants.{Equals}
use Rattle.ts_line.specs.Parts.{LinePart}
use Rattle.ts_line.specs.Scan.{end_of}
use Rattle.ts_line.specs.PartTexts.{piece_at}
use Rattle.ts_core.specs.text.Steps.{◌>>=◌}

-- a key and a value, neither empty, with one equals sign between them, and the offset after the tag
unfoldable pub pair_at : Text → ℕ → Result ((LinePart × LinePart) × ℕ) LineFault
pair_at line start =
    let key_end = end_of Equals line start in
    let value_end = end_of Equals line (key_end + 1) in
    if key_end == start
    || not (slice_index line key_end == 61) || value_end == key_end + 1 || slice_index line value_end == 61
    then Err (fault_at BadTag start)
    else Ok ((piece_at Equals line start key_end, piece_at Equals line (key_end + 1) value_end), value_end)

abbrev pub has_key : List (LinePart × LinePart) → Text → Bool
has_key tags key = list_any (λ t. bytes_eq t.0.text key) tags

-- checks the key of the tag at `start`, after the tags `before`
abbrev pub checked_key : List (LinePart × LinePart) → Text → ℕ → Result ⊤ LineFault
checked_key before key start =
    if bytes_eq key (codes "time") then Err (fault_at ReservedKey start) else
    (if has_key before key then Err (fault_at RepeatedTagKey start) else Ok tt)

-- the tag at `start`, after the tags `before`
unfoldable pub next_tag : List (LinePart × LinePart) → Text → ℕ → Result ((LinePart × LinePart) × ℕ) LineFault
next_tag before line start = pair_at line start >>= λ t.
    if nat_le 64 (length before) then Err (fault_at OverLimit start) else
    (if bytes_eq t.0.0.text (codes "time") then Err (fault_at ReservedKey start) else
    (if has_key before t.0.0.text then Err (fault_at RepeatedTagKey start) else Ok t))

-- The tags from `at`, each after a comma, appended to `before`, and the offset after the last. At most n are tried: 64
-- are accepted, and the 65th is an error.
unfoldable pub tags_at : ℕ → List (LinePart × LinePart) → Text → ℕ → Result (List (LinePart × LinePart) × ℕ) LineFault
tags_at zero before line at = Ok (before, at)
tags_at (suc n) before line at =
    if slice_index line at == 44
    then (next_tag before line (at + 1) >>= λ t. tags_at n (before ++ t.0 ∷ []) line t.1)
    else Ok (before, at)
