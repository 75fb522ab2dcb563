-- The fields of a line. (InfluxData 1.8, line protocol reference, field set; own limits and refusals.)
use Rattle.std.specs.Prelude.{ℕ, ℤ, zero, suc, ◌+◌, List, [], ◌∷◌, not, ◌||◌, ◌==◌, if◌then◌else◌, slice_index, Option, Some, None, Result, Ok, Err, bytes_eq, codes}
use Rattle.ts_core.specs.facts.Facts.{Text}
use Rattle.ts_line.specs.declared.fault.LineFault.{LineFault}
use Rattle.ts_line.specs.declared.fault.LineFaultKind.TheVariants.{BadField, OverLimit, ReservedKey}
use Rattle.ts_line.specs.FaultText.{fault_at}
use Rattle.ts_line.specs.declared.scan.Stops.TheVariants.{Equals}
use Rattle.ts_line.specs.Parts.{LinePart}
use Rattle.ts_line.specs.Scan.{end_of}
use Rattle.ts_line.specs.PartTexts.{piece_at}
use Rattle.ts_core.specs.text.Steps.{◌>>=◌}
use Rattle.ts_line.specs.Values.{value_begun_at}

-- the field at `start`, and the offset after it
unfoldable pub next_field : Text → ℕ → Result ((LinePart × ℤ) × ℕ) LineFault
next_field line start =
    let key_end = end_of Equals line start in
    let key = piece_at Equals line start key_end in
    if key_end == start || not (slice_index line key_end == 61) then Err (fault_at BadField start) else
    (if bytes_eq key.text (codes "time") then Err (fault_at ReservedKey start) else
    (value_begun_at start line (key_end + 1) >>= λ v. Ok ((key, v.0), v.1)))

-- index of the first field with this name; `at` is the index of the list's head
abbrev pub offset_from : ℕ → Text → List (LinePart × ℤ) → Option ℕ
offset_from at name [] = None
offset_from at name (f ∷ fs) = if bytes_eq f.0.text name then Some at else offset_from (at + 1) name fs

-- the fields with one more: a new name is appended, and a known name keeps its index and takes the new value
abbrev pub with_field : List (LinePart × ℤ) → LinePart × ℤ → List (LinePart × ℤ)
with_field [] f = f ∷ []
with_field (g ∷ gs) f = if bytes_eq g.0.text f.0.text then ((g.0, f.1) ∷ gs) else (g ∷ with_field gs f)

-- the comma-separated fields from `at`, inserted into `before`, and the offset after the last; at most n of them
unfoldable pub fields_at : ℕ → List (LinePart × ℤ) → Text → ℕ → Result (List (LinePart × ℤ) × ℕ) LineFault
fields_at zero before line at = Err (fault_at OverLimit at)
fields_at (suc n) before line at = next_field line at >>= λ f.
    if slice_index line f.1 == 44
    then fields_at n (with_field before f.0) line (f.1 + 1) else Ok (with_field before f.0, f.1)
