-- Ends of the parts of a line, read without the parts. (Own rules.)
use Rattle.std.specs.Prelude.{◌≡◌, ℕ, ℤ, zero, suc, ◌+◌, List, [], ◌∷◌, ◌==◌, if◌then◌else◌, slice_index, slice_range, Option, Some, None, Result, Ok, Err}
use Rattle.std.specs.List.{list_any}
use Rattle.ts_core.specs.facts.Facts.{Text}
use Rattle.ts_core.specs.text.Cursors.{IsOffsetFrom}
use Rattle.ts_line.specs.declared.fault.LineFault.{LineFault}
use Rattle.ts_line.specs.declared.scan.End.{End}
use Rattle.ts_line.specs.declared.scan.Stops.{Stops}
use Rattle.ts_line.specs.declared.scan.Stops.TheVariants.{Equals}
use Rattle.ts_line.specs.Scan.{is_stop}
use Rattle.ts_line.specs.Parts.{LinePart, Parts}
use Rattle.ts_line.specs.PartTexts.{piece_at}
use Rattle.ts_line.specs.TagParts.{pair_at}

-- the offset after what the step reads, or the step's error
abbrev pub EndsAs : {X : Type 0} → Result ℕ LineFault → Result (X × ℕ) LineFault → Type 0
EndsAs {X} (Ok end) read = (x : X) × (read ≡ Ok (x, end))
EndsAs (Err fault) read = read ≡ Err fault

-- the ends of the key and of the value of the tag at `start`, or its error
abbrev pub EndsAsPair : Text → ℕ → Result (End × End) LineFault → Type 0
EndsAsPair line start (Ok ends) = pair_at line start
    ≡ Ok ((piece_at Equals line start ends.0.at, piece_at Equals line (ends.0.at + 1) ends.1.at), ends.1.at)
EndsAsPair line start (Err fault) = pair_at line start ≡ Err fault

-- an end of a part that begins at `start`; it says if the part has an escape
pub record IsPartEnd (stops : Stops) (line : Text) (start : ℕ) (end : End) : Type 0 where
  pub offset : IsOffsetFrom line start end.at
  pub escape : end.has_escape ≡ list_any (is_stop stops) (slice_range line start end.at)

-- a tag and those after it
abbrev pub then_pairs : (ℕ → List (LinePart × LinePart))
    → Result ((LinePart × LinePart) × ℕ) LineFault → List (LinePart × LinePart)
then_pairs after (Ok t) = t.0 ∷ after t.1
then_pairs after (Err fault) = []

-- the tags from `at`, each after a comma, up to the first error; at most n of them
abbrev pub pairs_at : ℕ → Text → ℕ → List (LinePart × LinePart)
pairs_at zero line at = []
pairs_at (suc n) line at =
    if slice_index line at == 44 then then_pairs (pairs_at n line) (pair_at line (at + 1)) else []

-- the time of the parts, or the error
abbrev pub time_only : Result Parts LineFault → Result ℤ LineFault
time_only (Ok p) = Ok p.time
time_only (Err fault) = Err fault

-- the error of a line, if it has one
abbrev pub fault_if_any : {X : Type 0} → Result X LineFault → Option LineFault
fault_if_any (Ok x) = None
fault_if_any (Err fault) = Some fault
