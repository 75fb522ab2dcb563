-- One step back over the spaces at a line's end, and the order in which its parts are read.
use Rattle.std.proofs.Common.{FitsSigned, w64}
use Rattle.std.proofs.lemmas.Int.{ints}
use Rattle.ts_core.specs.facts.TimeUnits.{nanoseconds_of}
use Rattle.ts_core.specs.declared.facts.time_unit.TimeUnit.{TimeUnit}
use Rattle.ts_core.specs.declared.facts.time_unit.TimeUnit.TheVariants.{Nanoseconds, Microseconds, Milliseconds, Seconds, Minutes, Hours, Days, Weeks}
use Rattle.std.specs.Option.{ok_or}
use Rattle.std.proofs.lemmas.List.{take_all}
use Rattle.ts_line.specs.declared.fault.LineFaultKind.TheVariants.{TimestampRange}
use Rattle.ts_line.specs.FaultText.{fault_at}
use Rattle.std.proofs.Common.{◌≡◌, true, slice_range, drop, Option, None, length-drop, ℕ, ℤ, zero, suc, ◌+◌, ◌-◌, ◌<◌, ◌≤◌, false, eqb, ltb, cond, List, [], length, slice_index, Result, Ok, Err, Some, refl, arith}
use Rattle.std.proofs.lemmas.Bool.{le-ltb}
use Rattle.ts_core.specs.facts.Facts.{Text}
use Rattle.ts_line.specs.declared.fault.LineFault.{LineFault}
use Rattle.ts_line.specs.Parts.{LinePart, Parts}
use Rattle.ts_line.specs.declared.scan.Stops.TheVariants.{Space, Comma}
use Rattle.ts_line.specs.Scan.{end_of, spaces_end}
use Rattle.ts_line.specs.PartTexts.{piece_at}
use Rattle.ts_line.specs.TagParts.{tags_at}
use Rattle.ts_line.specs.Fields.{fields_at}
use Rattle.ts_line.specs.Lines.{is_bare_space, trimmed, content, measurement_at, time_at, time_by, time_of, parts_at, line_of}
use Rattle.ts_core.specs.text.Numbers.{is_number}
use Rattle.ts_core.specs.text.Steps.{◌>>=◌}
use Rattle.ts_line.specs.Readings.{IfOutOfMemory}
use Rattle.ts_line.specs.declared.fault.ReadLineError.{ReadLineError}
use Rattle.ts_line.specs.declared.fault.ReadLineError.TheVariants as errors
use Rattle.std.proofs.lemmas.Bool.Decides.{nat_tests}
use Rattle.ts_line.proofs.PartFacts.{end_within}

pub trimmed_step : (line : Text) (n : ℕ) → 0 < n → trimmed line n ≡ cond (is_bare_space line (n - 1)) (trimmed line (n - 1)) n
trimmed_step line zero h = absurd (omega arith)
trimmed_step line (suc n) h =
    let e : suc n - 1 ≡ n = omega arith in
    rw e refl

-- in a short line no part is long
pub short_key : (line : Text) (start : ℕ) → start ≤ length line → length line ≤ start + 4096 → ltb (start + 4096) (end_of Space line start) ≡ false
short_key line start le short = le-ltb (start + 4096) (end_of Space line start) (omega (arith, (end_within Space line start le).1))

-- ---- a line is read step by step

pub parts_read : (unit now : ℤ) (line : Text) (start end end' end'' : ℕ) (m : LinePart) (tags : List (LinePart × LinePart)) (fields : List (LinePart × ℤ)) (time : ℤ)
    → measurement_at line start ≡ Ok (m, end) → tags_at 65 [] line end ≡ Ok (tags, end') → eqb (spaces_end line end') (length line) ≡ false
    → fields_at 256 [] line (spaces_end line end') ≡ Ok (fields, end'') → time_at unit now line end'' ≡ Ok time
    → parts_at unit now line start ≡ Ok (record { measurement = m; tags = tags; fields = fields; time = time })
unfolding parts_at
parts_read unit now line start end end' end'' m tags fields time a b c d e = rw (a, b, c, d, e) refl

pub time_fails : (unit now : ℤ) (line : Text) (start end end' end'' : ℕ) (m : LinePart) (tags : List (LinePart × LinePart)) (fields : List (LinePart × ℤ)) (f : LineFault)
    → measurement_at line start ≡ Ok (m, end) → tags_at 65 [] line end ≡ Ok (tags, end') → eqb (spaces_end line end') (length line) ≡ false
    → fields_at 256 [] line (spaces_end line end') ≡ Ok (fields, end'') → time_at unit now line end'' ≡ Err f
    → parts_at unit now line start ≡ Err f
unfolding parts_at
time_fails unit now line start end end' end'' m tags fields f a b c d e = rw (a, b, c, d, e) refl

pub line_read : (unit now : ℤ) (source : Text) (p : Parts) → ltb 65536 (length source) ≡ false → eqb (spaces_end (content source) 0) (length (content source)) ≡ false
    → eqb (slice_index (content source) (spaces_end (content source) 0)) 35 ≡ false → parts_at unit now (content source) (spaces_end (content source) 0) ≡ Ok p
    → line_of unit now source ≡ Ok (Some p)
unfolding line_of
line_read unit now source p a b c d = rw (a, b, c, d) refl

some_line : (r : Result Parts LineFault) → (r >>= λ p. Ok (Some p)) ≡ Ok None → ⊥
some_line (Ok p) e = absurd cc
some_line (Err f) e = absurd cc

-- a line that isn't blank or a comment is one that has parts or an error
pub not_none : (unit now : ℤ) (source : Text) → ltb 65536 (length source) ≡ false → eqb (spaces_end (content source) 0) (length (content source)) ≡ false
    → eqb (slice_index (content source) (spaces_end (content source) 0)) 35 ≡ false → line_of unit now source ≡ Ok None → ⊥
unfolding line_of
not_none unit now source a b c e =
    let read : (parts_at unit now (content source) (spaces_end (content source) 0) >>= λ p. Ok (Some p)) ≡ Ok None = rw (a, b, c) at e in
    some_line (parts_at unit now (content source) (spaces_end (content source) 0)) read

pub memory_by : {X : Type 0} (r : Result X ReadLineError) (Fact : Type 0) → Fact → IfOutOfMemory r Fact
memory_by (Ok x) Fact h = tt
memory_by (Err (errors.Fault f)) Fact h = tt
memory_by (Err errors.OutOfMemory) Fact h = h

-- a number after the fields is read as a time
pub timed : (unit now : ℤ) (line : Text) (at start : ℕ) → spaces_end line at ≡ start → (start ≡ length line → ⊥) → is_number (slice_range line start (length line)) ≡ true
    → time_at unit now line at ≡ time_by start (time_of unit (slice_range line start (length line)))
unfolding time_at
timed unit now line at start e ne number =
    let other : eqb start (length line) ≡ false = grind (arith, nat_tests) in
    rw (e, other, number) refl

pub to_end : (line : Text) (start : ℕ) → slice_range line start (length line) ≡ drop start line
to_end line start = take_all (length line - start) (drop start line) (omega (arith, length-drop start line))

pub or_fault : (start : ℕ) (o : Option ℤ) → ok_or o (fault_at TimestampRange start) ≡ time_by start o
or_fault start None = refl
or_fault start (Some t) = refl

pub unit_fits : (p : TimeUnit) → FitsSigned w64 (nanoseconds_of p)
unit_fits Nanoseconds = grind (arith, ints)
unit_fits Microseconds = grind (arith, ints)
unit_fits Milliseconds = grind (arith, ints)
unit_fits Seconds = grind (arith, ints)
unit_fits Minutes = grind (arith, ints)
unit_fits Hours = grind (arith, ints)
unit_fits Days = grind (arith, ints)
unit_fits Weeks = grind (arith, ints)

-- ---- the first error, read without parts

pub measurement_kept : (line : Text) (start end : ℕ) → end ≡ end_of Comma line start → end_of Space line start ≤ start + 4096 → (end ≡ start → ⊥) → measurement_at line start ≡ Ok (piece_at Comma line start end, end)
unfolding measurement_at
measurement_kept line start end e short ne =
    let no : ltb (start + 4096) (end_of Space line start) ≡ false = le-ltb (start + 4096) (end_of Space line start) short in
    let some : eqb end start ≡ false = grind (arith, nat_tests) in
    rw (no, ← e, some) refl
