-- A reader of fields, modelled by its read buffer and its offset; and the effect of its calls. (Own rules.)
use Rattle.std.specs.Prelude.{◌≡◌, ℕ, ◌+◌, ◌<◌, ◌≤◌, Bool, true, false, nat_lt, List, [], ◌∷◌, ◌++◌, length, Option, Some, None, IsSome, Result, Ok, Err, MatchResult}
use Rattle.std.specs.Io.KnownBytes.{Consumes, Keeps, IsAtEnd}
use Rattle.ts_core.specs.io.Devices.{Input, EachReadCounts}
use Rattle.ts_core.specs.io.ReadingAhead.{Ahead, pending, EndIsEnd, bit, weight}
use Rattle.ts_image.specs.declared.field_fault.FieldFault.{FieldFault}
use Rattle.ts_image.specs.declared.field_fault.FieldFault.TheVariants.{Misshapen, Device, TooManyReads, OutOfMemory}
use Rattle.ts_image.specs.Formats.{Cursor, Read, Format}

pub record FieldsRead : Type 0 where
  pub ahead : Ahead
  pub at : ℕ

-- the bytes still to come, if known
abbrev pub bytes_to_come : FieldsRead → Input → Option (List ℕ)
bytes_to_come r input = pending r.ahead input

abbrev pub known_bytes : Option (List ℕ) → List ℕ
known_bytes None = []
known_bytes (Some bytes) = bytes

-- the reader's position, if the bytes to come are known
abbrev pub cursor_of : FieldsRead → Input → Cursor
cursor_of r input = record { at = r.at; rest = known_bytes (bytes_to_come r input) }

abbrev pub IsKnown : FieldsRead → Input → Type 0
IsKnown r input = IsSome (bytes_to_come r input)

-- the number of failures that a call adds to its source's
abbrev pub one_if_failed : {T : Type 0} → Result T FieldFault → ℕ
one_if_failed (Ok x) = 0
one_if_failed (Err (Misshapen n)) = 0
one_if_failed (Err Device) = 1
one_if_failed (Err TooManyReads) = 0
one_if_failed (Err OutOfMemory) = 0

-- the effect on the counts of the source and of the read buffer
pub record CallsSource {T : Type 0}
    (old : Ahead) (source : Input) (result : Result T FieldFault) (new : Ahead) (source' : Input) : Type 0 where
  pub end : EndIsEnd new source'
  pub allowed : new.limit ≡ old.limit
  pub within : old.reads ≤ old.limit → new.reads ≤ new.limit
  pub spent : result ≡ Err TooManyReads → (new.reads ≡ new.limit) × (new.ended ≡ false)
  pub failures : source'.failures ≡ source.failures + one_if_failed result
  pub reads : source'.reads + old.reads ≡ source.reads + new.reads
  pub ends : source'.ends + bit old.ended ≡ source.ends + bit new.ended
  pub each : EachReadCounts source source'

-- these bytes were consumed
pub record UsesBytes (old : FieldsRead)
    (source : Input) (bytes : List ℕ) (new : FieldsRead) (source' : Input) : Type 0 where
  pub used : Consumes (bytes_to_come old source) (bytes_to_come new source') bytes
  pub at : new.at ≡ old.at + length bytes

-- no byte was consumed, and none is left
pub record FindsEnd (old : FieldsRead) (source : Input) (new : FieldsRead) (source' : Input) : Type 0 where
  pub bytes : Keeps (bytes_to_come old source) (bytes_to_come new source')
  pub at : new.at ≡ old.at
  pub end : IsAtEnd (bytes_to_come new source')

-- the buffer is filled with the next bytes, or the input ends before
abbrev pub FillsBuffer : FieldsRead → Input → Result (Unit {0}) FieldFault → List ℕ → FieldsRead → Input → Type 0
FillsBuffer old source (Ok u) buffer new source' = UsesBytes old source buffer new source'
FillsBuffer old source (Err (Misshapen n)) buffer new source' =
    (n ≡ old.at) × (IsKnown old source → length (cursor_of old source).rest < length buffer)
FillsBuffer old source (Err Device) buffer new source' = Unit {0}
FillsBuffer old source (Err TooManyReads) buffer new source' = Unit {0}
FillsBuffer old source (Err OutOfMemory) buffer new source' = Unit {0}

-- the view of a call's result is the format's reading
abbrev pub GivesReading : {X Y : Type 0} → (X → Y) → Result X FieldFault → Cursor → Read Y → Type 0
GivesReading view (Ok x) q read = read ≡ Ok (view x, q)
GivesReading view (Err (Misshapen n)) q read = read ≡ Err n
GivesReading view (Err Device) q read = Unit {0}
GivesReading view (Err TooManyReads) q read = Unit {0}
GivesReading view (Err OutOfMemory) q read = Unit {0}

-- reads a value by its format, if the bytes to come are known
pub record ReadsField {X Y : Type 0} (format : Format Y) (view : X → Y) (old : FieldsRead)
    (source : Input) (result : Result X FieldFault) (new : FieldsRead) (source' : Input) : Type 0 where
  pub stays : IsKnown old source → MatchResult result (λ x. IsKnown new source') (λ e. Unit {0})
  pub value : IsKnown old source → GivesReading view result (cursor_of new source') (format.read (cursor_of old source))
  pub calls : CallsSource old.ahead source result new.ahead source'

-- refills the empty buffer: there are more bytes, or the input ends
pub record FillsAhead (old : FieldsRead)
    (source : Input) (more : Bool) (new : FieldsRead) (source' : Input) : Type 0 where
  pub bytes : Keeps (bytes_to_come old source) (bytes_to_come new source')
  pub at : new.at ≡ old.at
  pub some : more ≡ nat_lt 0 (length new.ahead.buffered)
  pub end : more ≡ false → IsAtEnd (bytes_to_come new source')
  pub ended : more ≡ false → new.ahead.ended ≡ true
  pub less : more ≡ true → weight new.ahead < weight old.ahead

-- no field is at fault
abbrev pub IsShaped : {T : Type 0} → Result T FieldFault → Type 0
IsShaped (Ok x) = Unit {0}
IsShaped (Err (Misshapen n)) = ⊥
IsShaped (Err Device) = Unit {0}
IsShaped (Err TooManyReads) = Unit {0}
IsShaped (Err OutOfMemory) = Unit {0}

-- consumes the next byte, or there is none
abbrev pub TakesByte : FieldsRead → Input → Option ℕ → FieldsRead → Input → Type 0
TakesByte old source None new source' = FindsEnd old source new source'
TakesByte old source (Some b) new source' = UsesBytes old source (b ∷ []) new source'

-- appends some buffered bytes to others, at most `most`
pub record TakesChunk (old : FieldsRead) (before : List ℕ) (most : ℕ) (new : FieldsRead) (after : List ℕ) : Type 0 where
  pub chunk : List ℕ
  pub some : 0 < length chunk
  pub few : length chunk ≤ most
  pub put : after ≡ before ++ chunk
  pub used : (s : Input) → UsesBytes old s chunk new s
  pub reads : new.ahead.reads ≡ old.ahead.reads
  pub limit : new.ahead.limit ≡ old.ahead.limit
  pub ended : new.ahead.ended ≡ old.ahead.ended
  pub within : new.ahead.reads ≤ new.ahead.limit
  pub end : (s : Input) → EndIsEnd old.ahead s → EndIsEnd new.ahead s

-- consumes n bytes, or the input ends before
abbrev pub FillsText : FieldsRead → Input → ℕ → Result Bool FieldFault → List ℕ → FieldsRead → Input → Type 0
FillsText old source n (Ok true) bytes new source' = UsesBytes old source bytes new source' × (length bytes ≡ n)
FillsText old source n (Ok false) bytes new source' = IsKnown old source → length (cursor_of old source).rest < n
FillsText old source n (Err e) bytes new source' = Unit {0}

-- nothing is left, or the next byte is at fault
abbrev pub GivesEnd : Result (Unit {0}) FieldFault → Cursor → Type 0
GivesEnd (Ok u) p = p.rest ≡ []
GivesEnd (Err (Misshapen n)) p = (n ≡ p.at) × (0 < length p.rest)
GivesEnd (Err Device) p = Unit {0}
GivesEnd (Err TooManyReads) p = Unit {0}
GivesEnd (Err OutOfMemory) p = Unit {0}
