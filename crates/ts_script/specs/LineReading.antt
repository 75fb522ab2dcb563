-- A line reader, by its read buffer and the line so far. (Own rule.)
use Rattle.std.specs.Prelude.{◌≡◌, ◌≢◌, ◌↔◌, ℕ, ◌+◌, ◌≤◌, ◌<◌, List, [], ◌∷◌, ◌++◌, length, take, drop, Bool, true, false, not, IsTrue, Option, Result, Err, IfOk, OnOk, OnErr, ◌==◌, if◌then◌else◌}
use Rattle.std.specs.Io.KnownBytes.{Keeps, Consumes, IsAtEnd}
use Rattle.ts_core.specs.io.Devices.{Input, EachReadCounts}
use Rattle.ts_core.specs.io.ReadingAhead.{Ahead, pending, bit, one_if_device, weight}
use Rattle.ts_core.specs.declared.io.read_ahead.ReadFault.{ReadFault}
use Rattle.ts_core.specs.declared.io.read_ahead.ReadFault.TheVariants.{TooManyReads}
use Rattle.ts_script.specs.ScriptLines.{lines_of, ended_lines, script_line_limit}
use Rattle.ts_script.specs.declared.line_reader.Next.{Next}
use Rattle.ts_script.specs.declared.line_reader.Next.TheVariants.{Line, TooLong, End}
use Rattle.ts_script.specs.ReaderState.{ReaderState}

-- the first line, without its LF
abbrev pub first_line : List ℕ → List ℕ
first_line [] = []
first_line (b ∷ bs) = if b == 10 then [] else b ∷ first_line bs

-- the bytes after the first line and its LF
abbrev pub after_line : List ℕ → List ℕ
after_line [] = []
after_line (b ∷ bs) = if b == 10 then bs else after_line bs

abbrev pub has_lf : List ℕ → Bool
has_lf [] = false
has_lf (b ∷ bs) = if b == 10 then true else has_lf bs

-- the line so far represents these bytes: all of them, or none if they are over the limit
abbrev pub LineIs : List ℕ → List ℕ → Bool → Type 0
LineIs bytes line false = (line ≡ bytes) × (length bytes ≤ script_line_limit)
LineIs bytes line true = script_line_limit < length bytes

-- the bytes still to come, if known
abbrev pub lines_to_come : ReaderState → Input → Option (List ℕ)
lines_to_come reading input = pending reading.ahead input

-- the bytes are these lines, each with its LF, whatever follows
abbrev pub AreEnded : List ℕ → List (List ℕ) → Type 0
AreEnded bytes lines = (more : List ℕ)
    → (lines_of (bytes ++ more) ≡ lines ++ lines_of more) × (ended_lines (bytes ++ more) ≡ lines ++ ended_lines more)

-- the bytes are these lines, each with its LF, or the last to the end of input
abbrev pub AreLines : Bool → List ℕ → List (List ℕ) → Type 0
AreLines false bytes lines = AreEnded bytes lines
AreLines true bytes lines = lines_of bytes ≡ lines

-- the current line has this text; the text of a long line isn't stored
abbrev pub IsTextOf : List ℕ → Next → List ℕ → Type 0
IsTextOf text Line line = line ≡ text
IsTextOf text TooLong line = script_line_limit < length text
IsTextOf text End line = ⊥

-- after the end of input no byte is buffered, and none is to come
abbrev pub EndIsOver : Ahead → Input → Type 0
EndIsOver ahead input = ahead.ended ≡ true → (ahead.buffered ≡ []) × IsAtEnd input.remaining

-- the result at an LF
abbrev pub next_after_line : Bool → Next
next_after_line long = if long then TooLong else Line

-- the result at the end of input
abbrev pub result_at_end : List ℕ → Bool → Next
result_at_end line long = if long then TooLong else if length line == 0 then End else Line

-- ---- the effect of a call

-- the offset of the first LF, or the length if there is none
pub record IsLineEnd (bytes : List ℕ) (end : ℕ) : Type 0 where
  pub within : end ≤ length bytes
  pub line : take end bytes ≡ first_line bytes
  pub rest : drop (end + 1) bytes ≡ after_line bytes
  pub found : IsTrue (has_lf bytes) ↔ (end < length bytes)

-- appends buffered bytes to the line, up to an LF; `lf` is true if there was one
pub record TakesBuffered (old : ReaderState) (lf : Bool) (new : ReaderState) : Type 0 where
  pub found : lf ≡ has_lf old.ahead.buffered
  pub buffered : new.ahead.buffered ≡ after_line old.ahead.buffered
  pub reads : new.ahead.reads ≡ old.ahead.reads
  pub ended : new.ahead.ended ≡ old.ahead.ended
  pub limit : new.ahead.limit ≡ old.ahead.limit
  pub within : new.ahead.reads ≤ new.ahead.limit
  pub less : weight new.ahead + bit lf ≤ weight old.ahead

-- and these are the next bytes of the line
abbrev pub IsLonger : ReaderState → ReaderState → Type 0
IsLonger old new = (before : List ℕ)
    → LineIs before old.line old.long → LineIs (before ++ first_line old.ahead.buffered) new.line new.long

-- the calls of the source between two states of the read buffer
pub record CallsReader {T : Type 0}
    (old : Ahead) (source : Input) (result : Result T ReadFault) (new : Ahead) (source' : Input) : Type 0 where
  pub end : EndIsOver new source'
  pub stays : OnErr result (new.ended ≡ false)
  pub allowed : new.limit ≡ old.limit
  pub within : new.reads ≤ new.limit
  pub limit : result ≡ Err TooManyReads → new.reads ≡ new.limit
  pub failures : source'.failures ≡ source.failures + one_if_device result
  pub reads : source'.reads + old.reads ≡ source.reads + new.reads
  pub ends : source'.ends + bit old.ended ≡ source.ends + bit new.ended
  pub each : EachReadCounts source source'

-- one read; it returns false at the end of input
pub record IsReadOn (old : ReaderState)
    (source : Input) (result : Result Bool ReadFault) (new : ReaderState) (source' : Input) : Type 0 where
  pub bytes : Keeps (lines_to_come old source) (lines_to_come new source')
  pub none : OnErr result (new.ahead.buffered ≡ [])
  pub more : IfOk result (λ more. more ≡ not new.ahead.ended)
  pub line : new.line ≡ old.line
  pub long : new.long ≡ old.long
  pub read_once : OnOk result (new.ahead.reads ≡ old.ahead.reads + 1)
  pub less : OnOk result (weight new.ahead < weight old.ahead)

-- the next line: its bytes are consumed with its LF, or to the end of input
pub record IsNext (old : ReaderState)
    (source : Input) (next : Next) (new : ReaderState) (source' : Input) : Type 0 where
  pub bytes : List ℕ
  pub came : Consumes (lines_to_come old source) (lines_to_come new source') bytes
  pub line : next ≢ End → (old.ahead.ended ≡ false)
      × ((text : List ℕ) × IsTextOf text next new.line × AreLines new.ahead.ended bytes (text ∷ []))
  pub over : next ≡ End → (bytes ≡ []) × (new.ahead.ended ≡ true)

-- a fault in a line: the bytes of it that were read have no LF, nor is one buffered
pub record IsCut (old : ReaderState) (source : Input) (new : ReaderState) (source' : Input) : Type 0 where
  pub going : old.ahead.ended ≡ false
  pub no_lf : has_lf old.ahead.buffered ≡ false
  pub bytes : List ℕ
  pub came : Consumes (lines_to_come old source) (lines_to_come new source') bytes
  pub part : has_lf bytes ≡ false
  pub none : new.ahead.buffered ≡ []

-- the end is reported only after it was read, and each line consumes something
pub record UsesUp (old : Ahead) (next : Next) (new : Ahead) : Type 0 where
  pub over : next ≡ End → new.ended ≡ true
  pub less : next ≢ End → weight new < weight old
