-- Writing the text of a line: the state of a store, and the effect of a text on it. (InfluxData 1.8, line protocol
-- reference, and API reference, /write. Own rule: a text that isn't accepted changes no fact.)
use Rattle.std.specs.Prelude.{◌≡◌, ℤ, List, [], ◌∷◌, length, Option, Some, None, Result, Ok, Err}
use Rattle.std.specs.Option.{option_map}
use Rattle.ts_core.specs.facts.Facts.{Text, Series}
use Rattle.ts_core.specs.settings.Settings.{Settings}
use Rattle.ts_core.specs.store.History.{Line, History, accepted}
use Rattle.ts_core.specs.store.Marks.{marks_of}
use Rattle.ts_core.specs.lists.Numbered.{Gains}
use Rattle.ts_core.specs.store.StoreStates.{StandsFor}
use Rattle.ts_core.specs.store.StoreData.{StoreData, state_of}
use Rattle.ts_core.specs.facts.TimeUnits.{nanoseconds_of}
use Rattle.ts_core.specs.declared.facts.time_unit.TimeUnit.{TimeUnit}
use Rattle.ts_line.specs.FaultText.{line_fault_text}
use Rattle.ts_line.specs.Lines.{line_of}
use Rattle.ts_line.specs.Parts.{Parts, series_of, line_facts}
use Rattle.ts_line.specs.Readings.{NeedsMemory}
use Rattle.ts_line.specs.declared.fault.LineFault.{LineFault}
use Rattle.ts_store.specs.write.Refusals.{write_fault}
use Rattle.ts_store.specs.write.Registered.{MayGain}
use Rattle.ts_store.specs.write.StoreFaultTexts.{write_fault_text}
use Rattle.ts_store.specs.declared.write.fault.WriteFault.{WriteFault}
use Rattle.ts_store.specs.declared.write.write_text.LineOutcome.{LineOutcome}
use Rattle.ts_store.specs.declared.write.write_text.LineOutcome.TheVariants.{Accepted, NoLine, Refused}
use Rattle.ts_store.specs.declared.write.write_text.LineRefusal.{LineRefusal}
use Rattle.ts_store.specs.declared.write.write_text.LineRefusal.TheVariants.{Parse, Write}

-- the settings that a store opened with, the events since, and its registered series
pub record LineState : Type 0 where
  pub opening : Settings
  pub history : History
  pub series : List Series

-- the state of a new store with these settings
abbrev pub opened : Settings → LineState
opened settings = record { opening = settings; history = []; series = [] }

-- a store is in this state
pub record IsStateOf (s : LineState) (k : StoreData) : Type 0 where
  pub stands : StandsFor s.opening s.history (state_of k)
  pub series : k.series ≡ s.series

-- accepts a line's facts, and registers these series
abbrev pub with_line : Parts → List Series → LineState → LineState
with_line parts series s = record s { history = Line (line_facts parts) ∷ s.history; series = series }

-- registers these series
abbrev pub with_series : List Series → LineState → LineState
with_series series s = record s { series = series }

-- the error of a refused line
abbrev pub refusal_in : LineState → Parts → Option WriteFault
refusal_in s parts = write_fault (marks_of s.opening s.history).raw s.series (length (accepted s.history)) parts

-- ---- outcomes

-- the error of a text that was refused
abbrev pub refusal_of : LineOutcome → Option LineRefusal
refusal_of Accepted = None
refusal_of NoLine = None
refusal_of (Refused refusal) = Some refusal

-- the message of an error
abbrev pub line_refusal_text : LineRefusal → Text
line_refusal_text (Parse fault) = line_fault_text fault
line_refusal_text (Write fault) = write_fault_text fault

-- the message of a text that was refused
abbrev pub refusal_text : LineOutcome → Option Text
refusal_text outcome = option_map line_refusal_text (refusal_of outcome)

-- ---- texts whose timestamps count units of `precision`; a text without one has the time `now`

module _ (precision : TimeUnit) (now : ℤ) where
  -- the result of parsing a text: its parts, no line, or an error
  abbrev pub parts_in : Text → Result (Option Parts) LineFault
  parts_in text = line_of (nanoseconds_of precision) now text

  -- From `old`, a text may have this outcome and lead to that state.
  pub data WritesText (old : LineState) (text : Text) : LineOutcome → LineState → Type 0 where
    -- its series is registered if needed, and its facts are accepted
    accepts : (parts : Parts) (series : List Series) → parts_in text ≡ Ok (Some parts) → refusal_in old parts ≡ None
        → Gains old.series series (series_of parts) → WritesText old text Accepted (with_line parts series old)
    -- a comment or a blank line
    passes_over : parts_in text ≡ Ok None → WritesText old text NoLine old
    misreads : (fault : LineFault) → parts_in text ≡ Err fault → WritesText old text (Refused (Parse fault)) old
    refuses : (parts : Parts) (fault : WriteFault) → parts_in text ≡ Ok (Some parts)
        → refusal_in old parts ≡ Some fault → WritesText old text (Refused (Write fault)) old

  -- From `old`, a text that runs out of memory may lead to that state: its series may be registered. A comment, a blank
  -- line or a text with a fault needs no memory.
  pub data RunsOutOfMemory (old : LineState) (text : Text) : LineState → Type 0 where
    in_parsing : NeedsMemory (nanoseconds_of precision) now text → RunsOutOfMemory old text old
    in_writing : (parts : Parts) (series : List Series) → parts_in text ≡ Ok (Some parts) → refusal_in old parts ≡ None
        → MayGain old.series series (series_of parts) → RunsOutOfMemory old text (with_series series old)

  -- the effect of a call on a store that was in this state
  abbrev pub WritesFrom : LineState → Text → {E : Type 0} → Result LineOutcome E → StoreData → Type 0
  WritesFrom old text (Ok outcome) k = (new : LineState) × WritesText old text outcome new × IsStateOf new k
  WritesFrom old text (Err e) k = (new : LineState) × RunsOutOfMemory old text new × IsStateOf new k
