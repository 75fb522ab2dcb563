-- The output of a script. (Own rule.)
use Rattle.std.specs.Prelude.{◌≡◌, ◌≢◌, ℕ, ◌+◌, ◌≤◌, List, ◌++◌, Bool, true, Option, Result, Err, OnOk}
use Rattle.std.specs.List.{concat}
use Rattle.std.specs.Io.KnownBytes.{Consumes, IsAtEnd, Appends}
use Rattle.ts_core.specs.facts.Facts.{Text}
use Rattle.ts_core.specs.io.Devices.{Input, Output, EachReadCounts, AppendsFront}
use Rattle.ts_core.specs.io.ReadingAhead.{bit}
use Rattle.ts_script.specs.ScriptLines.{lines_read}
use Rattle.ts_script.specs.Machine.{State, start, Prints}
use Rattle.ts_script.specs.RunFaults.{one_if_reader, one_if_writer}
use Rattle.ts_script.specs.declared.run_fault.RunFault.{RunFault}
use Rattle.ts_script.specs.declared.run_fault.RunFault.TheVariants.{OutOfMemory, Writer, TooManyReads}

-- the output consists of the answers to these lines
pub record IsScript (lines : List Text) (output : Text) : Type 0 where
  pub answers : List Text
  pub state : State
  pub run : Prints start lines answers state
  pub output_is : output ≡ concat answers

-- the output consists of the answers to the first of these lines
pub record IsScriptSoFar (lines : List Text) (output : Text) : Type 0 where
  pub done : List Text
  pub rest : List Text
  pub lines_are : lines ≡ done ++ rest
  pub script : IsScript done output

-- the answers to these lines were written
abbrev pub AnswersAll : List Text → Option Text → Option Text → Type 0
AnswersAll lines old new = (output : Text) × IsScript lines output × Appends old new output

-- a prefix of the answers to the first of these lines was written
abbrev pub AnswersSome : List Text → Option Text → Option Text → Type 0
AnswersSome lines old new = (output : Text) × IsScriptSoFar lines output × AppendsFront old new output

-- these bytes were read from the source, and the end of input after them if `ended`
pub record HasRead (source : Input) (came : Text) (ended : Bool) (source' : Input) : Type 0 where
  pub bytes : Consumes source.remaining source'.remaining came
  pub end : ended ≡ true → IsAtEnd source'.remaining
  pub ends : source'.ends ≡ source.ends + bit ended

-- the effect on its devices of a replay that reads at most `reads` times, with this result
pub record IsReplay {T : Type 0} (reads : ℕ)
    (source : Input) (sink : Output) (result : Result T RunFault) (source' : Input) (sink' : Output) : Type 0 where
  -- the bytes that were read, and a flag that is true if the end of input was read; without a fault it was
  pub came : Text
  pub ended : Bool
  pub read : HasRead source came ended source'
  pub whole : OnOk result (ended ≡ true)
  -- all lines that were read are answered, or if the writer failed, a prefix of the answers to the first of them
  pub answered : result ≢ Err Writer → AnswersAll (lines_read ended came) sink.contents sink'.contents
  pub begun : result ≡ Err Writer → AnswersSome (lines_read ended came) sink.contents sink'.contents
  -- it runs out of memory before anything is read or written, and not later
  pub memory : result ≡ Err OutOfMemory → (source' ≡ source) × (sink' ≡ sink)
  -- a device's failure is reported, and nothing else is reported as one
  pub reader : source'.failures ≡ source.failures + one_if_reader result
  pub writer : sink'.failures ≡ sink.failures + one_if_writer result
  -- the end was read, or the limit of reads was reached
  pub end : OnOk result (source'.ends ≡ source.ends + 1)
  pub within : source'.reads ≤ source.reads + reads
  -- so the limit of reads is reached only by as many bytes
  pub each : EachReadCounts source source'
  pub limit : result ≡ Err TooManyReads → (source'.reads ≡ source.reads + reads) × (source'.ends ≡ source.ends)
