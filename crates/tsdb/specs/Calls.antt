-- A call of the program, by the words of its command line. (Own rule.)
use Rattle.std.specs.Prelude.{◌≡◌, ◌≢◌, ◌+◌, List, [], ⊤, Result, Ok, Err}
use Rattle.std.specs.Io.KnownBytes.{Appends}
use Rattle.clap.specs.Words.{kind_of}
use Rattle.clap.specs.declared.error.Error.{Error}
use Rattle.ts_core.specs.facts.Facts.{Text}
use Rattle.ts_core.specs.io.Devices.{Input, Output, AppendsFront}
use Rattle.tsdb.specs.CommandLines.{ParsesAs, outcome_of_kind, IsPrintedAs}
use Rattle.tsdb.specs.FaultTables.{fault_table}
use Rattle.ts_script.specs.Script.{IsReplay}
use Rattle.ts_script.specs.ScriptLines.{read_limit}
use Rattle.ts_reply.specs.OutcomeViews.{given_text}
use Rattle.tsdb.specs.declared.call.Answer.{Answer}
use Rattle.tsdb.specs.declared.call.Answer.TheVariants as answer
use Rattle.tsdb.specs.declared.command_line.Action.{Action}
use Rattle.tsdb.specs.declared.command_line.Action.TheVariants.{Replay, Faults, Inspect, Serve}
use Rattle.tsdb.specs.declared.command_line.CliOutcome.TheVariants as cli_outcome
use Rattle.tsdb.specs.declared.outcome.CallOutcome.{CallOutcome}
use Rattle.tsdb.specs.declared.outcome.CallOutcome.TheVariants.{Answered, Stopped, NoScript, NoFault}
use Rattle.ts_script.specs.declared.run_fault.RunFault.{RunFault}

-- the outcome of a run of a script
abbrev pub outcome_of : {T : Type 0} → Result T RunFault → CallOutcome
outcome_of (Ok x) = Answered
outcome_of (Err fault) = Stopped fault

abbrev pub IsReplayed : Input → Output → CallOutcome → Input → Output → Type 0
IsReplayed source sink outcome source' sink' =
    (result : Result ⊤ RunFault) × (outcome ≡ outcome_of result) × IsReplay read_limit source sink result source' sink'

-- The rows are printed, or a prefix of them if the device fails. There may be none, or the call runs out of memory.
abbrev pub PrintsFaults : Text → Output → CallOutcome → Output → Type 0
PrintsFaults table old (NoScript cli_outcome.Done) new =
    (table ≢ []) × Appends old.contents new.contents table × (new.failures ≡ old.failures)
PrintsFaults table old (NoScript cli_outcome.Device) new =
    (table ≢ []) × AppendsFront old.contents new.contents table × (new.failures ≡ old.failures + 1)
PrintsFaults table old (NoScript cli_outcome.OutOfMemory) new = new ≡ old
PrintsFaults table old NoFault new = (table ≡ []) × (new ≡ old)
PrintsFaults table old other new = ⊥

-- a call with this command line may have this outcome, and leave this of its source and its sink
abbrev pub Executes : Result Action Error → Input → Output → Answer → Input → Output → Type 0
Executes (Ok Replay) source sink (answer.Outcome outcome) source' sink' = IsReplayed source sink outcome source' sink'
Executes (Ok (Faults number)) source sink (answer.Outcome outcome) source' sink' =
    PrintsFaults (fault_table (given_text number)) sink outcome sink' × (source' ≡ source)
Executes (Ok (Inspect inspection)) source sink (answer.Inspection inspection') source' sink' =
    (inspection' ≡ inspection) × (source' ≡ source) × (sink' ≡ sink)
Executes (Ok (Serve service)) source sink (answer.Service service') source' sink' =
    (service' ≡ service) × (source' ≡ source) × (sink' ≡ sink)
Executes (Err error) source sink (answer.Outcome (NoScript cli_outcome)) source' sink' =
    IsPrintedAs (outcome_of_kind (kind_of error)) cli_outcome × (source' ≡ source) × (sink' ≡ sink)
Executes _ source sink answer source' sink' = ⊥

-- the same for a call with these words, of which the first is the program's name
abbrev pub IsCall : List Text → Input → Output → Answer → Input → Output → Type 0
IsCall words source sink answer source' sink' =
    (result : Result Action Error) × ParsesAs words result × Executes result source sink answer source' sink'
