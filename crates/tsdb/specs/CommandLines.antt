-- The commands of the program with their arguments, and the action that a command line requests. (Own rule. The library
-- clap defines how words match commands, and their errors.)
use Rattle.std.specs.Prelude.{⊤, Bool, true, false, ◌≡◌, ◌⊎◌, ℕ, codes, List, [], ◌∷◌, pos, Option, Some, None, Result, Ok, Err, fold}
use Rattle.std.specs.Str.Parse.{ParsesUnsigned}
use Rattle.clap.specs.Words.{App, HasKind, Row, Rule, Text, app_of, fault_of, first_of, kind_of, new_app, new_rule, one_of, rule_of, subcommand_of, with_rule, with_subcommand}
use Rattle.clap.specs.declared.builder.arg.Arg.{Arg}
use Rattle.clap.specs.declared.builder.action.ArgAction.TheVariants.{SetTrue}
use Rattle.clap.specs.declared.builder.command.Command.{Command}
use Rattle.clap.specs.declared.builder.command.Command.TheViews.{out-Command}
use Rattle.clap.specs.declared.builder.value_parser.ValueParser.{ValueParser}
use Rattle.clap.specs.declared.builder.value_parser.ValueParser.TheVariants.{Signed, Unsigned}
use Rattle.clap.specs.declared.error.Error.{Error}
use Rattle.clap.specs.declared.error.kind.ErrorKind.{ErrorKind}
use Rattle.clap.specs.declared.error.kind.ErrorKind.TheVariants as kind
use Rattle.ts_reply.specs.OutcomeViews.{given_text}
use Rattle.tsdb.specs.declared.command_line.Action.{Action}
use Rattle.tsdb.specs.declared.command_line.Action.TheVariants.{Replay, Faults, Inspect, Serve}
use Rattle.tsdb.specs.declared.command_line.Inspection.{Inspection}
use Rattle.tsdb.specs.declared.command_line.Service.{Service}
use Rattle.tsdb.specs.declared.command_line.CliOutcome.{CliOutcome}
use Rattle.tsdb.specs.declared.command_line.CliOutcome.TheVariants.{Done, Device, Wrong, OutOfMemory}

-- ---- commands and arguments

abbrev pub required_rule : Text → Option ValueParser → Rule
required_rule id parser = record (new_rule id) { required = true; parser = parser }

-- `tsdb replay`
abbrev pub replay_app : App
replay_app = new_app (codes "replay")

-- `tsdb faults [N]`
abbrev pub faults_app : App
faults_app = with_rule (new_app (codes "faults")) (new_rule (codes "N"))

abbrev pub settings_rule : Rule
settings_rule = required_rule (codes "SETTINGS") None

abbrev pub image_argument_rule : Rule
image_argument_rule = required_rule (codes "IMAGE") None

-- the flag `--lines`
abbrev pub lines_rule : Rule
lines_rule = record (new_rule (codes "lines")) { long = Some (codes "lines"); action = Some SetTrue }

-- `tsdb inspect [--lines] IMAGE`
abbrev pub inspect_app : App
inspect_app = fold with_rule (new_app (codes "inspect")) (lines_rule ∷ image_argument_rule ∷ [])

-- a port from 1 on
abbrev pub port_rule : Rule
port_rule = required_rule (codes "PORT") (Some (Signed (pos 1) (pos 65535)))

-- a number of 64 bits
abbrev pub requests_rule : Rule
requests_rule = required_rule (codes "REQUESTS") (Some (Unsigned 0 18446744073709551615))

-- `tsdb serve SETTINGS IMAGE PORT REQUESTS`
abbrev pub serve_app : App
serve_app =
    fold with_rule (new_app (codes "serve")) (settings_rule ∷ image_argument_rule ∷ port_rule ∷ requests_rule ∷ [])

-- `tsdb`, which requires a subcommand and knows its version
abbrev pub tsdb_app : App
tsdb_app = record (new_app (codes "tsdb")) {
  top = record (new_app (codes "tsdb")).top {
    has_version = true;
    subcommand_required = true;
    arg_required_else_help = true;
  };
}

abbrev pub program_app : App
program_app =
    fold (λ a sub. with_subcommand a sub.top) tsdb_app (replay_app ∷ faults_app ∷ inspect_app ∷ serve_app ∷ [])

-- an argument as clap sees it; no subcommand takes it too
abbrev pub IsArgument : Rule → Arg → Type 0
IsArgument rule arg = (rule_of arg ≡ rule) × (arg.global ≡ false)

-- a command as clap sees it; its arguments are its own
abbrev pub IsCommand : App → Command → Type 0
IsCommand app c = (app_of c ≡ app) × ((out-Command c).has_globals ≡ false)

-- ---- actions

-- the value of an argument is a number of this many bits
abbrev pub IsNumberIn : ℕ → Option Text → ℕ → Type 0
IsNumberIn bits None n = ⊥
IsNumberIn bits (Some text) n = ParsesUnsigned {E = ⊤} bits 10 text (Ok n)

abbrev pub IsServiceOf : List Row → Service → Type 0
IsServiceOf rows service = (first_of (codes "SETTINGS") rows ≡ Some service.settings.now)
    × (first_of (codes "IMAGE") rows ≡ Some service.image.now)
    × IsNumberIn 16 (one_of (codes "PORT") rows) service.port
    × IsNumberIn 64 (one_of (codes "REQUESTS") rows) service.requests

-- a flag is true if its value is `true`, and false if it is `false` or missing
abbrev pub IsFlag : Option Text → Bool → Type 0
IsFlag value flag = (value ≡ None → flag ≡ false)
    × (value ≡ Some (codes "true") → flag ≡ true) × (value ≡ Some (codes "false") → flag ≡ false)

abbrev pub IsInspectionOf : List Row → Inspection → Type 0
IsInspectionOf rows inspection =
    (first_of (codes "IMAGE") rows ≡ Some inspection.image.now) × IsFlag (one_of (codes "lines") rows) inspection.lines

-- the action that a subcommand requests with the values of its arguments
abbrev pub IsActionOf : Option (Text × List Row) → Action → Type 0
IsActionOf None action = ⊥
IsActionOf (Some (name, rows)) Replay = name ≡ codes "replay"
IsActionOf (Some (name, rows)) (Faults number) =
    (name ≡ codes "faults") × (given_text number ≡ first_of (codes "N") rows)
IsActionOf (Some (name, rows)) (Inspect inspection) = (name ≡ codes "inspect") × IsInspectionOf rows inspection
IsActionOf (Some (name, rows)) (Serve service) = (name ≡ codes "serve") × IsServiceOf rows service

-- The words, of which the first is the program's name, request an action if clap accepts them. Otherwise the error is
-- one of clap's, or out of memory, or clap accepts the words but no action fits them.
abbrev pub ParsesAs : List Text → Result Action Error → Type 0
ParsesAs words (Ok action) = (fault_of program_app words ≡ []) × IsActionOf (subcommand_of program_app words) action
ParsesAs words (Err error) = HasKind (fault_of program_app words) error
    ⊎ ((kind_of error ≡ kind.MissingSubcommand)
    × ((action : Action) → IsActionOf (subcommand_of program_app words) action → ⊥))

-- ---- clap's answers

-- the outcome of an answer with an error of this kind if its text is printed
abbrev pub outcome_of_kind : ErrorKind → CliOutcome
outcome_of_kind kind.OutOfMemory = OutOfMemory
outcome_of_kind kind.DisplayHelp = Done
outcome_of_kind kind.DisplayVersion = Done
outcome_of_kind _ = Wrong

-- the device to which the text is printed may fail; when out of memory, none is printed
abbrev pub IsPrintedAs : CliOutcome → CliOutcome → Type 0
IsPrintedAs OutOfMemory cli_outcome = cli_outcome ≡ OutOfMemory
IsPrintedAs said cli_outcome = (cli_outcome ≡ said) ⊎ (cli_outcome ≡ Device)
