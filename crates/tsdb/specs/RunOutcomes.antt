-- The exit status of the program, and its line on standard error. (Own rule.)
use Rattle.std.specs.Prelude.{ℕ, codes, Option, Some, None}
use Rattle.ts_core.specs.facts.Facts.{Text}
use Rattle.ts_core.specs.declared.text.fault_code.FaultCode.{FaultCode}
use Rattle.ts_script.specs.RunFaults.{run_fault_code}
use Rattle.tsdb.specs.declared.command_line.CliOutcome.TheVariants as cli_outcome
use Rattle.ts_script.specs.declared.run_fault.RunFault.TheVariants.{OutOfMemory, Reader, Writer, TooManyReads}
use Rattle.tsdb.specs.declared.outcome.CallOutcome.{CallOutcome}
use Rattle.tsdb.specs.declared.outcome.CallOutcome.TheVariants.{Answered, Stopped, NoScript, NoFault, NoText, NoSeed}

-- 0 for success, 1 for a device error, endless input or no random bytes, 2 for a wrong command line, 3 when out of
-- memory
abbrev pub status_of : CallOutcome → ℕ
status_of Answered = 0
status_of (NoScript cli_outcome.Done) = 0
status_of (NoScript cli_outcome.Device) = 1
status_of (Stopped Reader) = 1
status_of (Stopped Writer) = 1
status_of (Stopped TooManyReads) = 1
status_of NoSeed = 1
status_of (NoScript cli_outcome.Wrong) = 2
status_of NoFault = 2
status_of NoText = 2
status_of (NoScript cli_outcome.OutOfMemory) = 3
status_of (Stopped OutOfMemory) = 3

-- the fault that stopped the script, if the common table of faults has it
abbrev pub stop_fault : CallOutcome → Option FaultCode
stop_fault (Stopped fault) = run_fault_code fault
stop_fault outcome = None

-- the line for standard error, if there is one and it is none of a fault; for a wrong command line, clap has already
-- printed the error
abbrev pub error_line : CallOutcome → Option Text
error_line Answered = None
error_line (Stopped OutOfMemory) = Some (codes "tsdb: out of memory")
error_line (Stopped fault) = None
error_line (NoScript cli_outcome.Done) = None
error_line (NoScript cli_outcome.Wrong) = None
error_line (NoScript cli_outcome.Device) = Some (codes "tsdb: standard output or standard error could not be written")
error_line (NoScript cli_outcome.OutOfMemory) = Some (codes "tsdb: out of memory")
error_line NoFault = Some (codes "tsdb: no fault has this number; `tsdb faults` prints them all")
error_line NoText = Some (codes "tsdb: the command line can't be read as text")
error_line NoSeed = Some (codes "tsdb: the system gave no random bytes")
