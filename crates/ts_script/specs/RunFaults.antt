-- The errors of a run: their messages, and the device that each belongs to. (Own rule.)
use Rattle.std.specs.Prelude.{ℕ, Option, Some, None, Result, Ok, Err}
use Rattle.ts_core.specs.facts.Facts.{Text}
use Rattle.ts_core.specs.text.FaultTexts.{fault_text, memory_text}
use Rattle.ts_core.specs.declared.text.fault_code.FaultCode.{FaultCode}
use Rattle.ts_core.specs.declared.text.fault_code.FaultCode.TheVariants as code
use Rattle.ts_core.specs.declared.text.fault_text.FaultDetail.TheVariants.{Alone}
use Rattle.ts_core.specs.declared.io.read_ahead.ReadFault.{ReadFault}
use Rattle.ts_core.specs.declared.io.read_ahead.ReadFault.TheVariants as read
use Rattle.ts_script.specs.declared.run_fault.RunFault.{RunFault}
use Rattle.ts_script.specs.declared.run_fault.RunFault.TheVariants.{OutOfMemory, Reader, Writer, TooManyReads}

-- the code of each in the table of all faults; out of memory has none
abbrev pub run_fault_code : RunFault → Option FaultCode
run_fault_code Reader = Some code.ReaderFailed
run_fault_code Writer = Some code.WriterFailed
run_fault_code TooManyReads = Some code.EndlessScript
run_fault_code OutOfMemory = None

-- the message of a fault with this number, or of none
abbrev pub message_of : Option FaultCode → Text
message_of (Some c) = fault_text c Alone
message_of None = memory_text

abbrev pub run_fault_text : RunFault → Text
run_fault_text fault = message_of (run_fault_code fault)

abbrev pub fault_of_read : ReadFault → RunFault
fault_of_read read.Device = Reader
fault_of_read read.TooManyReads = TooManyReads

-- 1 for a failure of the reader, else 0
abbrev pub one_if_reader : {T : Type 0} → Result T RunFault → ℕ
one_if_reader (Ok x) = 0
one_if_reader (Err OutOfMemory) = 0
one_if_reader (Err Reader) = 1
one_if_reader (Err Writer) = 0
one_if_reader (Err TooManyReads) = 0

-- 1 for a failure of the writer, else 0
abbrev pub one_if_writer : {T : Type 0} → Result T RunFault → ℕ
one_if_writer (Ok x) = 0
one_if_writer (Err OutOfMemory) = 0
one_if_writer (Err Reader) = 0
one_if_writer (Err Writer) = 1
one_if_writer (Err TooManyReads) = 0
