-- Codes and messages of the errors of a line. (Own rules.)
use Rattle.std.specs.Prelude.{ℕ}
use Rattle.ts_core.specs.facts.Facts.{Text}
use Rattle.ts_core.specs.declared.text.fault_code.FaultCode.{FaultCode}
use Rattle.ts_core.specs.declared.text.fault_code.FaultCode.TheVariants as coded
use Rattle.ts_core.specs.declared.text.fault_text.FaultDetail.TheVariants.{At}
use Rattle.ts_core.specs.text.FaultTexts.{fault_text, memory_text}
use Rattle.ts_line.specs.declared.fault.LineFaultKind.{LineFaultKind}
use Rattle.ts_line.specs.declared.fault.LineFaultKind.TheVariants.{NoMeasurement, BadTag, RepeatedTagKey, NoField, BadField, FieldType, IntegerRange, BadTimestamp, TimestampRange, OverLimit, ReservedKey}
use Rattle.ts_line.specs.declared.fault.LineFault.{LineFault}
use Rattle.ts_line.specs.declared.fault.ReadLineError.{ReadLineError}
use Rattle.ts_line.specs.declared.fault.ReadLineError.TheVariants as errors

-- `at` is a byte offset in the line, from 0: of the first byte of the tag, field or timestamp in error.
-- `LineFaultKind` states it for each kind.
abbrev pub fault_at : LineFaultKind → ℕ → LineFault
fault_at kind at = record { kind = kind; at = at }

abbrev pub line_fault_code : LineFaultKind → FaultCode
line_fault_code NoMeasurement = coded.NoMeasurement
line_fault_code BadTag = coded.BadTag
line_fault_code RepeatedTagKey = coded.RepeatedTagKey
line_fault_code NoField = coded.NoField
line_fault_code BadField = coded.BadField
line_fault_code FieldType = coded.FieldType
line_fault_code IntegerRange = coded.IntegerRange
line_fault_code BadTimestamp = coded.BadTimestamp
line_fault_code TimestampRange = coded.TimestampRange
line_fault_code OverLimit = coded.OverLimit
line_fault_code ReservedKey = coded.ReservedKey

unfoldable pub line_fault_text : LineFault → Text
line_fault_text fault = fault_text (line_fault_code fault.kind) (At fault.at)

-- the message of a call's error
abbrev pub read_line_error_text : ReadLineError → Text
read_line_error_text errors.OutOfMemory = memory_text
read_line_error_text (errors.Fault fault) = line_fault_text fault
