-- The length of a line's error message: it is short.
use Rattle.std.proofs.Common.{◌<◌, ◌≤◌, ◌^◌, length, arith, length-append}
use Rattle.std.specs.Fmt.{decimal}
use Rattle.std.proofs.lemmas.Fmt.{length-decimal-le}
use Rattle.ts_core.specs.text.FaultCodes.{code_number}
use Rattle.ts_line.specs.declared.fault.LineFaultKind.{LineFaultKind}
use Rattle.ts_line.specs.declared.fault.LineFaultKind.TheVariants.{NoMeasurement, BadTag, RepeatedTagKey, NoField, BadField, FieldType, IntegerRange, BadTimestamp, TimestampRange, OverLimit, ReservedKey}
use Rattle.ts_line.specs.declared.fault.LineFault.{LineFault}
use Rattle.ts_line.specs.FaultText.{line_fault_code, line_fault_text}

code_small : (kind : LineFaultKind) → code_number (line_fault_code kind) < 100
code_small NoMeasurement = omega arith
code_small BadTag = omega arith
code_small RepeatedTagKey = omega arith
code_small NoField = omega arith
code_small BadField = omega arith
code_small FieldType = omega arith
code_small IntegerRange = omega arith
code_small BadTimestamp = omega arith
code_small TimestampRange = omega arith
code_small OverLimit = omega arith
code_small ReservedKey = omega arith

pub line_fault_text_short : (f : LineFault) → f.at < 2 ^ 64 → length (line_fault_text f) ≤ 32
unfolding line_fault_text
line_fault_text_short f h =
    let small = code_small f.kind in
    let number : length (decimal (code_number (line_fault_code f.kind))) ≤ 2 = length-decimal-le 2 (code_number (line_fault_code f.kind)) (omega arith) small (omega arith) in
    let offset : length (decimal f.at) ≤ 20 = length-decimal-le 20 f.at (omega arith) (omega arith) h in
    simp length-append (omega (arith, number, offset))
