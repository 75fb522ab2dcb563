-- Messages of the errors of an execution. (Own rule.)
use Rattle.ts_core.specs.facts.Facts.{Text}
use Rattle.ts_core.specs.text.FaultTexts.{fault_text, memory_text}
use Rattle.ts_core.specs.declared.text.fault_code.FaultCode.TheVariants as code
use Rattle.ts_core.specs.declared.text.fault_text.FaultDetail.TheVariants.{Alone}
use Rattle.ts_exec.specs.declared.fault.ExecFault.{ExecFault}
use Rattle.ts_exec.specs.declared.fault.ExecFault.TheVariants as errors

unfoldable pub exec_fault_text : {A : Type 0} → ExecFault A → Text
exec_fault_text (errors.Stale settings marks) = fault_text code.StalePlan Alone
exec_fault_text errors.OutOfMemory = memory_text
