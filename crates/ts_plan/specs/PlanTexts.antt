-- Codes and messages of the errors of planning. (Own rule.)
use Rattle.ts_core.specs.facts.Facts.{Text}
use Rattle.ts_core.specs.declared.text.fault_code.FaultCode.{FaultCode}
use Rattle.ts_core.specs.declared.text.fault_code.FaultCode.TheVariants as coded
use Rattle.ts_core.specs.declared.text.fault_text.FaultDetail.TheVariants.{Alone}
use Rattle.ts_core.specs.text.FaultTexts.{fault_text, memory_text}
use Rattle.ts_plan.specs.declared.fault.PlanError.{PlanError}
use Rattle.ts_plan.specs.declared.fault.PlanError.TheVariants as errors
use Rattle.ts_plan.specs.declared.fault.PlanFault.{PlanFault}
use Rattle.ts_plan.specs.declared.fault.PlanFault.TheVariants.{NoPlan, TooManyBuckets}

abbrev pub plan_fault_code : PlanFault → FaultCode
plan_fault_code NoPlan = coded.NoPlan
plan_fault_code TooManyBuckets = coded.TooManyRuleBuckets

unfoldable pub plan_fault_text : PlanFault → Text
plan_fault_text fault = fault_text (plan_fault_code fault) Alone

abbrev pub plan_error_text : PlanError → Text
plan_error_text (errors.Fault fault) = plan_fault_text fault
plan_error_text errors.OutOfMemory = memory_text
