-- Lengths of the messages of faults in replies.
use Rattle.std.proofs.Common.{◌<◌, ◌≤◌, length, length-append, arith}
use Rattle.std.specs.Fmt.{decimal}
use Rattle.std.proofs.lemmas.Fmt.{length-decimal-le}
use Rattle.ts_core.specs.text.FaultCodes.{code_number}
use Rattle.ts_core.specs.text.FaultTexts.{fault_text}
use Rattle.ts_core.specs.declared.text.fault_code.FaultCode.{FaultCode}
use Rattle.ts_core.specs.declared.text.fault_text.FaultDetail.TheVariants.{Alone}
use Rattle.ts_plan.specs.declared.fault.PlanFault.{PlanFault}
use Rattle.ts_plan.specs.declared.fault.PlanFault.TheVariants.{NoPlan, TooManyBuckets}
use Rattle.ts_plan.specs.PlanTexts.{plan_fault_code}
use Rattle.ts_script.specs.ScriptReplies.{bad_range_text}

pub fault_short : (code : FaultCode) → code_number code < 100 → length (fault_text code Alone) ≤ 34
fault_short code small =
    let number : length (decimal (code_number code)) ≤ 2 = length-decimal-le 2 (code_number code) (omega arith) small (omega arith) in
    simp length-append (omega (arith, number))

pub bad_range_short : length bad_range_text ≤ 34
bad_range_short =
    let number : length (decimal 74) ≤ 2 = length-decimal-le 2 74 (omega arith) (omega arith) (omega arith) in
    let offset : length (decimal 0) ≤ 1 = length-decimal-le 1 0 (omega arith) (omega arith) (omega arith) in
    simp length-append (omega (arith, number, offset))

pub plan_code_small : (fault : PlanFault) → code_number (plan_fault_code fault) < 100
plan_code_small NoPlan = omega arith
plan_code_small TooManyBuckets = omega arith
