use Rattle.std.proofs.Common.{rules, arith}
use Rattle.std.proofs.lemmas.Grind.{common_steps}
use Rattle.ts_core.proofs.lists.Results.{on_any_err}
use Rattle.ts_core.proofs.text.FaultTextLemmas.{ends_at_once, ends_behind}
use Rattle.ts_core.proofs.text.fault_text.+push_all.Goals as goal

pub returns-in_err-push_str-in-Some : goal.returns-in_err-push_str-in-Some
returns-in_err-push_str-in-Some g t c = record {
  ok = grind (arith, common_steps);
  err = on_any_err c.from_residual.result (ends_at_once _ _ _ c.in_err-push_str-in-Some.ensures.bytes);
  spare = grind (arith, common_steps);
  capacity = grind (arith, common_steps);
}

pub returns-in_ok-push_str-in-Some : goal.returns-in_ok-push_str-in-Some
returns-in_ok-push_str-in-Some g t c = record { ok = grind (arith, common_steps); err = search (rules, ends_behind); spare = grind (arith, common_steps); capacity = grind (arith, common_steps) }
