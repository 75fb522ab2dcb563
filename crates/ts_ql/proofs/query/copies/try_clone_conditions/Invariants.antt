use Rattle.std.proofs.Common.{◌≡◌, take}
use Rattle.ts_ql.proofs.query.copies.try_clone_conditions.Given as goal

abbrev pub invariant-loop-condition : goal.invariant-loop-condition
invariant-loop-condition g l = l.all.items ≡ take l.condition-index l.conditions
