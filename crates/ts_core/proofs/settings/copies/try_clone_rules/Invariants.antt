use Rattle.std.proofs.Common.{◌≡◌, take}
use Rattle.ts_core.proofs.settings.copies.try_clone_rules.Given as goal

abbrev pub invariant-loop-rule : goal.invariant-loop-rule
invariant-loop-rule g l = l.all.items ≡ take l.rule-index l.rules
