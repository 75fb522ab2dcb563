use Rattle.std.proofs.Common.{◌≡◌, take}
use Rattle.ts_exec.specs.Borrowed.{borrowed}
use Rattle.ts_exec.proofs.conditions.listed.Given as goal

abbrev pub invariant-loop-condition : goal.invariant-loop-condition
invariant-loop-condition g l = borrowed l.all.items ≡ take l.condition-index l.conditions
