use Rattle.std.proofs.Common.{◌≡◌, map, take}
use Rattle.ts_core.specs.store.Marks.{index_of}
use Rattle.ts_core.specs.facts.Times.{least_time}
use Rattle.ts_store.proofs.store.first_lows.Given as goal

abbrev pub invariant-loop-rule : goal.invariant-loop-rule
invariant-loop-rule g l = l.lows.items ≡ map (λ r. index_of r least_time) (take l.rule-index l.rules)
