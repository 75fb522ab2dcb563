use Rattle.std.proofs.Common.{◌≡◌, replicate}
use Rattle.ts_store.specs.rollup.Rollups.{new_rollup}
use Rattle.ts_store.proofs.rollup.new_rollups.Given as goal

abbrev pub invariant-loop : goal.invariant-loop
invariant-loop g l = l.rollups.items ≡ replicate l.counter new_rollup
