use Rattle.std.proofs.Common.{◌≡◌, None, take}
use Rattle.std.specs.List.{AllByRecursion}
use Rattle.ts_store.specs.rollup.Rollups.{rollup_series_at}
use Rattle.ts_store.proofs.write.committing.is_rolled.Given as goal

abbrev pub invariant-loop-rollup : goal.invariant-loop-rollup
invariant-loop-rollup g l = AllByRecursion (λ s. rollup_series_at s l.column ≡ None) (take l.rollup-index l.rollups)
