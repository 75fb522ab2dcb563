use Rattle.std.proofs.Common.{◌≡◌, ◌++◌, length, map, take, drop, IsSome}
use Rattle.std.specs.List.{AllByRecursion}
use Rattle.ts_store.specs.rollup.Rollups.{with_next}
use Rattle.ts_store.proofs.write.columns.commit_rollups.Given as goal

abbrev pub invariant-loop-rollup : goal.invariant-loop-rollup
invariant-loop-rollup g l = record {
  left : AllByRecursion (λ s. IsSome s.next × (l.column ≡ length s.series_of_column)) (drop l.rollup-index l.rollups);
  done : take l.rollup-index l.rollups ++ map with_next (drop l.rollup-index l.rollups) ≡ map with_next l.initial.rollups;
}
