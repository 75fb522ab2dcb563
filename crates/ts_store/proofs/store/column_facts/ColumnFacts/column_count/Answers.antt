use Rattle.std.proofs.Common.{subst, arith}
use Rattle.std.specs.List.{AllByRecursion}
use Rattle.ts_store.specs.store.ColumnStates.{StoreContent, point_maps}
use Rattle.ts_store.specs.read.PointsRead.{HasRisingPoints}
use Rattle.ts_store.proofs.store.ColumnsLemmas.{its_columns, with_points-rising}
use Rattle.ts_store.proofs.store.column_facts.ColumnFacts.column_count.Goals as goal

pub returns-clause-count : goal.returns-clause-count
returns-clause-count g c =
    let many = its_columns _ _ _ _ c.self.invariant c.self.view_is in
    omega (arith, many)

pub returns-clause-rising : goal.returns-clause-rising
returns-clause-rising g c =
    subst (λ (h : StoreContent). AllByRecursion HasRisingPoints h.columns) c.self.view_is (with_points-rising c.self.inside.index.columns (point_maps c.self.inside.columns.items))
