use Rattle.std.proofs.Common.{◌≡◌, ◌-◌, List, length}
use Rattle.ts_ql.specs.ColumnReading.{IsOnBoundary, AreLeft}
use Rattle.ts_ql.specs.Lists.{projection}
use Rattle.ts_ql.specs.Selects.{Projection}
use Rattle.ts_ql.specs.Statements.{has_column}
use Rattle.ts_ql.proofs.lists.column_reader.ColumnReader.has_column.Given as goal

abbrev pub invariant-loop-other : goal.invariant-loop-other
invariant-loop-other l = record {
  boundary : IsOnBoundary l.others;
  left : (left : List Projection) → AreLeft l.self left → (rest : List Projection) × AreLeft l.others rest × (has_column (projection l.column).name left ≡ has_column (projection l.column).name rest);
}

abbrev pub decreases-loop-other : goal.decreases-loop-other
decreases-loop-other l = length l.others.text.now - l.others.at
