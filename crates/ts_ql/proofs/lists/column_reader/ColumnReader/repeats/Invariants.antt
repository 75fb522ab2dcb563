use Rattle.std.proofs.Common.{◌≡◌, ◌-◌, List, length}
use Rattle.ts_ql.specs.ColumnReading.{IsOnBoundary, AreLeft}
use Rattle.ts_ql.specs.Selects.{Projection}
use Rattle.ts_ql.specs.Statements.{repeats}
use Rattle.ts_ql.proofs.lists.column_reader.ColumnReader.repeats.Given as goal

abbrev pub invariant-loop-column : goal.invariant-loop-column
invariant-loop-column l = record {
  boundary : IsOnBoundary l.columns;
  left : (left : List Projection) → AreLeft l.self left → (rest : List Projection) × AreLeft l.columns rest × (repeats left ≡ repeats rest);
}

abbrev pub decreases-loop-column : goal.decreases-loop-column
decreases-loop-column l = length l.columns.text.now - l.columns.at
