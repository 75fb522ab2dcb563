use Rattle.std.proofs.Common.{◌≡◌, ◌-◌, ◌≤◌, List, length}
use Rattle.ts_ql.specs.ColumnReading.{IsOnBoundary, AreLeft}
use Rattle.ts_ql.specs.Selects.{Projection}
use Rattle.ts_ql.proofs.lists.column_reader.ColumnReader.next.Given as goal

abbrev pub invariant-loop-token : goal.invariant-loop-token
invariant-loop-token l = record {
  boundary : IsOnBoundary l.self;
  text : l.self.text ≡ l.fn.self.text;
  order : l.fn.self.at ≤ l.self.at;
  left : (left : List Projection) → AreLeft l.fn.self left → AreLeft l.self left;
}

abbrev pub decreases-loop-token : goal.decreases-loop-token
decreases-loop-token l = length l.self.text.now - l.self.at
