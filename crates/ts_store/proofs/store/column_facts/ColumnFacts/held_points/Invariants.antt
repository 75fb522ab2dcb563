use Rattle.std.proofs.Common.{◌≡◌, ℕ, List, ◌≤◌, ◌+◌, ◌*◌, min, take}
use Rattle.ts_store.specs.read.PointsRead.{number_of_points}
use Rattle.ts_store.specs.store.BlocksHeld.{points_in_columns}
use Rattle.ts_store.proofs.store.ColumnsLemmas.{HoldStates}
use Rattle.ts_store.proofs.store.column_facts.ColumnFacts.held_points.Given as goal

abbrev pub invariant-loop-column : goal.invariant-loop-column
invariant-loop-column g l = record {
  all : number_of_points (take l.column-index l.column-items) ≤ l.count;
  blocks : (texts : List (List (List ℕ))) × HoldStates (take l.column-index l.column-items) texts × (l.count ≡ min (points_in_columns texts) 18446744073709551615);
  few_more : l.count ≤ number_of_points (take l.column-index l.column-items) + 256 * l.column-index;
}
