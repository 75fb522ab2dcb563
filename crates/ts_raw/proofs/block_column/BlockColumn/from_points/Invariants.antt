use Rattle.std.proofs.Common.{◌≡◌, take, None}
use Rattle.std.specs.FinMap as map
use Rattle.ts_raw.proofs.block_column.BlockColumn.from_points.Given as goal

abbrev pub invariant-loop-point : goal.invariant-loop-point
invariant-loop-point g l = record {
  points : l.column.points ≡ map.from_sorted (take l.point-index l.point-items);
  none_staged : l.column.staged ≡ None;
}
