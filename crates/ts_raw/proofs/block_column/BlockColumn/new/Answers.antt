use Rattle.std.proofs.Common.{int_cmp}
use Rattle.ts_raw.specs.CodedBlocks.{points_of_blocks}
use Rattle.ts_raw.proofs.PointMaps.{from_sorted-nothing}
use Rattle.ts_raw.proofs.ColumnBlocks.{sound_none, points_none}
use Rattle.ts_raw.proofs.block_column.BlockColumn.new.Goals as goal

pub invariant_of-result : goal.invariant_of-result
invariant_of-result g c = record { sound = sound_none c.new.result c.new.ensures.none; is_staged = tt }

pub returns-clause-points : goal.returns-clause-points
returns-clause-points g c = from_sorted-nothing int_cmp (points_of_blocks c.new.result) (points_none c.new.result c.new.ensures.none)
