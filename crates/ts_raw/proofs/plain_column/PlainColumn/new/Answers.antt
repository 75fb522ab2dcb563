use Rattle.std.specs.Ordering.{int_cmp}
use Rattle.ts_raw.proofs.PointMaps.{from_sorted-nothing}
use Rattle.ts_raw.proofs.plain_column.PlainColumn.new.Goals as goal

pub returns-clause-points : goal.returns-clause-points
returns-clause-points g c = from_sorted-nothing int_cmp c.new.result.items c.new.ensures.items
