use Rattle.std.proofs.Common.{sym, subst}
use Rattle.ts_raw.specs.PlainColumns.{IsRising}
use Rattle.ts_raw.proofs.ColumnLaws.{points-rising}
use Rattle.ts_raw.proofs.block_column.BlockColumn.all.Goals as goal

pub coded-requires : goal.coded-requires
coded-requires g c = subst IsRising (sym c.every.ensures.points) (points-rising c.args.self.now.points)
