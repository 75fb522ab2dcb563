use Rattle.std.proofs.Common.{sym, subst}
use Rattle.ts_raw.specs.PlainColumns.{IsRising}
use Rattle.ts_raw.proofs.ColumnLaws.{within-rising}
use Rattle.ts_raw.proofs.block_column.BlockColumnColumn.range.Goals as goal

pub coded-requires : goal.coded-requires
coded-requires g c = subst IsRising (sym c.window.ensures.points) (within-rising c.args.self.now.points _ _)
