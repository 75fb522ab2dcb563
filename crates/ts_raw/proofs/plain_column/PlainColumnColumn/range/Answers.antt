use Rattle.std.proofs.Common.{sym, subst}
use Rattle.ts_raw.specs.PlainColumns.{IsRising}
use Rattle.ts_raw.proofs.ColumnLaws.{within-rising}
use Rattle.ts_raw.proofs.plain_column.PlainColumnColumn.range.Goals as goal

pub plain-requires : goal.plain-requires
plain-requires g c = subst IsRising (sym c.window.ensures.points) (within-rising c.args.self.now.points _ _)
