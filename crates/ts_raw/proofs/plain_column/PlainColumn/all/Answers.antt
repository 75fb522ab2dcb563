use Rattle.std.proofs.Common.{sym, subst}
use Rattle.ts_raw.specs.PlainColumns.{IsRising}
use Rattle.ts_raw.proofs.ColumnLaws.{points-rising}
use Rattle.ts_raw.proofs.plain_column.PlainColumn.all.Goals as goal

pub plain-requires : goal.plain-requires
plain-requires g c = subst IsRising (sym c.as_slice.ensures.points) (points-rising c.args.self.now.points)
