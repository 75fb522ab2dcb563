use Rattle.std.proofs.Common.{sym, subst}
use Rattle.ts_raw.specs.PlainColumns.{IsRising}
use Rattle.ts_raw.proofs.ColumnLaws.{points-rising}
use Rattle.ts_store.proofs.retain.points_below.PointsBelow.new.Goals as goal

pub invariant_of-result : goal.invariant_of-result
invariant_of-result g c = subst IsRising (sym c.all.ensures.points) (points-rising c.args.column.now.points)
