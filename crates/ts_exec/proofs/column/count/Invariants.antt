use Rattle.std.proofs.Common.{◌≡◌, ◌-ℤ◌, unsigned_abs}
use Rattle.ts_store.specs.read.ViewResults.{points_at}
use Rattle.ts_exec.specs.declared.aggregate_parts.AggregateParts.TheVariants.{CountAlone}
use Rattle.ts_exec.specs.RowParts.{with_point_parts}
use Rattle.ts_exec.proofs.column.count.Given as goal

abbrev pub invariant-loop-from : goal.invariant-loop-from
invariant-loop-from g l =
    let cs = (g.V.View.seen l.range.view.now).columns in
    (with_point_parts CountAlone l.buckets (points_at cs l.range.column l.from l.range.to) l.rows ≡ with_point_parts CountAlone l.fn.buckets (points_at cs l.range.column l.range.from l.range.to) l.fn.rows)
    × (l.buckets ≡ l.fn.buckets)

abbrev pub decreases-loop-from : goal.decreases-loop-from
decreases-loop-from g l = unsigned_abs (l.range.to -ℤ l.from)
