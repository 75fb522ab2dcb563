use Rattle.std.proofs.Common.{rules, ◌≡◌, ◌+◌, ◌≤◌, ◌^◌, ℕ, ℤ, List, length, get_or, sym, subst, SFits, to_z-of_z, w64}
use Rattle.ts_core.specs.aggregates.Aggregates.{Aggregate, empty_aggregate}
use Rattle.ts_exec.specs.declared.aggregate_parts.AggregateParts.{AggregateParts}
use Rattle.ts_raw.specs.Summaries.{IsFront}
use Rattle.ts_exec.specs.RowParts.{BucketGrid, IsRun, with_part, with_point_parts}
use Rattle.ts_exec.proofs.Blocks.{front-some, front-first}
use Rattle.ts_exec.proofs.rows.first_block.Given.{Over}
use Rattle.ts_exec.proofs.rows.first_block.Goals.{After-from_agg}
use Rattle.ts_exec.proofs.rows.first_block.Goals as goal

pub from_agg-requires-clause-some : goal.from_agg-requires-clause-some
from_agg-requires-clause-some g c = front-some _ _ _ _ c.in_ok-part.part c.in_ok-part.ensures

-- the run that begins by a block
begun : (g : Over) (c : After-from_agg g)
    → (with_point_parts g.F.Fold.parts c.args.buckets.now c.next_whole.new.self (with_part c.span-span.result.row_index (g.F.Fold.folded c.from_agg.result) c.args.rows.now) ≡ with_point_parts g.F.Fold.parts c.args.buckets.now c.args.points.now c.args.rows.now)
    × IsRun c.args.buckets.now c.args.rows.now (length c.next_whole.new.self) c.span-span.result.low c.span-span.result.high c.span-span.result.row_index (g.F.Fold.folded c.from_agg.result)
begun g c =
    let parts : AggregateParts = g.F.Fold.parts in
    let grid : BucketGrid = c.args.buckets.now in
    let rows : List Aggregate = c.args.rows.now in
    let low : ℤ = c.span-span.result.low in
    let high : ℤ = c.span-span.result.high in
    let row_index : ℕ = c.span-span.result.row_index in
    let all : List (ℤ × ℤ) = c.args.points.now in
    let left : List (ℤ × ℤ) = c.next_whole.new.self in
    let a : Aggregate = c.in_ok-part.part in
    let low_fits : SFits w64 low = search rules in
    let high_fits : SFits w64 high = search rules in
    let short : length rows ≤ 18446744073709551615 = search rules in
    let bounded : (get_or rows row_index empty_aggregate).count + (length all + 1) ≤ 2 ^ 62 = search rules in
    let front : IsFront low high all left a = rw (to_z-of_z low_fits, to_z-of_z high_fits) at c.in_ok-part.ensures in
    subst (λ (x : Aggregate). (with_point_parts parts grid left (with_part row_index x rows) ≡ with_point_parts parts grid all rows) × IsRun grid rows (length left) low high row_index x) (sym c.from_agg.ensures)
    (front-first parts grid rows low high row_index all left a short c.span-span.ensures.others bounded front)

pub returns-clause-run : goal.returns-clause-run
returns-clause-run g c =
    let low_fits : SFits w64 c.span-span.result.low = search rules in
    let high_fits : SFits w64 c.span-span.result.high = search rules in
    rw (to_z-of_z low_fits, to_z-of_z high_fits) (begun g (goal.at.returns-clause-run g c).After-from_agg).1

pub returns-clause-value : goal.returns-clause-value
returns-clause-value g c = (begun g (goal.at.returns-clause-value g c).After-from_agg).0
