use Rattle.std.proofs.Common.{rules, ◌≡◌, ◌≤ℤ◌, ◌<ℤ◌, ℤ, arith, List, get_or, w64, to_z, of_z, sym, ◌∙◌, ap}
use Rattle.std.proofs.lemmas.Int.{ints}
use Rattle.ts_core.specs.aggregates.Aggregates.{Aggregate}
use Rattle.ts_core.specs.store.StoreStates.{ColumnPoints}
use Rattle.ts_store.specs.read.PointsRead.{points_between}
use Rattle.ts_store.specs.read.ViewResults.{no_points}
use Rattle.ts_exec.specs.declared.aggregate_parts.AggregateParts.TheVariants.{CountAlone}
use Rattle.ts_exec.specs.RowParts.{BucketGrid, with_point_parts}
use Rattle.ts_exec.proofs.Counted.{counted-none, counted-parts}
use Rattle.ts_exec.proofs.column.count.Goals as goal

pub loop-from-preserved : goal.loop-from-preserved
loop-from-preserved g c =
    let grid : BucketGrid = c.loop-from.buckets in
    let rows : List Aggregate = c.loop-from.rows in
    let cs : List ColumnPoints = (g.V.View.seen c.args.range.now.view.now).columns in
    let ps : List (ℤ × ℤ) = (get_or cs c.args.range.now.column no_points).points in
    let from : ℤ = to_z w64 c.loop-from.from-bits in
    let next : ℤ = to_z w64 (of_z w64 c.count_next-from.result) in
    let to : ℤ = c.args.range.now.to in
    let more : from <ℤ next = search rules in
    let end : next ≤ℤ to = search rules in
    let same : c.count_next-from.new.buckets ≡ grid = c.count_next-from.ensures.same in
    let added : c.count_next-from.new.rows ≡ with_point_parts CountAlone grid (points_between from next ps) rows = search rules in (
      ap (λ (b : BucketGrid). with_point_parts CountAlone b (points_between next to ps) c.count_next-from.new.rows) same
          ∙ ap (λ (r : List Aggregate). with_point_parts CountAlone grid (points_between next to ps) r) added
          ∙ counted-parts grid from next to ps rows (omega (arith, ints)) end
          ∙ c.loop-from.invariant.0,
      same ∙ c.loop-from.invariant.1,
    )

pub returns-clause-value : goal.returns-clause-value
returns-clause-value g c =
    let cs : List ColumnPoints = (g.V.View.seen c.args.range.now.view.now).columns in
    let ps : List (ℤ × ℤ) = (get_or cs c.args.range.now.column no_points).points in
    let to : ℤ = c.args.range.now.to in
    let from : ℤ = to_z w64 c.loop-from.from-bits in
    let done : to ≤ℤ from = search rules in
    sym (ap (λ (qs : List (ℤ × ℤ)). with_point_parts CountAlone c.loop-from.buckets qs c.loop-from.rows) (counted-none from to ps done)) ∙ c.loop-from.invariant.0
