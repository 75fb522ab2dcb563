use Rattle.std.proofs.Common.{rules, ◌≡◌, ◌+◌, ◌^◌, ◌≤◌, ◌≤ℤ◌, ◌<ℤ◌, ℕ, ℤ, arith, List, length, get_or, min, w64, to_z, of_z, sym, ◌∙◌, ap}
use Rattle.std.proofs.lemmas.Int.{ints}
use Rattle.ts_core.specs.aggregates.Aggregates.{Aggregate, empty_aggregate}
use Rattle.ts_core.specs.store.StoreStates.{ColumnPoints}
use Rattle.ts_store.specs.read.PointsRead.{points_between}
use Rattle.ts_store.specs.read.ViewResults.{no_points}
use Rattle.ts_exec.specs.RowParts.{BucketGrid, row_index_at, with_counted}
use Rattle.ts_exec.proofs.Counted.{counted-bucket}
use Rattle.ts_exec.proofs.column.count_next.Goals as goal

pub returns-then-can_add-clause-value : goal.returns-then-can_add-clause-value
returns-then-can_add-clause-value g c =
    let grid : BucketGrid = c.args.buckets.now in
    let rows : List Aggregate = c.args.rows.now in
    let cs : List ColumnPoints = (g.V.View.seen c.args.range.now.view.now).columns in
    let ps : List (ℤ × ℤ) = (get_or cs c.args.range.now.column no_points).points in
    let from : ℤ = c.args.from in
    let end : ℤ = to_z w64 (of_z w64 c.min-end.result) in
    let row_index : ℕ = c.span-span.result.row_index in
    let low : c.span-span.result.low ≤ℤ from = search rules in
    let high : end ≤ℤ c.span-span.result.high = search rules in
    let here : (t : ℤ) → from ≤ℤ t → t <ℤ end → row_index ≡ min (row_index_at grid t) 18446744073709551615 = λ t l u. c.span-span.ensures.others t (omega (arith, ints)) (omega (arith, ints)) in
    let short : length rows ≤ 18446744073709551615 = search rules in
    let number : c.len-count.result ≡ length (points_between from end ps) = search rules in
    let bounded : (get_or rows row_index empty_aggregate).count + (c.len-count.result + 1) ≤ 2 ^ 62 = search rules in
    let counted : c.add_count.new.rows ≡ with_counted row_index c.len-count.result rows = search rules in
    counted ∙ ap (λ n. with_counted row_index n rows) number ∙ sym (counted-bucket grid from end row_index here ps rows short (omega arith))
