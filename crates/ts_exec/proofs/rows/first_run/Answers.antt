use Rattle.std.proofs.Common.{rules, ◌≡◌, ◌≤◌, ℤ, List, ◌∷◌, length, min, ◌∙◌, ap, subst, sym}
use Rattle.ts_core.specs.aggregates.Aggregates.{Aggregate}
use Rattle.ts_exec.specs.declared.aggregate_parts.AggregateParts.{AggregateParts}
use Rattle.ts_exec.specs.RowParts.{BucketGrid, row_index_at, part_of_point, with_point_parts}
use Rattle.ts_exec.proofs.Runs.{run-first}
use Rattle.ts_exec.proofs.rows.first_run.Goals as goal

pub returns-clause-value : goal.returns-clause-value
returns-clause-value g c =
    let parts : AggregateParts = g.F.Fold.parts in
    let t : ℤ = c.in_ok-time.time in
    let v : ℤ = c.in_ok-time.value in
    let grid : BucketGrid = c.args.buckets.now in
    let rows : List Aggregate = c.args.rows.now in
    let left : List (ℤ × ℤ) = c.next.new.self in
    let part : Aggregate = g.F.Fold.folded c.begin_run.result.fold in
    let is : c.args.points.now ≡ (t, v) ∷ left = search rules in
    let same : c.first_block.new.buckets ≡ grid = c.first_block.ensures.same in
    let there : c.begin_run.result.row_index ≡ min (row_index_at grid t) 18446744073709551615 = subst (λ (b : BucketGrid). c.begin_run.result.row_index ≡ min (row_index_at b t) 18446744073709551615) same c.begin_run.ensures.row_index in
    let one : part ≡ part_of_point parts t v = search rules in
    let short : length rows ≤ 18446744073709551615 = search rules in
    ap (λ (r : List Aggregate). with_point_parts parts grid left r) (run-first parts t v grid rows c.begin_run.result.row_index part short there one)
    ∙ sym (ap (λ (ps : List (ℤ × ℤ)). with_point_parts parts grid ps rows) is)
