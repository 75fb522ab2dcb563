use Rattle.std.proofs.Common.{rules, ◌≡◌, ◌+◌, ◌^◌, ◌≤◌, true, get_or, ℕ, ℤ, subst, sym, List, SFits, to_z, of_z, to_z-of_z, w64}
use Rattle.ts_core.specs.aggregates.Aggregates.{Aggregate, empty_aggregate}
use Rattle.ts_exec.specs.RowParts.{BucketGrid, IsRun, part_of_point}
use Rattle.ts_exec.proofs.Runs.{run-begun}
use Rattle.ts_exec.proofs.rows.begin_run.Goals as goal

pub returns-clause-run : goal.returns-clause-run
returns-clause-run g c =
    let grid : BucketGrid = c.args.buckets.now in
    let rows : List Aggregate = c.args.rows.now in
    let low : ℤ = c.span-span.result.low in
    let row_index : ℕ = c.span-span.result.row_index in
    let part : Aggregate = g.F.Fold.folded c.single.result in
    let bounded : c.can_add-can_grow.result ≡ true → (get_or rows row_index empty_aggregate).count + (c.args.others + 1) ≤ 2 ^ 62 = search rules in
    let one : part ≡ part_of_point g.F.Fold.parts c.args.time c.args.value = search rules in
    let run : IsRun grid rows c.args.others low c.end_of_run.result row_index part =
    subst (λ h. IsRun grid rows c.args.others low h row_index part) (sym c.end_of_run.ensures)
    (run-begun g.F.Fold.parts c.args.time c.args.value grid rows c.args.others low c.span-span.result.high row_index part c.can_add-can_grow.result c.span-span.ensures.others bounded one) in
    let low_fits : SFits w64 low = search rules in
    let high_fits : SFits w64 c.end_of_run.result = search rules in
    subst (λ l. IsRun grid rows c.args.others l (to_z w64 (of_z w64 c.end_of_run.result)) row_index part) (sym (to_z-of_z low_fits)) (subst (λ h. IsRun grid rows c.args.others low h row_index part) (sym (to_z-of_z high_fits)) run)
