use Rattle.std.proofs.Common.{rules, ◌≡◌, ◌≤◌, ◌<ℤ◌, ◌+◌, ◌-◌, ℕ, ℤ, List, [], ◌++◌, length, length-append, refl, ◌∙◌, ap, sym, subst, arith, SFits, to_z-of_z, w64}
use Rattle.std.proofs.lemmas.List.{nil_from_length}
use Rattle.ts_core.specs.aggregates.Aggregates.{Aggregate}
use Rattle.ts_exec.specs.declared.aggregate_parts.AggregateParts.{AggregateParts}
use Rattle.ts_exec.specs.RowParts.{BucketGrid, IsRun, AreMerged, with_part, with_point_parts}
use Rattle.ts_exec.proofs.Blocks.{run-merged, points-in-parts}
use Rattle.ts_exec.proofs.rows.continue_run.Given.{Over}
use Rattle.ts_exec.proofs.rows.continue_run.Goals.{After-with_blocks-run, After-next_run-next}
use Rattle.ts_exec.proofs.rows.continue_run.Goals as goal

pub loop-points-init : goal.loop-points-init
loop-points-init g c = record { value = refl; same = refl; run = c.requires.run }

pub with_blocks-run-requires : goal.with_blocks-run-requires
with_blocks-run-requires g c =
    let low_fits : SFits w64 c.loop-points.run.low = search rules in
    let high_fits : SFits w64 c.loop-points.run.high = search rules in
    rw (to_z-of_z low_fits, to_z-of_z high_fits) (λ (l : c.loop-points.run.low <ℤ c.loop-points.run.high). let fits = c.loop-points.invariant.run.bounded l in omega arith)

-- the blocks at the run's front are merged into its part, and the other points are left
blocks : (g : Over) (c : After-with_blocks-run g)
    → (with_point_parts g.F.Fold.parts c.loop-points.buckets c.with_blocks-run.new.points (with_part c.loop-points.run.row_index (g.F.Fold.folded c.with_blocks-run.result) c.loop-points.rows)
    ≡ with_point_parts g.F.Fold.parts c.loop-points.buckets c.loop-points.points (with_part c.loop-points.run.row_index (g.F.Fold.folded c.loop-points.run.fold) c.loop-points.rows))
    × IsRun c.loop-points.buckets c.loop-points.rows (length c.with_blocks-run.new.points + 0) c.loop-points.run.low c.loop-points.run.high c.loop-points.run.row_index (g.F.Fold.folded c.with_blocks-run.result)
blocks g c =
    let parts : AggregateParts = g.F.Fold.parts in
    let grid : BucketGrid = c.loop-points.buckets in
    let rows : List Aggregate = c.loop-points.rows in
    let low : ℤ = c.loop-points.run.low in
    let high : ℤ = c.loop-points.run.high in
    let row_index : ℕ = c.loop-points.run.row_index in
    let part : Aggregate = g.F.Fold.folded c.loop-points.run.fold in
    let next : Aggregate = g.F.Fold.folded c.with_blocks-run.result in
    let all : List (ℤ × ℤ) = c.loop-points.points in
    let left : List (ℤ × ℤ) = c.with_blocks-run.new.points in
    let low_fits : SFits w64 low = search rules in
    let high_fits : SFits w64 high = search rules in
    let short : length rows ≤ 18446744073709551615 = let e = c.loop-points.auto.rows in let s : length c.args.rows.now ≤ 18446744073709551615 = search rules in omega arith in
    let m : AreMerged parts low high part next all left = rw (to_z-of_z low_fits, to_z-of_z high_fits) at c.with_blocks-run.ensures in
    let none : length all ≡ length all + 0 = omega arith in
    run-merged parts grid rows low high row_index part next all left 0 short m (subst (λ n. IsRun grid rows n low high row_index part) none c.loop-points.invariant.run)

-- the number of points that are left
sizes : (g : Over) (c : After-next_run-next g) → c.len-all.result ≡ length c.next_run-next.result + length c.next_run-next.new.self
sizes g c = c.len-all.ensures ∙ ap (λ (ps : List (ℤ × ℤ)). length ps) c.next_run-next.ensures.points ∙ length-append c.next_run-next.result c.next_run-next.new.self

pub extend_runs-run-requires-clause-run : goal.extend_runs-run-requires-clause-run
extend_runs-run-requires-clause-run g c =
    let s = sizes g (goal.at.extend_runs-run-requires-clause-run g c).After-next_run-next in
    let all = c.len-all.ensures in
    let size = c.len.ensures in
    let count : length c.with_blocks-run.new.points + 0 ≡ length c.next_run-next.result + (c.len-all.result - c.len.result) = omega arith in
    subst (λ n. IsRun c.loop-points.buckets c.loop-points.rows n c.loop-points.run.low c.loop-points.run.high c.loop-points.run.row_index (g.F.Fold.folded c.with_blocks-run.result)) count
    (blocks g (goal.at.extend_runs-run-requires-clause-run g c).After-with_blocks-run).1

pub loop-points-smaller : goal.loop-points-smaller
loop-points-smaller g c =
    let s = sizes g (goal.at.loop-points-smaller g c).After-next_run-next in
    let all = c.len-all.ensures in
    let empty : c.next_run-next.result ≡ [] → ⊥ = search rules in
    let some : length c.next_run-next.result ≡ 0 → ⊥ = λ e. empty (nil_from_length _ e) in
    let m = c.with_blocks-run.ensures in
    let front = ap (λ (ps : List (ℤ × ℤ)). length ps) m.points in
    let parts = length-append m.first c.with_blocks-run.new.points in
    omega arith

pub loop-points-preserved : goal.loop-points-preserved
loop-points-preserved g c =
    let parts : AggregateParts = g.F.Fold.parts in
    let grid : BucketGrid = c.loop-points.buckets in
    let left : List (ℤ × ℤ) = c.with_blocks-run.new.points in
    let next : List (ℤ × ℤ) = c.next_run-next.result in
    let rest : List (ℤ × ℤ) = c.next_run-next.new.self in
    let old : List Aggregate = with_part c.loop-points.run.row_index (g.F.Fold.folded c.with_blocks-run.result) c.loop-points.rows in
    let is : left ≡ next ++ rest = c.next_run-next.ensures.points in
    let rows' : List Aggregate = c.extend_runs-run.new.rows in
    let row_index' : ℕ = c.extend_runs-run.result.row_index in
    let part' : Aggregate = g.F.Fold.folded c.extend_runs-run.result.fold in
    let same : c.extend_runs-run.new.buckets ≡ grid = c.extend_runs-run.ensures.same in
    let put : with_part row_index' part' rows' ≡ with_point_parts parts grid next old = c.extend_runs-run.ensures.value in
    let s = sizes g (goal.at.loop-points-preserved g c).After-next_run-next in
    let size = c.len.ensures in
    let count : c.len-all.result - c.len.result ≡ length rest = omega arith in
    let run : BucketGrid → ℕ → Type 0 = λ b n. IsRun b rows' n c.extend_runs-run.result.low c.extend_runs-run.result.high row_index' part' in
    record {
      value = ap (λ (b : BucketGrid). with_point_parts parts b rest (with_part row_index' part' rows')) same
          ∙ ap (λ (r : List Aggregate). with_point_parts parts grid rest r) put
          ∙ points-in-parts parts grid next rest old
          ∙ sym (ap (λ (ps : List (ℤ × ℤ)). with_point_parts parts grid ps old) is)
          ∙ (blocks g (goal.at.loop-points-preserved g c).After-with_blocks-run).0 ∙ c.loop-points.invariant.value;
      same = same ∙ c.loop-points.invariant.same;
      run = subst (λ (b : BucketGrid). run b (length rest)) (sym same) (subst (run grid) count c.extend_runs-run.ensures.run);
    }

pub returns-clause-value : goal.returns-clause-value
returns-clause-value g c =
    let row_index : ℕ = c.loop-points.run.row_index in
    let rows : List Aggregate = c.loop-points.rows in
    let next : Aggregate = g.F.Fold.folded c.with_blocks-run.result in
    let empty : c.next_run-next.result ≡ [] = search rules in
    let none : c.with_blocks-run.new.points ≡ [] = c.next_run-next.ensures.some empty in
    c.add_part.ensures ∙ ap (λ (a : Aggregate). with_part row_index a rows) c.part.ensures
    ∙ sym (ap (λ (ps : List (ℤ × ℤ)). with_point_parts g.F.Fold.parts c.loop-points.buckets ps (with_part row_index next rows)) none)
    ∙ (blocks g (goal.at.returns-clause-value g c).After-with_blocks-run).0 ∙ c.loop-points.invariant.value
