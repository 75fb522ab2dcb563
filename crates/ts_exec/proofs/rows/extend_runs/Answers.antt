use Rattle.std.proofs.Common.{rules, ◌≡◌, ◌≤◌, ◌+◌, ℕ, ℤ, List, [], ◌∷◌, length, length-append, ◌∙◌, ap, sym, subst, arith, SFits, to_z-of_z, w64}
use Rattle.std.proofs.lemmas.List.{length-set}
use Rattle.ts_core.specs.aggregates.Aggregates.{Aggregate}
use Rattle.ts_exec.specs.declared.aggregate_parts.AggregateParts.{AggregateParts}
use Rattle.ts_exec.specs.RowParts.{BucketGrid, IsRun, AreMerged, part_of_point, with_part, with_point_parts}
use Rattle.ts_exec.proofs.Runs.{run-first}
use Rattle.ts_exec.proofs.Blocks.{taken-inside, run-room, run-merged}
use Rattle.ts_exec.proofs.rows.extend_runs.Given.{Over}
use Rattle.ts_exec.proofs.rows.extend_runs.Goals.{After-with_all-run}
use Rattle.ts_exec.proofs.rows.extend_runs.Goals as goal

pub with_all-run-requires : goal.with_all-run-requires
with_all-run-requires g c =
    let low : ℤ = c.loop-point.run.low in
    let high : ℤ = c.loop-point.run.high in
    let low_fits : SFits w64 low = search rules in
    let high_fits : SFits w64 high = search rules in
    let points : List (ℤ × ℤ) = c.loop-point.points in
    let within : List (ℤ × ℤ) = c.take_within-within.result.now in
    let left : List (ℤ × ℤ) = c.take_within-within.new.self in
    let long : length points ≡ length within + length left = ap (λ (ps : List (ℤ × ℤ)). length ps) c.take_within-within.ensures.left ∙ length-append within left in
    run-room c.loop-point.buckets c.loop-point.rows (length points + c.args.others) low high c.loop-point.run.row_index (g.F.Fold.folded c.loop-point.run.fold) within c.loop-point.invariant.run
    (taken-inside low high _ _ within points (to_z-of_z low_fits) (to_z-of_z high_fits) c.take_within-within.ensures.points) (omega arith)

-- the points at the run's front are merged into its part
joined : (g : Over) (c : After-with_all-run g) → AreMerged g.F.Fold.parts c.loop-point.run.low c.loop-point.run.high (g.F.Fold.folded c.loop-point.run.fold) (g.F.Fold.folded c.with_all-run.result) c.loop-point.points c.take_within-within.new.self
joined g c =
    let low_fits : SFits w64 c.loop-point.run.low = search rules in
    let high_fits : SFits w64 c.loop-point.run.high = search rules in
    record {
      first = c.take_within-within.result.now;
      points = c.take_within-within.ensures.left;
      within = taken-inside c.loop-point.run.low c.loop-point.run.high _ _ c.take_within-within.result.now c.loop-point.points (to_z-of_z low_fits) (to_z-of_z high_fits) c.take_within-within.ensures.points;
      merged = c.with_all-run.ensures;
    }

-- and the other points are left
front : (g : Over) (c : After-with_all-run g)
    → (with_point_parts g.F.Fold.parts c.loop-point.buckets c.take_within-within.new.self (with_part c.loop-point.run.row_index (g.F.Fold.folded c.with_all-run.result) c.loop-point.rows)
    ≡ with_point_parts g.F.Fold.parts c.loop-point.buckets c.loop-point.points (with_part c.loop-point.run.row_index (g.F.Fold.folded c.loop-point.run.fold) c.loop-point.rows))
    × IsRun c.loop-point.buckets c.loop-point.rows (length c.take_within-within.new.self + c.args.others) c.loop-point.run.low c.loop-point.run.high c.loop-point.run.row_index (g.F.Fold.folded c.with_all-run.result)
front g c =
    let short : length c.loop-point.rows ≤ 18446744073709551615 = let e = c.loop-point.auto.rows in let s : length c.args.rows.now ≤ 18446744073709551615 = search rules in omega arith in
    run-merged g.F.Fold.parts c.loop-point.buckets c.loop-point.rows c.loop-point.run.low c.loop-point.run.high c.loop-point.run.row_index (g.F.Fold.folded c.loop-point.run.fold) (g.F.Fold.folded c.with_all-run.result)
    c.loop-point.points c.take_within-within.new.self c.args.others short (joined g c) c.loop-point.invariant.run

pub returns-in_default-clause-value : goal.returns-in_default-clause-value
returns-in_default-clause-value g c =
    let none : c.take_within-within.new.self ≡ [] = search rules in
    sym (ap (λ (ps : List (ℤ × ℤ)). with_point_parts g.F.Fold.parts c.loop-point.buckets ps (with_part c.loop-point.run.row_index (g.F.Fold.folded c.with_all-run.result) c.loop-point.rows)) none)
    ∙ (front g (goal.at.returns-in_default-clause-value g c).After-with_all-run).0 ∙ c.loop-point.invariant.value

pub returns-in_default-clause-run : goal.returns-in_default-clause-run
returns-in_default-clause-run g c =
    let part : Aggregate = g.F.Fold.folded c.with_all-run.result in
    let none : c.take_within-within.new.self ≡ [] = search rules in
    let count : length c.take_within-within.new.self + c.args.others ≡ c.args.others = let empty : length c.take_within-within.new.self ≡ 0 = ap (λ (ps : List (ℤ × ℤ)). length ps) none in omega arith in
    subst (λ (b : BucketGrid). IsRun b c.loop-point.rows c.args.others c.loop-point.run.low c.loop-point.run.high c.loop-point.run.row_index part) c.loop-point.invariant.same
    (subst (λ n. IsRun c.loop-point.buckets c.loop-point.rows n c.loop-point.run.low c.loop-point.run.high c.loop-point.run.row_index part) count (front g (goal.at.returns-in_default-clause-run g c).After-with_all-run).1)

pub loop-point-preserved : goal.loop-point-preserved
loop-point-preserved g c =
    let parts : AggregateParts = g.F.Fold.parts in
    let grid : BucketGrid = c.loop-point.buckets in
    let t : ℤ = c.in-Some.point.0 in
    let v : ℤ = c.in-Some.point.1 in
    let after : List (ℤ × ℤ) = c.take_first.new.self in
    let rest : List (ℤ × ℤ) = c.take_within-within.new.self in
    let old : List Aggregate = with_part c.loop-point.run.row_index (g.F.Fold.folded c.with_all-run.result) c.loop-point.rows in
    let is : rest ≡ (t, v) ∷ after = search rules in
    let rows' : List Aggregate = c.add_part.new.rows in
    let row_index' : ℕ = c.begin_run-run.result.row_index in
    let part' : Aggregate = g.F.Fold.folded c.begin_run-run.result.fold in
    let put : rows' ≡ old = search rules in
    let one : part' ≡ part_of_point parts t v = search rules in
    let short : length old ≤ 18446744073709551615 = let e = c.loop-point.auto.rows in let n : length old ≡ length c.loop-point.rows = length-set c.loop-point.rows c.loop-point.run.row_index _ in let s : length c.args.rows.now ≤ 18446744073709551615 = search rules in omega arith in
    let same : c.begin_run-run.new.buckets ≡ grid = c.begin_run-run.ensures.same in
    let long : length c.loop-point.points ≡ length c.take_within-within.result.now + length rest = ap (λ (ps : List (ℤ × ℤ)). length ps) c.take_within-within.ensures.left ∙ length-append c.take_within-within.result.now rest in
    let less : length rest ≡ length ((t, v) ∷ after) = ap (λ (ps : List (ℤ × ℤ)). length ps) is in
    let count : c.len.result + c.args.others ≡ length after + c.args.others = ap (λ n. n + c.args.others) c.len.ensures in
    let few = c.loop-point.invariant.few in
    let run : BucketGrid → ℕ → Type 0 = λ b n. IsRun b rows' n c.begin_run-run.result.low c.begin_run-run.result.high row_index' part' in
    record {
      value = ap (λ (b : BucketGrid). with_point_parts parts b after (with_part row_index' part' rows')) same
          ∙ ap (λ (r : List Aggregate). with_point_parts parts grid after (with_part row_index' part' r)) put
          ∙ ap (λ (r : List Aggregate). with_point_parts parts grid after r) (run-first parts t v grid old row_index' part' short c.begin_run-run.ensures.row_index one)
          ∙ sym (ap (λ (ps : List (ℤ × ℤ)). with_point_parts parts grid ps old) is)
          ∙ (front g (goal.at.loop-point-preserved g c).After-with_all-run).0 ∙ c.loop-point.invariant.value;
      same = same ∙ c.loop-point.invariant.same;
      few = omega arith;
      run = subst (λ (b : BucketGrid). run b (length after + c.args.others)) (sym same) (subst (run grid) count c.begin_run-run.ensures.run);
    }
