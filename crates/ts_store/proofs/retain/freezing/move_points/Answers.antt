use Rattle.std.proofs.Common.{rules, ◌≡◌, ◌+◌, ◌≤◌, ◌∙◌, ℤ, [], ◌∷◌, length, refl, sym, ap, arith, to_z, of_z, SFits, to_z-of_z}
use Rattle.std.proofs.lemmas.Int.{ints}
use Rattle.std.proofs.Math.Facts.{of_z-to_z}
use Rattle.std.specs.Int.{w128}
use Rattle.std.specs.FinMap as finmap
use Rattle.std.specs.FinMap.{len-entries}
use Rattle.std.proofs.lemmas.List.{get_or_default}
use Rattle.ts_core.specs.store.Marks.{index_of}
use Rattle.ts_core.specs.aggregates.Aggregates.{Aggregate, aggregate_of_one, merged}
use Rattle.ts_core.specs.moves.StoreMoves.{points_below}
use Rattle.ts_core.proofs.lists.ListSteps.{length-filter}
use Rattle.ts_raw.specs.Columns.{ColumnState}
use Rattle.ts_store.specs.store.ColumnStates.{no_column}
use Rattle.ts_store.specs.rollup.Rollups.{RollupState}
use Rattle.ts_store.specs.retain.RollupSteps.{facts_left}
use Rattle.ts_store.specs.retain.PointMoves.{column_below}
use Rattle.ts_store.proofs.retain.PointsFrozen.{grid_kept_then}
use Rattle.ts_store.proofs.retain.RollupMoves.{moved_passed}
use Rattle.ts_store.proofs.store.ColumnsLemmas.{some-points}
use Rattle.ts_store.proofs.retain.BucketsMoved.{none_moving, first_moving, more_moving, next_moving, all_moving}
use Rattle.ts_store.proofs.write.CellsCreatedLemmas.{rollup_series_known}
use Rattle.ts_store.proofs.retain.freezing.move_points.Goals as goal

pub returns-then-not-rolls : goal.returns-then-not-rolls
returns-then-not-rolls g c = λ cs d may.
    let s : RollupState = c.args.rollup.now in
    ap (λ (t : RollupState). t ∷ []) (moved_passed c.args.rule.now d (column_below c.args.mark c.args.column c.args.columns.now) (facts_left c.args.mark d cs c.args.columns.now) c.args.column s (sym c.rolls.ensures ∙ c.if-not-rolls.true) (rollup_series_known c.args.rule.now s.grid.rollup_series cs s.series_of_column c.args.column d may.over.rollups.0 may.at))

pub returns-in_default : goal.returns-in_default
returns-in_default g c =
    let col = c.index-columns-column.is ∙ get_or_default c.args.columns.now c.args.column c.index-columns-column.result no_column c.requires.column in
    none_moving c.args.rule.now c.args.mark c.args.column c.args.columns.now c.args.rollup.now (sym c.rolls.ensures ∙ c.if-not-rolls.false)
    (ap (λ (x : ColumnState). points_below c.args.mark (finmap.entries x.points)) (sym col) ∙ sym c.new-points.ensures ∙ c.in_default.ensures.steps.0)

pub index_of-bucket-requires-clause-bound : goal.index_of-bucket-requires-clause-bound
index_of-bucket-requires-clause-bound g c =
    let valid = c.nanos.ensures.valid in
    let is : to_z w128 (of_z w128 c.from.result) ≡ c.nanos.result = search rules in
    omega (arith, ints, valid, is)

pub loop-time-init : goal.loop-time-init
loop-time-init g c =
    let p : ℤ × ℤ = (c.in-Some.time, c.in-Some.value) in
    let x : ColumnState = c.index-columns-column.result in
    let col = c.index-columns-column.is ∙ get_or_default c.args.columns.now c.args.column x no_column c.requires.column in
    let first : c.new-points.result ≡ p ∷ c.next.new.self = search rules in
    let left : c.into_iter-time-iterator.result ≡ c.next.new.self = c.into_iter-time-iterator.ensures.into_iter_gives in
    let points : points_below c.args.mark (finmap.entries x.points) ≡ p ∷ c.into_iter-time-iterator.result = sym c.new-points.ensures ∙ first ∙ ap (λ ps. p ∷ ps) (sym left) in
    let fits : SFits w128 c.index_of-bucket.result = search rules in
    let is : c.index_of-bucket.result ≡ index_of c.args.rule.now p.0 = search rules in
    let one : c.single-folded.result ≡ aggregate_of_one p.0 p.1 = search rules in
    record {
      kept = refl;
      few =
          let count : c.single-folded.result.count ≡ 1 = ap (λ (a : Aggregate). a.count) one in
          let fewer : length (points_below c.args.mark (finmap.entries x.points)) ≤ length (finmap.entries x.points) = length-filter _ (finmap.entries x.points) in
          let long : length (points_below c.args.mark (finmap.entries x.points)) ≡ length (p ∷ c.into_iter-time-iterator.result) = ap length points in
          let each : finmap.len x.points ≡ length (finmap.entries x.points) = len-entries x.points in
          let most = some-points c.args.columns.now c.args.column c.requires.column in
          let its = ap (λ (y : ColumnState). finmap.len y.points) col in
          let few = c.requires.few in
          omega (arith, count, fewer, long, each, most, its, few);
      cells = first_moving c.args.rule.now c.args.mark c.args.column c.args.columns.now c.args.rollup.now (sym c.rolls.ensures ∙ c.if-not-rolls.false) p _ _ _ c.requires.interval
          (ap (λ (y : ColumnState). points_below c.args.mark (finmap.entries y.points)) (sym col) ∙ points) (to_z-of_z fits ∙ is) one;
    }

pub merge-folded-requires : goal.merge-folded-requires
merge-folded-requires g c =
    let p : ℤ × ℤ = (c.in-Some-2.time, c.in-Some-2.value) in
    let left : c.loop-time.time-iterator ≡ p ∷ c.next-in-loop-time.new.self = search rules in
    let long : length c.loop-time.time-iterator ≡ length (p ∷ c.next-in-loop-time.new.self) = ap length left in
    let one : c.single-point.result.count ≡ 1 = ap (λ (a : Aggregate). a.count) c.single-point.ensures in
    let few = c.loop-time.invariant.few in
    omega (arith, long, one, few)

pub loop-time-preserved-then-index-bucket : goal.loop-time-preserved-then-index-bucket
loop-time-preserved-then-index-bucket g c =
    let p : ℤ × ℤ = (c.in-Some-2.time, c.in-Some-2.value) in
    let left : c.loop-time.time-iterator ≡ p ∷ c.next-in-loop-time.new.self = search rules in
    let long : length c.loop-time.time-iterator ≡ length (p ∷ c.next-in-loop-time.new.self) = ap length left in
    let fits : SFits w128 c.index_of-index.result = search rules in
    let is : c.index_of-index.result ≡ index_of c.args.rule.now p.0 = search rules in
    let one : c.single-point.result ≡ aggregate_of_one p.0 p.1 = search rules in
    let merge : c.merge-folded.result ≡ merged c.loop-time.folded (aggregate_of_one p.0 p.1) = c.merge-folded.ensures ∙ ap (merged c.loop-time.folded) one in
    let count : c.merge-folded.result.count ≡ c.loop-time.folded.count + 1 = ap (λ (a : Aggregate). a.count) merge in
    let few = c.loop-time.invariant.few in
    record {
      kept = c.loop-time.invariant.kept;
      few = omega (arith, long, count, few);
      cells = more_moving c.args.rule.now c.args.mark c.args.column c.args.columns.now c.args.rollup.now (sym c.rolls.ensures ∙ c.if-not-rolls.false) p _ _ c.loop-time.rollup _ _ _ left c.loop-time.invariant.cells
          (sym (ap (to_z w128) c.if-index-bucket.true) ∙ to_z-of_z fits ∙ is) merge;
    }

pub loop-time-preserved : goal.loop-time-preserved
loop-time-preserved g c =
    let p : ℤ × ℤ = (c.in-Some-2.time, c.in-Some-2.value) in
    let left : c.loop-time.time-iterator ≡ p ∷ c.next-in-loop-time.new.self = search rules in
    let long : length c.loop-time.time-iterator ≡ length (p ∷ c.next-in-loop-time.new.self) = ap length left in
    let fits : SFits w128 c.index_of-index.result = search rules in
    let is : c.index_of-index.result ≡ index_of c.args.rule.now p.0 = search rules in
    let one : c.single-point.result ≡ aggregate_of_one p.0 p.1 = search rules in
    let count : c.single-point.result.count ≡ 1 = ap (λ (a : Aggregate). a.count) one in
    let few = c.loop-time.invariant.few in
    record {
      kept = grid_kept_then c.args.rollup.now c.loop-time.rollup c.move_bucket.new.rollup _ c.loop-time.invariant.kept c.move_bucket.ensures.kept;
      few = omega (arith, long, count, few);
      cells = next_moving c.args.rule.now c.args.mark c.args.column c.args.columns.now c.args.rollup.now (sym c.rolls.ensures ∙ c.if-not-rolls.false) p _ _ c.loop-time.rollup _ _ _ left c.loop-time.invariant.cells c.move_bucket.new.rollup _
          (λ e. c.if-index-bucket.false (ap (of_z w128) (is ∙ sym e) ∙ of_z-to_z c.loop-time.auto.bucket-fits)) (to_z-of_z fits ∙ is) one c.loop-time.invariant.kept c.move_bucket.ensures.cells;
    }

pub returns : goal.returns
returns g c =
    all_moving c.args.rule.now c.args.mark c.args.column c.args.columns.now c.args.rollup.now (sym c.rolls.ensures ∙ c.if-not-rolls.false) _ c.loop-time.rollup c.move_bucket-2.new.rollup _ _ (search rules) c.loop-time.invariant.kept c.move_bucket-2.ensures.kept c.move_bucket-2.ensures.cells c.loop-time.invariant.cells
