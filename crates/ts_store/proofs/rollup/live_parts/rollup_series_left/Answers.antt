use Rattle.std.proofs.Common.{rules, ◌<◌, ◌≡◌, ◌∙◌, sym, length, arith, refl, SFits, w64, to_z-of_z}
use Rattle.ts_store.specs.rollup.LivePoints.{left_states}
use Rattle.ts_store.proofs.rollup.RollupSeriesPoints.{left-fewer, left-length, column_left, column_same, walk_first, walk_last, walk_at, walk_fits, walk_next}
use Rattle.ts_store.proofs.rollup.live_parts.rollup_series_left.Goals.{then-number-moved, else-number-moved}
use Rattle.ts_store.proofs.rollup.live_parts.rollup_series_left.Goals as goal

pub loop-column-init : goal.loop-column-init
loop-column-init g c =
    let fewer = left-fewer c.args.mark c.args.moved c.args.columns.now in
    let most = c.requires.few in
    walk_first c.args.rule.now (left_states c.args.mark c.args.moved c.args.columns.now) c.args.index.now c.args.rollup.now c.args.series _ _ (c.requires.each ∙ sym (left-length c.args.mark c.args.moved c.args.columns.now)) (omega (arith, fewer, most))
    c.columns_of-column-items.ensures.columns c.empty-total.ensures

pub offset_bounds-columns-number : goal.offset_bounds-columns-number
offset_bounds-columns-number g c =
    let there = walk_at _ _ _ _ _ _ _ c.loop-column.invariant _ _ c.loop-column-test.true (c.number.ensures ∙ c.column-item.is) in
    let long = left-length c.args.mark c.args.moved c.args.columns.now in
    omega (arith, there, long)

pub bounds-columns-number : goal.bounds-columns-number
bounds-columns-number g c =
    let there = walk_at _ _ _ _ _ _ _ c.loop-column.invariant _ _ c.loop-column-test.true (c.number.ensures ∙ c.column-item.is) in
    let long = left-length c.args.mark c.args.moved c.args.columns.now in
    omega (arith, there, long)

pub with_bucket_since-total-requires-clause-few : goal.with_bucket_since-total-requires-clause-few
with_bucket_since-total-requires-clause-few g c =
    let there = walk_at _ _ _ _ _ _ _ c.loop-column.invariant _ _ c.loop-column-test.true (c.number.ensures ∙ c.column-item.is) in
    let long = left-length c.args.mark c.args.moved c.args.columns.now in
    let inside : c.number.result < length c.args.columns.now = omega (arith, there, long) in
    let same : c.number.result ≡ c.args.moved = search rules in
    walk_fits _ _ _ _ _ _ _ c.loop-column.invariant _ _ c.loop-column-test.true (c.number.ensures ∙ c.column-item.is) _ (column_left c.args.rule.now c.args.mark c.args.moved _ c.args.columns.now _ c.args.index.now inside c.index-columns-number.is same)

pub with_points-total-requires : goal.with_points-total-requires
with_points-total-requires g c =
    let interval : SFits w64 c.interval.result = search rules in
    let offset : SFits w64 c.offset.result = search rules in
    let there = walk_at _ _ _ _ _ _ _ c.loop-column.invariant _ _ c.loop-column-test.true (c.number.ensures ∙ c.column-item.is) in
    let long = left-length c.args.mark c.args.moved c.args.columns.now in
    let inside : c.number.result < length c.args.columns.now = omega (arith, there, long) in
    let apart : c.number.result ≡ c.args.moved → ⊥ = search rules in
    walk_fits _ _ _ _ _ _ _ c.loop-column.invariant _ _ c.loop-column-test.true (c.number.ensures ∙ c.column-item.is) _
    (column_same c.args.rule.now c.args.mark c.args.moved _ c.args.columns.now _ c.args.index.now inside c.index-columns-number.is _ _ _ _ refl (to_z-of_z interval ∙ c.interval.ensures) (to_z-of_z offset ∙ c.offset.ensures) c.bucket.ensures.points apart)

pub loop-column-preserved : goal.loop-column-preserved
loop-column-preserved g c =
    let there = walk_at _ _ _ _ _ _ _ c.loop-column.invariant _ _ c.loop-column-test.true (c.number.ensures ∙ c.column-item.is) in
    let long = left-length c.args.mark c.args.moved c.args.columns.now in
    let inside : c.number.result < length c.args.columns.now = omega (arith, there, long) in
    elim c.if-number-moved.branch [
      | then-number-moved w ↦
          let same : c.number.result ≡ c.args.moved = search rules in
          walk_next _ _ _ _ _ _ _ c.loop-column.invariant _ _ c.loop-column-test.true (c.number.ensures ∙ c.column-item.is) _ (column_left c.args.rule.now c.args.mark c.args.moved _ c.args.columns.now _ c.args.index.now inside c.index-columns-number.is same) _ (w.total-is ∙ w.with_bucket_since-total.ensures)
      | else-number-moved w ↦
          let interval : SFits w64 w.interval.result = search rules in
          let offset : SFits w64 w.offset.result = search rules in
          let apart : c.number.result ≡ c.args.moved → ⊥ = search rules in
          walk_next _ _ _ _ _ _ _ c.loop-column.invariant _ _ c.loop-column-test.true (c.number.ensures ∙ c.column-item.is) _
          (column_same c.args.rule.now c.args.mark c.args.moved _ c.args.columns.now _ c.args.index.now inside c.index-columns-number.is _ _ _ _ refl (to_z-of_z interval ∙ w.interval.ensures) (to_z-of_z offset ∙ w.offset.ensures) w.bucket.ensures.points apart) _ (w.total-is ∙ w.with_points-total.ensures)
    ]

pub returns-clause-total : goal.returns-clause-total
returns-clause-total g c = walk_last _ _ _ _ _ _ _ c.loop-column.invariant c.loop-column-test.false
