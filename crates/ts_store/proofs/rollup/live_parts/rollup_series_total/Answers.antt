use Rattle.std.proofs.Common.{rules, ◌∙◌, refl, arith, SFits, w64, to_z-of_z}
use Rattle.ts_store.proofs.rollup.RollupSeriesPoints.{column_points, walk_first, walk_last, walk_at, walk_fits, walk_next}
use Rattle.ts_store.proofs.rollup.live_parts.rollup_series_total.Goals as goal

pub loop-column-init : goal.loop-column-init
loop-column-init g c = walk_first c.args.rule.now c.args.columns.now c.args.index.now c.args.rollup.now c.args.series _ _ c.requires.each c.requires.few c.columns_of-column-items.ensures.columns c.empty-total.ensures

pub offset_bounds-columns-number : goal.offset_bounds-columns-number
offset_bounds-columns-number g c = let there = walk_at _ _ _ _ _ _ _ c.loop-column.invariant _ _ c.loop-column-test.true (c.number.ensures ∙ c.column-item.is) in omega (arith, there)

pub bounds-columns-number : goal.bounds-columns-number
bounds-columns-number g c = walk_at _ _ _ _ _ _ _ c.loop-column.invariant _ _ c.loop-column-test.true (c.number.ensures ∙ c.column-item.is)

pub with_points-total-requires : goal.with_points-total-requires
with_points-total-requires g c =
    let interval : SFits w64 c.interval.result = search rules in
    let offset : SFits w64 c.offset.result = search rules in
    let there = walk_at _ _ _ _ _ _ _ c.loop-column.invariant _ _ c.loop-column-test.true (c.number.ensures ∙ c.column-item.is) in
    walk_fits _ _ _ _ _ _ _ c.loop-column.invariant _ _ c.loop-column-test.true (c.number.ensures ∙ c.column-item.is) _
    (column_points c.args.rule.now _ c.args.columns.now _ c.args.index.now _ _ _ _ there c.index-columns-number.is refl (to_z-of_z interval ∙ c.interval.ensures) (to_z-of_z offset ∙ c.offset.ensures) c.bucket-points.ensures.points)

pub loop-column-preserved : goal.loop-column-preserved
loop-column-preserved g c =
    let interval : SFits w64 c.interval.result = search rules in
    let offset : SFits w64 c.offset.result = search rules in
    let there = walk_at _ _ _ _ _ _ _ c.loop-column.invariant _ _ c.loop-column-test.true (c.number.ensures ∙ c.column-item.is) in
    walk_next _ _ _ _ _ _ _ c.loop-column.invariant _ _ c.loop-column-test.true (c.number.ensures ∙ c.column-item.is) _
    (column_points c.args.rule.now _ c.args.columns.now _ c.args.index.now _ _ _ _ there c.index-columns-number.is refl (to_z-of_z interval ∙ c.interval.ensures) (to_z-of_z offset ∙ c.offset.ensures) c.bucket-points.ensures.points) _ c.with_points-total.ensures

pub returns-clause-total : goal.returns-clause-total
returns-clause-total g c = walk_last _ _ _ _ _ _ _ c.loop-column.invariant c.loop-column-test.false
