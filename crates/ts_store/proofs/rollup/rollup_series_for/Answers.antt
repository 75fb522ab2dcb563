use Rattle.std.proofs.Common.{◌<◌, set, subst, length, arith}
use Rattle.std.proofs.lemmas.Option.{slice_get_within}
use Rattle.ts_store.specs.rollup.ColumnLists.{HasCapacityAt}
use Rattle.ts_store.proofs.rollup.RollupLemmas.{list_roomed, place_taken}
use Rattle.ts_store.proofs.rollup.rollup_series_for.Goals as goal

pub returns-in_err-reserve-clause-kept : goal.returns-in_err-reserve-clause-kept
returns-in_err-reserve-clause-kept g c = list_roomed _ _ _ _ c.index_mut.ensures.value _ _ _ c.in_err-reserve.ensures.items c.in_ok-series.ensures.kept

pub returns-clause-capacity : goal.returns-clause-capacity
returns-clause-capacity g c =
    let lists = c.listed_rollup_series.new.columns.items in
    let there : c.in_ok-series.series < length c.listed_rollup_series.new.cells.rollup_series = slice_get_within c.listed_rollup_series.new.cells.rollup_series c.in_ok-series.series _ c.in_ok-series.ensures.number in
    let each = c.in_ok-series.ensures.kept.each in
    subst (HasCapacityAt (set lists c.number.result c.reserve.new.self)) c.number.ensures
    (place_taken lists c.number.result c.reserve.new.self (omega (arith, there, each, c.number.ensures)) c.in_ok-reserve.ensures.ok)

pub returns-clause-kept : goal.returns-clause-kept
returns-clause-kept g c = list_roomed _ _ _ _ c.index_mut.ensures.value _ _ _ c.in_ok-reserve.ensures.items c.in_ok-series.ensures.kept
