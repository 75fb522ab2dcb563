use Rattle.std.proofs.Common.{rules, ◌≡◌, ◌∷◌}
use Rattle.ts_core.specs.aggregates.Aggregates.{aggregate_of_one}
use Rattle.ts_store.proofs.rollup.RollupSeriesPoints.{merging_last, merging_fits, merging_next}
use Rattle.ts_store.proofs.rollup.live_parts.with_points.Goals as goal

pub merge-all-requires : goal.merge-all-requires
merge-all-requires c =
    let part : c.single.result ≡ aggregate_of_one c.in-Some.time c.in-Some.value = search rules in
    let left : c.loop-time.time-iterator ≡ (c.in-Some.time, c.in-Some.value) ∷ c.next.new.self = search rules in
    merging_fits _ _ _ _ _ _ left c.loop-time.invariant _ part

pub loop-time-preserved : goal.loop-time-preserved
loop-time-preserved c =
    let part : c.single.result ≡ aggregate_of_one c.in-Some.time c.in-Some.value = search rules in
    let left : c.loop-time.time-iterator ≡ (c.in-Some.time, c.in-Some.value) ∷ c.next.new.self = search rules in
    merging_next _ _ _ _ _ _ left c.loop-time.invariant _ part _ c.merge-all.ensures

pub returns : goal.returns
returns c = merging_last _ _ _ c.in-None.ensures.steps.0 c.loop-time.invariant
