use Rattle.std.proofs.Common.{◌<ℤ◌, ap, sym, ◌∙◌, rules}
use Rattle.ts_core.specs.aggregates.Aggregates.{merged, aggregate_of_points}
use Rattle.ts_core.specs.aggregates.Buckets.{bucket_of}
use Rattle.ts_store.proofs.rollup.RollupSeriesPoints.{points_none, none_since}
use Rattle.ts_store.proofs.rollup.live_parts.with_bucket_since.Goals as goal

pub returns-then-index-index_of : goal.returns-then-index-index_of
returns-then-index-index_of g c =
    let before : c.args.index.now <ℤ bucket_of c.args.mark c.args.rule.now.interval c.args.rule.now.offset = search rules in
    sym (points_none c.args.total)
    ∙ ap (λ ps. merged c.args.total (aggregate_of_points ps)) (sym (none_since c.args.rule.now c.args.mark c.args.index.now c.args.column.now.points c.requires.interval before))
