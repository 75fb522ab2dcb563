use Rattle.std.proofs.Common.{rules, ◌≡◌, ◌∙◌, ap, SFits, w64, to_z, of_z, to_z-of_z}
use Rattle.std.specs.Int.{w128}
use Rattle.ts_core.specs.aggregates.Buckets.{bucket_of, bucket_start}
use Rattle.ts_core.specs.queries.Queries.{Query}
use Rattle.ts_core.specs.queries.Answers.{bucket_in}
use Rattle.ts_ql.specs.Selects.{Select}
use Rattle.ts_exec.specs.Fillings.{FilledAnswer}
use Rattle.ts_exec.proofs.FillSteps.{groups-filled}
use Rattle.ts_exec.proofs.filling.Rows.groups.Goals as goal

pub returns : goal.returns
returns g c =
    let t = c.self.inside.table in
    let q : Query = t.select.query in
    let query_context : c.query-query.result.now ≡ t.select = c.query-query.ensures in
    let from : to_z w64 (of_z w64 c.from.result) ≡ q.from = (let w : SFits w64 c.from.result = search rules in to_z-of_z w ∙ c.from.ensures.value ∙ ap (λ (s : Select). s.query.from) query_context) in
    let interval : to_z w64 (of_z w64 c.interval.result) ≡ q.interval = (let w : SFits w64 c.interval.result = search rules in to_z-of_z w ∙ c.interval.ensures.value ∙ ap (λ (s : Select). s.query.interval) query_context) in
    let again : to_z w64 (of_z w64 c.interval-2.result) ≡ q.interval = (let w : SFits w64 c.interval-2.result = search rules in to_z-of_z w ∙ c.interval-2.ensures.value ∙ ap (λ (s : Select). s.query.interval) query_context) in
    let offset : to_z w64 (of_z w64 c.offset.result) ≡ q.offset = (let w : SFits w64 c.offset.result = search rules in to_z-of_z w ∙ c.offset.ensures ∙ ap (λ (s : Select). s.query.offset) query_context) in
    let begin : to_z w128 (of_z w128 c.bucket_begin.result) ≡ bucket_start (bucket_in q q.from) q.interval q.offset =
    (let w : SFits w128 c.bucket_begin.result = search rules in to_z-of_z w ∙ c.bucket_begin.ensures.value ∙ (λ j. bucket_start (bucket_of (from j) (interval j) (offset j)) (interval j) (offset j))) in
    groups-filled c.self.inside.fill t.select c.groups.result.now t.groups c.columns.result.now _ _ (c.columns.ensures ∙ ap (λ (s : Select). s.columns) query_context) again begin c.groups.ensures.value
    ∙ ap (λ (a : FilledAnswer). a.groups) c.self.view_is
