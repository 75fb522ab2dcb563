use Rattle.std.proofs.Common.{◌≤◌, ◌∙◌, length, ap, arith}
use Rattle.ts_core.specs.facts.Facts.{Series}
use Rattle.ts_store.specs.store.ColumnStates.{StoreContent}
use Rattle.ts_store.specs.write.Refusals.{is_too_many}
use Rattle.ts_store.proofs.store.Stands.{looked_for}
use Rattle.ts_store.proofs.store.column_facts.ColumnFacts.refuses.Goals as goal

pub returns-then-series_count-ge-SERIES_LIMIT : goal.returns-then-series_count-ge-SERIES_LIMIT
returns-then-series_count-ge-SERIES_LIMIT g c =
    let s : Series = c.args.key.now in
    let full : 1000000 ≤ length c.self.inside.index.series = omega (arith, c.if-series_count-ge-SERIES_LIMIT.true, c.series_count.ensures.value) in
    looked_for c.self.inside.index.series s c.lookup.result c.is_none.result c.is_none.ensures c.lookup.ensures.found c.lookup.ensures.absent full
    ∙ ap (λ (h : StoreContent). is_too_many h.series s) c.self.view_is
