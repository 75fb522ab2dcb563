use Rattle.std.proofs.Common.{rules}
use Rattle.ts_core.proofs.facts.Ids.{series_total}
use Rattle.ts_store.specs.image.SavedContent.{saved_key}
use Rattle.ts_store.proofs.image.ListedColumns.{sorted_by}
use Rattle.ts_store.proofs.image.saved_series.sort_by_key.Goals as goal

pub returns-clause-sorted : goal.returns-clause-sorted
returns-clause-sorted g c = sorted_by series_total saved_key _ c.sort_unstable_by.ensures.sorted (λ a r q k. search rules)
