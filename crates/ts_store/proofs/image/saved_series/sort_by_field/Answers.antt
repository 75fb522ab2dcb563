use Rattle.std.proofs.Common.{rules}
use Rattle.std.proofs.lemmas.Cmp.{nat_list_cmp_total}
use Rattle.ts_store.specs.image.SavedContent.{saved_field}
use Rattle.ts_store.proofs.image.ListedColumns.{sorted_by}
use Rattle.ts_store.proofs.image.saved_series.sort_by_field.Goals as goal

pub returns-clause-sorted : goal.returns-clause-sorted
returns-clause-sorted g c = sorted_by nat_list_cmp_total saved_field _ c.sort_unstable_by.ensures.sorted (λ a r q k. search rules)
