use Rattle.std.proofs.Common.{map, subst, IfOk}
use Rattle.ts_core.specs.store.StoreStates.{column_of}
use Rattle.ts_core.specs.store.StoreData.{StoreData}
use Rattle.ts_store.specs.image.SavedContent.{SavesSeries}
use Rattle.ts_store.proofs.store.Store.saved_series.Goals as goal

pub returns : goal.returns
returns g c = subst (λ (k : StoreData). IfOk c.saved_series.result (λ all. SavesSeries k.series (map column_of k.columns) all.items)) c.self.view_is c.saved_series.ensures
