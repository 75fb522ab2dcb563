use Rattle.std.proofs.Common.{List, map, sym, subst}
use Rattle.std.specs.Vec.{with_items}
use Rattle.ts_core.specs.facts.Facts.{Column}
use Rattle.ts_core.specs.store.StoreStates.{column_of}
use Rattle.ts_store.specs.store.ColumnStates.{StoreContent}
use Rattle.ts_store.specs.image.SavedContent.{SavedSeries, SavesSeries}
use Rattle.ts_store.proofs.store.ColumnsLemmas.{names_held, written_back}
use Rattle.ts_store.proofs.store.column_facts.ColumnFacts.saved_series.Goals as goal

pub returns : goal.returns
returns g c =
    let index = c.self.inside.index in
    let all : List SavedSeries = (with_items c.list_columns.new.all c.sort_all.new.all).items in
    let sorted : SavesSeries index.series index.columns all = subst (SavesSeries index.series index.columns) (sym (written_back c.list_columns.new.all _ c.sort_all.new.all c.sort_all.auto.all c.as_mut_slice.ensures.value)) c.sort_all.ensures in
    subst (λ (h : StoreContent). SavesSeries h.series (map column_of h.columns) all) c.self.view_is
    (subst (λ (cs : List Column). SavesSeries index.series cs all) (sym (names_held index c.self.inside.columns.items c.self.invariant.each)) sorted)
