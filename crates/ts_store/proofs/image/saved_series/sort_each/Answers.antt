use Rattle.std.proofs.Common.{◌≡◌, ◌<◌, ◌∙◌, List, length, refl, ap, sym, subst, arith, IsPermutation}
use Rattle.ts_core.specs.facts.Facts.{Column}
use Rattle.ts_store.specs.image.ColumnsListed.{ListsFirst}
use Rattle.ts_store.specs.image.SavedContent.{SavedSeries, saved_key, SavesColumns}
use Rattle.ts_store.proofs.image.ListedColumns.{keys_set, series_sorted, sorted_more, left_more, left_next}
use Rattle.ts_store.proofs.image.saved_series.sort_each.Goals as goal

pub loop-series-preserved : goal.loop-series-preserved
loop-series-preserved g c =
    let cs : List Column = c.args.index.now.columns in
    let lt : c.loop-series.series-index < length c.loop-series.all = omega arith in
    let key : c.sort.new.self.series ≡ c.series-item.result.series = c.sort.ensures.key ∙ ap saved_key (sym c.series-item.is) in
    let moved : IsPermutation c.series-item.result.columns c.sort.new.self.columns = subst (λ (u : SavedSeries). IsPermutation u.columns c.sort.new.self.columns) (sym c.series-item.is) c.sort.ensures.permutation in
    record {
      keys = keys_set c.loop-series.all c.loop-series.series-index c.series-item.result c.sort.new.self c.series-item.is key ∙ c.loop-series.invariant.keys;
      done =
          sorted_more (SavesColumns cs) c.loop-series.all c.loop-series.series-index c.sort.new.self lt c.loop-series.invariant.done
          (series_sorted cs (length cs) c.series-item.result c.sort.new.self refl (left_next (ListsFirst cs (length cs)) c.loop-series.all c.loop-series.series-index c.series-item.result lt c.series-item.is c.loop-series.invariant.left) key moved c.sort.ensures.sorted);
      left = left_more (ListsFirst cs (length cs)) c.loop-series.all c.loop-series.series-index c.sort.new.self c.loop-series.invariant.left;
    }
