use Rattle.std.proofs.Common.{◌≡◌, length, map, take, drop}
use Rattle.std.specs.List.{AllByRecursion}
use Rattle.ts_store.specs.image.ColumnsListed.{ListsFirst}
use Rattle.ts_store.specs.image.SavedContent.{saved_key, SavesColumns}
use Rattle.ts_store.proofs.image.saved_series.sort_each.Given as goal

abbrev pub invariant-loop-series : goal.invariant-loop-series
invariant-loop-series g l = record {
  keys : map saved_key l.all ≡ l.index.series;
  done : AllByRecursion (SavesColumns l.index.columns) (take l.series-index l.all);
  left : AllByRecursion (ListsFirst l.index.columns (length l.index.columns)) (drop l.series-index l.all);
}
