use Rattle.std.proofs.Common.{ap, sym, subst, ◌∙◌, List, map, arith}
use Rattle.std.specs.List.{AllByRecursion}
use Rattle.ts_store.specs.image.ColumnsListed.{ListsFirst}
use Rattle.ts_store.specs.image.SavedContent.{SavedSeries, saved_key}
use Rattle.ts_store.proofs.image.ListedColumns.{keys_bare, lists_bare, list_step}
use Rattle.ts_store.proofs.image.saved_series.list_columns.Goals as goal

pub loop-number-init : goal.loop-number-init
loop-number-init g c = record {
  keys = ap (map saved_key) c.requires ∙ keys_bare c.args.index.now.series;
  lists = subst (λ (xs : List SavedSeries). AllByRecursion (ListsFirst c.args.index.now.columns 0) xs) (sym c.requires) (lists_bare c.args.index.now.columns c.args.index.now.series);
}

pub loop-number-preserved : goal.loop-number-preserved
loop-number-preserved g c =
    list_step c.args.index.now c.loop-number.number c.loop-number.all.items c.series_of-series.result c.in_ok-id.id c.number.result c.index_mut.result.now c.push.new.self c.saved_column.result
    c.column_count-number-end.ensures.sound.series_once c.column_count-number-end.ensures.sound.columns_once (let end = c.column_count-number-end.ensures.value in omega (arith, end)) c.in_ok-id.ensures
    c.series_of-series.ensures.names c.saved_column.ensures.field c.saved_column.ensures.number c.number.ensures c.index_mut.ensures.value c.in_ok-push.ensures c.loop-number.invariant
