use Rattle.ts_store.proofs.image.ListedColumns.{series_saved}
use Rattle.ts_store.proofs.image.saved_series.sort_all.Goals as goal

pub returns : goal.returns
returns g c =
    series_saved c.args.index.now.series c.args.index.now.columns c.sort_each.new.all c.sort_by_key.new.all c.requires.once c.sort_each.ensures.keys c.sort_each.ensures.columns c.sort_by_key.ensures.permutation c.sort_by_key.ensures.sorted
