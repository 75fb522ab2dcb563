use Rattle.ts_image.specs.Saving.{HasItsColumns}
use Rattle.ts_image.proofs.Saved.{all_at}
use Rattle.tsdb.proofs.summary.count_waiting.Goals as goal

pub count_waiting_of-requires : goal.count_waiting_of-requires
count_waiting_of-requires c = all_at (HasItsColumns c.args.store.now) c.args.all.now c.loop-series.series-index c.series-item.result c.loop-series-test.true c.series-item.is c.requires
