use Rattle.std.proofs.Common.{◌<◌, length}
use Rattle.ts_store.specs.image.SavedContent.{SavedSeries}
use Rattle.ts_image.specs.Saving.{HasItsColumns}
use Rattle.ts_image.proofs.Saved.{all_at}
use Rattle.ts_image.specs.Saving.{image_series_of}
use Rattle.ts_image.specs.declared.version.Version.TheVariants.{V2}
use Rattle.ts_image.specs.Images.{image_series}
use Rattle.std.proofs.lemmas.Result.{err_from_is_err_and}
use Rattle.ts_image.proofs.Putting.{loop_more, loop_stops}
use Rattle.ts_image.proofs.write.store_series.put_all_series.Goals as goal

pub returns-in_err-put_series : goal.returns-in_err-put_series
returns-in_err-put_series g c =
    let p = err_from_is_err_and c.from_residual.result c.from_residual.ensures.1 in
    rw p.1 (loop_stops (image_series V2) (image_series_of c.args.store.now) c.args.sink.now c.args.out.now c.args.all.now c.loop-series.series-index c.series-item.result c.loop-series.sink c.put_series.new.sink c.loop-series.out c.put_series.new.out _ _ c.loop-series-test.true c.series-item.is c.loop-series.invariant c.in_err-put_series.ensures)

pub loop-series-preserved : goal.loop-series-preserved
loop-series-preserved g c =
    loop_more (image_series V2) (image_series_of c.args.store.now) c.args.sink.now c.args.out.now c.args.all.now c.loop-series.series-index c.series-item.result c.loop-series.sink c.put_series.new.sink c.loop-series.out c.put_series.new.out c.loop-series-test.true c.series-item.is c.loop-series.invariant c.in_ok-put_series.ensures

pub put_series-requires : goal.put_series-requires
put_series-requires g c = record {
  tags = all_at (λ (x : SavedSeries). length x.series.tags < 256) c.args.all.now c.loop-series.series-index c.series-item.result c.loop-series-test.true c.series-item.is c.requires.tags;
  columns = all_at (HasItsColumns c.args.store.now) c.args.all.now c.loop-series.series-index c.series-item.result c.loop-series-test.true c.series-item.is c.requires.columns;
}
