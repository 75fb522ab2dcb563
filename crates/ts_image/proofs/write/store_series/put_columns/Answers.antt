use Rattle.std.proofs.Common.{◌<◌, length}
use Rattle.ts_store.specs.image.SavedContent.{SavedColumn}
use Rattle.ts_image.proofs.Saved.{all_at}
use Rattle.ts_image.specs.Saving.{image_column_of}
use Rattle.ts_image.specs.declared.version.Version.TheVariants.{V2}
use Rattle.ts_image.specs.Images.{image_column}
use Rattle.std.proofs.lemmas.Result.{err_from_is_err_and}
use Rattle.ts_image.proofs.Putting.{loop_more, loop_stops}
use Rattle.ts_image.proofs.write.store_series.put_columns.Goals as goal

pub returns-in_err-put_saved_column : goal.returns-in_err-put_saved_column
returns-in_err-put_saved_column g c =
    let p = err_from_is_err_and c.from_residual.result c.from_residual.ensures.1 in
    rw p.1 (loop_stops (image_column V2) (image_column_of c.args.store.now) c.args.sink.now c.args.out.now c.args.columns.now c.loop-column.column-index c.column-item.result c.loop-column.sink c.put_saved_column.new.sink c.loop-column.out c.put_saved_column.new.out _ _ c.loop-column-test.true c.column-item.is c.loop-column.invariant c.in_err-put_saved_column.ensures)

pub loop-column-preserved : goal.loop-column-preserved
loop-column-preserved g c =
    loop_more (image_column V2) (image_column_of c.args.store.now) c.args.sink.now c.args.out.now c.args.columns.now c.loop-column.column-index c.column-item.result c.loop-column.sink c.put_saved_column.new.sink c.loop-column.out c.put_saved_column.new.out c.loop-column-test.true c.column-item.is c.loop-column.invariant c.in_ok-put_saved_column.ensures

pub put_saved_column-requires : goal.put_saved_column-requires
put_saved_column-requires g c = all_at (λ (x : SavedColumn). x.number < length c.args.store.now.columns) c.args.columns.now c.loop-column.column-index c.column-item.result c.loop-column-test.true c.column-item.is c.requires
