use Rattle.std.proofs.Common.{map, sym}
use Rattle.std.specs.Int.{w64}
use Rattle.std.proofs.lemmas.List.{length-map}
use Rattle.ts_image.specs.declared.version.Version.TheVariants.{V2}
use Rattle.ts_image.specs.Images.{image_column}
use Rattle.ts_image.specs.Saving.{image_column_of}
use Rattle.std.proofs.lemmas.Result.{err_from_is_err_and}
use Rattle.ts_image.proofs.Putting.{puts_at, list_puts, list_stops}
use Rattle.ts_image.proofs.write.store_series.put_counted_columns.Goals as goal

pub returns-in_err-put_u64 : goal.returns-in_err-put_u64
returns-in_err-put_u64 g c =
    let p = err_from_is_err_and c.from_residual.result c.from_residual.ensures.1 in
    rw p.1 (list_stops w64 (image_column V2) (map (image_column_of c.args.store.now) c.args.columns.now) _ (puts_at (sym (length-map c.args.columns.now (image_column_of c.args.store.now))) c.in_err-put_u64.ensures))

pub returns : goal.returns
returns g c = list_puts w64 (image_column V2) (puts_at (sym (length-map c.args.columns.now (image_column_of c.args.store.now))) c.in_ok-put_u64.ensures) c.put_columns.ensures
