use Rattle.std.proofs.Common.{map, sym}
use Rattle.std.specs.Int.{w32}
use Rattle.std.proofs.lemmas.List.{length-map}
use Rattle.ts_image.specs.declared.version.Version.TheVariants.{V2}
use Rattle.ts_image.specs.Images.{image_series}
use Rattle.ts_image.specs.Saving.{image_series_of}
use Rattle.std.proofs.lemmas.Result.{err_from_is_err_and}
use Rattle.ts_image.proofs.Putting.{puts_at, list_puts, list_stops}
use Rattle.ts_image.proofs.write.store_series.put_counted_series.Goals as goal

pub returns-in_err-put_u32 : goal.returns-in_err-put_u32
returns-in_err-put_u32 g c =
    let p = err_from_is_err_and c.from_residual.result c.from_residual.ensures.1 in
    rw p.1 (list_stops w32 (image_series V2) (map (image_series_of c.args.store.now) c.args.all.now) _ (puts_at (sym (length-map c.args.all.now (image_series_of c.args.store.now))) c.in_err-put_u32.ensures))

pub returns : goal.returns
returns g c = list_puts w32 (image_series V2) (puts_at (sym (length-map c.args.all.now (image_series_of c.args.store.now))) c.in_ok-put_u32.ensures) c.put_all_series.ensures
