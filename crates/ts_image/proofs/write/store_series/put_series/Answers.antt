use Rattle.std.proofs.Common.{rules, ◌≡◌, ◌∙◌, ◌<◌, length, subst, sym, ap, map}
use Rattle.std.specs.List.{AllByRecursion}
use Rattle.ts_store.specs.image.SavedContent.{SavedColumn}
use Rattle.std.specs.Int.{w64}
use Rattle.ts_image.specs.declared.version.Version.TheVariants.{V2}
use Rattle.ts_image.specs.Images.{image_column}
use Rattle.ts_image.specs.Saving.{image_column_of, image_series_of}
use Rattle.std.proofs.lemmas.Result.{err_from_is_err_and}
use Rattle.ts_image.specs.Formats.{list_of}
use Rattle.ts_image.proofs.Putting.{puts_at, also_puts, also_stops, iso_puts}
use Rattle.ts_image.proofs.write.store_series.put_series.Goals as goal

pub returns-in_err-put_key : goal.returns-in_err-put_key
returns-in_err-put_key g c =
    let ek : c.series.inside.key.now ≡ c.args.series.now.series = search rules in
    let p = err_from_is_err_and c.from_residual.result c.from_residual.ensures.1 in
    rw p.1 ((iso_puts _ _ (image_series_of c.args.store.now c.args.series.now) (also_stops (list_of w64 (image_column V2)) _ _ (puts_at ek c.in_err-put_key.ensures))))

pub returns : goal.returns
returns g c =
    let ek : c.series.inside.key.now ≡ c.args.series.now.series = search rules in
    let ec : c.series.inside.columns.items ≡ c.args.series.now.columns = search rules in
    (iso_puts _ _ (image_series_of c.args.store.now c.args.series.now) (also_puts (puts_at ek c.in_ok-put_key.ensures) (puts_at (ap (map (image_column_of c.args.store.now)) (c.as_slice.ensures.value ∙ ec)) c.put_counted_columns.ensures)))

pub put_counted_columns-requires : goal.put_counted_columns-requires
put_counted_columns-requires g c =
    let ec : c.series.inside.columns.items ≡ c.args.series.now.columns = search rules in
    subst (AllByRecursion (λ (x : SavedColumn). x.number < length c.args.store.now.columns)) (sym (c.as_slice.ensures.value ∙ ec)) c.requires.columns
