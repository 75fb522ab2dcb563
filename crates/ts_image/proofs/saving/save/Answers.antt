use Rattle.std.proofs.Common.{List, ap, subst, ◌∙◌, Err}
use Rattle.std.proofs.lemmas.Result.{err_from_is_err_and}
use Rattle.ts_core.specs.io.Devices.{IsPut}
use Rattle.ts_core.proofs.io.OutputBufferLemmas.{done, refused}
use Rattle.ts_core.specs.store.StoreData.{StoreData}
use Rattle.ts_image.specs.declared.version.Version.TheVariants.{V2}
use Rattle.ts_image.specs.Images.{image, image_text}
use Rattle.ts_store.specs.image.SavedContent.{SavedSeries}
use Rattle.ts_image.specs.Saving.{store_image}
use Rattle.ts_image.proofs.SavedWholes.{is_cut, is_saved}
use Rattle.ts_image.proofs.saving.save.Goals as goal

pub put_image-requires-clause-order : goal.put_image-requires-clause-order
put_image-requires-clause-order g c = rw c.as_slice.ensures.value c.in_ok-all.ensures

pub put_image-requires-clause-counts : goal.put_image-requires-clause-counts
put_image-requires-clause-counts g c = c.as_slice-2.ensures.value ∙ c.in_ok-counts.ensures

pub returns-in_err-put_image : goal.returns-in_err-put_image
returns-in_err-put_image g c =
    let k : StoreData = c.args.store.now in
    let p = err_from_is_err_and c.from_residual-in_err-put_image.result c.from_residual-in_err-put_image.ensures.1 in
    is_cut k c.args.sink.now c.from_residual-in_err-put_image.result _ c.put_image.new.sink c.in_ok-all.all.items (p.1 ∙ ap (λ e. Err e) p.2) c.in_ok-all.ensures
    (subst (λ (xs : List SavedSeries). IsPut c.args.sink.now (refused c.in_err-put_image.field-0.0) (image_text V2 (store_image k xs)) c.put_image.new.sink) c.as_slice.ensures.value c.in_err-put_image.ensures.sent)

pub returns : goal.returns
returns g c =
    let k : StoreData = c.args.store.now in
    is_saved k c.args.sink.now tt c.put_image.new.sink c.in_ok-all.all.items c.in_ok-all.ensures
    (subst (λ (xs : List SavedSeries). (image V2).fits (store_image k xs)) c.as_slice.ensures.value c.in_ok-put_image.ensures.fits)
    (subst (λ (xs : List SavedSeries). IsPut c.args.sink.now done (image_text V2 (store_image k xs)) c.put_image.new.sink) c.as_slice.ensures.value c.in_ok-put_image.ensures.sent)
