use Rattle.std.proofs.Common.{◌≡◌, List, map, length, ap, sym, ◌∙◌}
use Rattle.std.specs.Int.{w8, w32, w64}
use Rattle.std.proofs.lemmas.List.{length-map}
use Rattle.std.proofs.lemmas.Result.{err_from_is_err_and}
use Rattle.ts_core.specs.store.Marks.{Marks}
use Rattle.ts_core.specs.io.ReadingAhead.{bit}
use Rattle.ts_core.specs.store.StoreData.{StoreData, store_settings}
use Rattle.ts_image.specs.declared.version.Version.TheVariants.{V2}
use Rattle.ts_image.specs.Formats.{number, also, along, list_of}
use Rattle.ts_image.specs.Images.{ImageRule, image_series, image_cell}
use Rattle.ts_image.specs.SavedParts.{image_rule_of, image_settings_of}
use Rattle.ts_image.specs.Saving.{store_image}
use Rattle.ts_image.proofs.Putting.{puts_at, and_puts, and_stops, also_puts, also_stops, iso_puts}
use Rattle.ts_image.proofs.SavedOf.{after_settings}
use Rattle.ts_image.proofs.Saved.{byte_is}
use Rattle.ts_image.proofs.SavedWholes.{columns_there}
use Rattle.ts_image.proofs.FittingImages.{lows_fit, series_fit, cells_fit}
use Rattle.ts_image.proofs.saving.put_data.Goals as goal

pub returns-in_err-put_settings : goal.returns-in_err-put_settings
returns-in_err-put_settings g c =
    let k : StoreData = c.args.store.now in
    let rs : List ImageRule = map image_rule_of (store_settings k).rules in
    let p = err_from_is_err_and c.from_residual.result c.from_residual.ensures.1 in
    rw p.1 (iso_puts _ _ (store_image k c.args.all.now) (and_stops (after_settings V2) _ _ (puts_at (ap image_settings_of c.settings.ensures.value) c.in_err-put_settings.ensures)))

pub returns-in_err-put_marks : goal.returns-in_err-put_marks
returns-in_err-put_marks g c =
    let k : StoreData = c.args.store.now in
    let rs : List ImageRule = map image_rule_of (store_settings k).rules in
    let same : length c.marks.result.now.lows ≡ length rs = ap (λ (m : Marks). length m.lows) c.marks.ensures.value ∙ c.marks.ensures.lows ∙ sym (length-map (store_settings k).rules image_rule_of) in
    let p = err_from_is_err_and c.from_residual-in_err-put_marks.result c.from_residual-in_err-put_marks.ensures.1 in
    rw p.1 (iso_puts _ _ (store_image k c.args.all.now) (and_puts (after_settings V2) (puts_at (ap image_settings_of c.settings.ensures.value) c.in_ok-put_settings.ensures) (also_stops (also (number w8) (also (number w64) (also (list_of w32 (image_series V2)) (along (λ (r : ImageRule). list_of w64 (image_cell r)) rs)))) _ _ (puts_at c.marks.ensures.value (c.in_err-put_marks.ensures rs same)))))

pub returns-in_err-put_u8 : goal.returns-in_err-put_u8
returns-in_err-put_u8 g c =
    let k : StoreData = c.args.store.now in
    let rs : List ImageRule = map image_rule_of (store_settings k).rules in
    let same : length c.marks.result.now.lows ≡ length rs = ap (λ (m : Marks). length m.lows) c.marks.ensures.value ∙ c.marks.ensures.lows ∙ sym (length-map (store_settings k).rules image_rule_of) in
    let run : c.from.result ≡ bit k.running = c.from.ensures ∙ byte_is c.run_in_progress.result ∙ ap bit c.run_in_progress.ensures in
    let p = err_from_is_err_and c.from_residual-in_err-put_u8.result c.from_residual-in_err-put_u8.ensures.1 in
    rw p.1 (iso_puts _ _ (store_image k c.args.all.now) (and_puts (after_settings V2) (puts_at (ap image_settings_of c.settings.ensures.value) c.in_ok-put_settings.ensures) (also_puts (puts_at c.marks.ensures.value (c.in_ok-put_marks.ensures rs same)) (also_stops (also (number w64) (also (list_of w32 (image_series V2)) (along (λ (r : ImageRule). list_of w64 (image_cell r)) rs))) _ _ (puts_at run c.in_err-put_u8.ensures)))))

pub returns-in_err-put_u64 : goal.returns-in_err-put_u64
returns-in_err-put_u64 g c =
    let k : StoreData = c.args.store.now in
    let rs : List ImageRule = map image_rule_of (store_settings k).rules in
    let same : length c.marks.result.now.lows ≡ length rs = ap (λ (m : Marks). length m.lows) c.marks.ensures.value ∙ c.marks.ensures.lows ∙ sym (length-map (store_settings k).rules image_rule_of) in
    let run : c.from.result ≡ bit k.running = c.from.ensures ∙ byte_is c.run_in_progress.result ∙ ap bit c.run_in_progress.ensures in
    let p = err_from_is_err_and c.from_residual-in_err-put_u64.result c.from_residual-in_err-put_u64.ensures.1 in
    rw p.1 (iso_puts _ _ (store_image k c.args.all.now) (and_puts (after_settings V2) (puts_at (ap image_settings_of c.settings.ensures.value) c.in_ok-put_settings.ensures) (also_puts (puts_at c.marks.ensures.value (c.in_ok-put_marks.ensures rs same)) (also_puts (puts_at run c.in_ok-put_u8.ensures) (also_stops (also (list_of w32 (image_series V2)) (along (λ (r : ImageRule). list_of w64 (image_cell r)) rs)) _ _ (puts_at c.accepted.ensures.value c.in_err-put_u64.ensures))))))

pub returns-in_err-put_counted_series : goal.returns-in_err-put_counted_series
returns-in_err-put_counted_series g c =
    let k : StoreData = c.args.store.now in
    let rs : List ImageRule = map image_rule_of (store_settings k).rules in
    let same : length c.marks.result.now.lows ≡ length rs = ap (λ (m : Marks). length m.lows) c.marks.ensures.value ∙ c.marks.ensures.lows ∙ sym (length-map (store_settings k).rules image_rule_of) in
    let run : c.from.result ≡ bit k.running = c.from.ensures ∙ byte_is c.run_in_progress.result ∙ ap bit c.run_in_progress.ensures in
    let p = err_from_is_err_and c.from_residual-in_err-put_counted_series.result c.from_residual-in_err-put_counted_series.ensures.1 in
    rw p.1 (iso_puts _ _ (store_image k c.args.all.now) (and_puts (after_settings V2) (puts_at (ap image_settings_of c.settings.ensures.value) c.in_ok-put_settings.ensures) (also_puts (puts_at c.marks.ensures.value (c.in_ok-put_marks.ensures rs same)) (also_puts (puts_at run c.in_ok-put_u8.ensures) (also_puts (puts_at c.accepted.ensures.value c.in_ok-put_u64.ensures) (also_stops (along (λ (r : ImageRule). list_of w64 (image_cell r)) rs) _ _ c.in_err-put_counted_series.ensures))))))

pub returns : goal.returns
returns g c =
    let k : StoreData = c.args.store.now in
    let rs : List ImageRule = map image_rule_of (store_settings k).rules in
    let same : length c.marks.result.now.lows ≡ length rs = ap (λ (m : Marks). length m.lows) c.marks.ensures.value ∙ c.marks.ensures.lows ∙ sym (length-map (store_settings k).rules image_rule_of) in
    let run : c.from.result ≡ bit k.running = c.from.ensures ∙ byte_is c.run_in_progress.result ∙ ap bit c.run_in_progress.ensures in
    iso_puts _ _ (store_image k c.args.all.now) (and_puts (after_settings V2) (puts_at (ap image_settings_of c.settings.ensures.value) c.in_ok-put_settings.ensures) (also_puts (puts_at c.marks.ensures.value (c.in_ok-put_marks.ensures rs same)) (also_puts (puts_at run c.in_ok-put_u8.ensures) (also_puts (puts_at c.accepted.ensures.value c.in_ok-put_u64.ensures) (also_puts c.in_ok-put_counted_series.ensures c.put_all_cells.ensures)))))

pub put_marks-requires : goal.put_marks-requires
put_marks-requires g c = let a = c.laws.ensures in rw c.marks.ensures.value (lows_fit c.args.store.now a.sized a.rules a.mark)

pub put_counted_series-requires : goal.put_counted_series-requires
put_counted_series-requires g c =
    let k : StoreData = c.args.store.now in
    record { series = series_fit k c.args.all.now c.laws.ensures.sized c.requires.order; columns = columns_there k c.args.all.now c.requires.order }

pub put_all_cells-requires : goal.put_all_cells-requires
put_all_cells-requires g c =
    let k : StoreData = c.args.store.now in
    let a = c.laws.ensures in
    record { counts = c.requires.counts; fit = cells_fit k a.sized a.rules a.possible }
