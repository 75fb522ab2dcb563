use Rattle.std.proofs.Common.{◌≡◌, map, to_z, w64, ap, ◌∙◌}
use Rattle.std.specs.Prelude.{pos}
use Rattle.std.specs.Int.{w8}
use Rattle.std.proofs.Math.Facts.{to_z_pos}
use Rattle.ts_image.specs.Images.{image_rule}
use Rattle.ts_image.specs.SavedParts.{image_rule_of, image_settings_of}
use Rattle.std.proofs.lemmas.Result.{err_from_is_err_and}
use Rattle.ts_image.specs.Formats.{list_of}
use Rattle.ts_image.proofs.Putting.{puts_at, also_puts, also_stops, iso_puts}
use Rattle.ts_image.proofs.write.settings.put_settings.Goals as goal

pub returns-in_err-put_i64 : goal.returns-in_err-put_i64
returns-in_err-put_i64 g c =
    let i1 : to_z w64 c.raw_duration.result ≡ pos c.args.settings.now.raw_duration = to_z_pos w64 c.raw_duration.ensures.fits ∙ ap pos c.raw_duration.ensures.value in
    let p = err_from_is_err_and c.from_residual.result c.from_residual.ensures.1 in
    rw p.1 ((iso_puts _ _ (image_settings_of c.args.settings.now) (also_stops (list_of w8 image_rule) _ _ (puts_at i1 c.in_err-put_i64.ensures))))

pub returns : goal.returns
returns g c =
    let i1 : to_z w64 c.raw_duration.result ≡ pos c.args.settings.now.raw_duration = to_z_pos w64 c.raw_duration.ensures.fits ∙ ap pos c.raw_duration.ensures.value in
    (iso_puts _ _ (image_settings_of c.args.settings.now) (also_puts (puts_at i1 c.in_ok-put_i64.ensures) (puts_at (ap (map image_rule_of) c.rules.ensures.value) c.put_counted_rules.ensures)))
