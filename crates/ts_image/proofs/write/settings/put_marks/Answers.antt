use Rattle.std.proofs.Common.{◌≡◌, ap, ◌∙◌, length, to_z, of_z, to_z-of_z, SFits}
use Rattle.std.specs.Int.{w64}
use Rattle.std.proofs.lemmas.Result.{err_from_is_err_and}
use Rattle.ts_image.specs.Images.{ImageRule}
use Rattle.ts_image.specs.Formats.{signed_number, along}
use Rattle.ts_image.proofs.Putting.{puts_at, also_puts, also_stops, iso_puts, along_puts}
use Rattle.ts_image.proofs.write.settings.put_marks.Goals as goal

pub put_lows-requires : goal.put_lows-requires
put_lows-requires g c = rw c.lows.ensures c.requires

pub returns-in_err-put_i64 : goal.returns-in_err-put_i64
returns-in_err-put_i64 g c = λ rules same.
    let f : SFits w64 c.nanos.result = search rules in
    let e : to_z w64 (of_z w64 c.nanos.result) ≡ c.args.marks.now.raw = to_z-of_z f ∙ c.nanos.ensures.value ∙ c.raw.ensures in
    let p = err_from_is_err_and c.from_residual.result c.from_residual.ensures.1 in
    rw p.1 (iso_puts _ _ c.args.marks.now (also_stops (along (λ (r : ImageRule). signed_number w64) rules) _ _ (puts_at e c.in_err-put_i64.ensures)))

pub returns : goal.returns
returns g c = λ rules same.
    let f : SFits w64 c.nanos.result = search rules in
    let e : to_z w64 (of_z w64 c.nanos.result) ≡ c.args.marks.now.raw = to_z-of_z f ∙ c.nanos.ensures.value ∙ c.raw.ensures in
    iso_puts _ _ c.args.marks.now (also_puts (puts_at e c.in_ok-put_i64.ensures) (puts_at c.lows.ensures (along_puts (signed_number w64) rules c.lows.result.now _ _ _ _ _ (ap length c.lows.ensures ∙ same) c.put_lows.ensures)))
