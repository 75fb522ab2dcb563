use Rattle.std.proofs.Common.{rules, ◌≡◌, SFits, to_z, of_z, to_z-of_z, w64, ◌∙◌}
use Rattle.std.proofs.lemmas.Result.{err_from_is_err_and}
use Rattle.ts_image.specs.Formats.{signed_number}
use Rattle.ts_image.proofs.Putting.{puts_at, also_puts, also_stops}
use Rattle.ts_image.proofs.write.cells.put_point.Goals as goal

pub returns-in_err-put_i64 : goal.returns-in_err-put_i64
returns-in_err-put_i64 g c =
    let f : SFits w64 c.nanos.result = search rules in
    let t : to_z w64 (of_z w64 c.nanos.result) ≡ c.args.time = to_z-of_z f ∙ c.nanos.ensures.value in
    let p = err_from_is_err_and c.from_residual.result c.from_residual.ensures.1 in
    rw p.1 ((also_stops (signed_number w64) _ _ (puts_at t c.in_err-put_i64.ensures)))

pub returns : goal.returns
returns g c =
    let f : SFits w64 c.nanos.result = search rules in
    let t : to_z w64 (of_z w64 c.nanos.result) ≡ c.args.time = to_z-of_z f ∙ c.nanos.ensures.value in
    (also_puts (puts_at t c.in_ok-put_i64.ensures) c.put_i64-2.ensures)
