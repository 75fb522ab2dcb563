use Rattle.std.specs.Int.{w64}
use Rattle.ts_image.specs.Images.{image_point}
use Rattle.std.proofs.lemmas.Result.{err_from_is_err_and}
use Rattle.ts_image.specs.Formats.{signed_number, also}
use Rattle.ts_image.proofs.Putting.{also_puts, also_stops, iso_puts}
use Rattle.ts_image.proofs.write.cells.put_extremes.Goals as goal

pub returns-in_err-put_i64 : goal.returns-in_err-put_i64
returns-in_err-put_i64 g c =
    let p = err_from_is_err_and c.from_residual.result c.from_residual.ensures.1 in
    rw p.1 ((iso_puts _ _ c.args.extremes.now (also_stops (also (signed_number w64) (also image_point image_point)) _ _ c.in_err-put_i64.ensures)))

pub returns-in_err-put_i64-2 : goal.returns-in_err-put_i64-2
returns-in_err-put_i64-2 g c =
    let p = err_from_is_err_and c.from_residual-in_err-put_i64-2.result c.from_residual-in_err-put_i64-2.ensures.1 in
    rw p.1 ((iso_puts _ _ c.args.extremes.now (also_puts c.in_ok-put_i64.ensures (also_stops (also image_point image_point) _ _ c.in_err-put_i64-2.ensures))))

pub returns-in_err-put_point : goal.returns-in_err-put_point
returns-in_err-put_point g c =
    let p = err_from_is_err_and c.from_residual-in_err-put_point.result c.from_residual-in_err-put_point.ensures.1 in
    rw p.1 ((iso_puts _ _ c.args.extremes.now (also_puts c.in_ok-put_i64.ensures (also_puts c.in_ok-put_i64-2.ensures (also_stops image_point _ _ c.in_err-put_point.ensures)))))

pub returns : goal.returns
returns g c =
    (iso_puts _ _ c.args.extremes.now (also_puts c.in_ok-put_i64.ensures (also_puts c.in_ok-put_i64-2.ensures (also_puts c.in_ok-put_point.ensures c.put_point-2.ensures))))
