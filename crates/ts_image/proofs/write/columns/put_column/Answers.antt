use Rattle.std.proofs.Common.{◌∙◌}
use Rattle.ts_image.proofs.Saved.{byte_is}
use Rattle.std.specs.Int.{w8, w64}
use Rattle.ts_core.specs.io.ReadingAhead.{bit}
use Rattle.ts_image.specs.Images.{ImageColumn, image_point}
use Rattle.std.proofs.lemmas.Result.{err_from_is_err_and}
use Rattle.ts_image.specs.Formats.{number, also, list_of}
use Rattle.ts_image.proofs.Putting.{puts_at, also_puts, also_stops, iso_puts}
use Rattle.ts_image.proofs.write.columns.put_column.Goals as goal

pub returns-in_err-put_text : goal.returns-in_err-put_text
returns-in_err-put_text g c =
    let k : ImageColumn = record { field = c.args.field.now; waits = bit c.args.waits; points = c.args.points } in
    let p = err_from_is_err_and c.from_residual.result c.from_residual.ensures.1 in
    rw p.1 ((iso_puts _ _ k (also_stops (also (number w8) (list_of w64 image_point)) _ _ c.in_err-put_text.ensures)))

pub returns-in_err-put_u8 : goal.returns-in_err-put_u8
returns-in_err-put_u8 g c =
    let k : ImageColumn = record { field = c.args.field.now; waits = bit c.args.waits; points = c.args.points } in
    let p = err_from_is_err_and c.from_residual-in_err-put_u8.result c.from_residual-in_err-put_u8.ensures.1 in
    rw p.1 ((iso_puts _ _ k (also_puts c.in_ok-put_text.ensures (also_stops (list_of w64 image_point) _ _ (puts_at (c.from.ensures ∙ byte_is c.args.waits) c.in_err-put_u8.ensures)))))

pub returns : goal.returns
returns g c =
    let k : ImageColumn = record { field = c.args.field.now; waits = bit c.args.waits; points = c.args.points } in
    (iso_puts _ _ k (also_puts c.in_ok-put_text.ensures (also_puts (puts_at (c.from.ensures ∙ byte_is c.args.waits) c.in_ok-put_u8.ensures) c.put_counted_points.ensures)))
