use Rattle.std.proofs.Common.{map}
use Rattle.std.specs.Prelude.{string_bytes}
use Rattle.std.specs.Int.{w64, w128}
use Rattle.std.proofs.lemmas.Result.{err_from_is_err_and}
use Rattle.ts_image.specs.Formats.{number, signed_number, also}
use Rattle.ts_image.specs.Images.{ImageCell, image_extremes}
use Rattle.ts_image.specs.SavedParts.{image_cell_with}
use Rattle.ts_image.proofs.Putting.{also_puts, also_stops, iso_puts}
use Rattle.ts_image.proofs.write.cells.put_cell.Goals as goal

pub returns-in_err-put_cell_key : goal.returns-in_err-put_cell_key
returns-in_err-put_cell_key g c = λ r same.
    let k : ImageCell = image_cell_with (record { index = c.args.index.now; field = c.args.field.now; group = map string_bytes c.args.group.now }) c.args.frozen.now in
    let p = err_from_is_err_and c.from_residual.result c.from_residual.ensures.1 in
    rw p.1 (iso_puts _ _ k (also_stops (also (number w64) (also (signed_number w128) image_extremes)) _ _ (c.in_err-put_cell_key.ensures r same)))

pub returns : goal.returns
returns g c = λ r same.
    let k : ImageCell = image_cell_with (record { index = c.args.index.now; field = c.args.field.now; group = map string_bytes c.args.group.now }) c.args.frozen.now in
    iso_puts _ _ k (also_puts (c.in_ok-put_cell_key.ensures r same) c.put_some_part.ensures)
