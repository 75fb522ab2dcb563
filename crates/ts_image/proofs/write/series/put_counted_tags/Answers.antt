use Rattle.std.proofs.Common.{map, sym}
use Rattle.std.specs.Int.{w8}
use Rattle.std.proofs.lemmas.List.{length-map}
use Rattle.ts_image.specs.SeriesParts.{tag_of}
use Rattle.ts_image.proofs.Saved.{owned_is}
use Rattle.std.proofs.lemmas.Result.{err_from_is_err_and}
use Rattle.ts_image.specs.Formats.{text, also}
use Rattle.ts_image.proofs.Putting.{puts_at, list_puts, list_stops}
use Rattle.ts_image.proofs.write.series.put_counted_tags.Goals as goal

pub returns-in_err-put_u8 : goal.returns-in_err-put_u8
returns-in_err-put_u8 g c =
    let p = err_from_is_err_and c.from_residual.result c.from_residual.ensures.1 in
    rw p.1 (puts_at (owned_is c.args.tags.now) (list_stops w8 (also text text) (map tag_of c.args.tags.now) _ (puts_at (sym (length-map c.args.tags.now tag_of)) c.in_err-put_u8.ensures)))

pub returns : goal.returns
returns g c = puts_at (owned_is c.args.tags.now) (list_puts w8 (also text text) (puts_at (sym (length-map c.args.tags.now tag_of)) c.in_ok-put_u8.ensures) c.put_tags.ensures)
