use Rattle.std.proofs.Common.{map, sym}
use Rattle.std.specs.Int.{w8}
use Rattle.std.proofs.lemmas.List.{length-map}
use Rattle.std.specs.Prelude.{string_bytes}
use Rattle.std.proofs.lemmas.Result.{err_from_is_err_and}
use Rattle.ts_image.specs.Formats.{text}
use Rattle.ts_image.proofs.Putting.{puts_at, list_puts, list_stops}
use Rattle.ts_image.proofs.write.settings.put_counted_strings.Goals as goal

pub returns-in_err-put_u8 : goal.returns-in_err-put_u8
returns-in_err-put_u8 g c =
    let p = err_from_is_err_and c.from_residual.result c.from_residual.ensures.1 in
    rw p.1 (list_stops w8 text (map string_bytes c.args.texts.now) _ (puts_at (sym (length-map c.args.texts.now string_bytes)) c.in_err-put_u8.ensures))

pub returns : goal.returns
returns g c = list_puts w8 text (puts_at (sym (length-map c.args.texts.now string_bytes)) c.in_ok-put_u8.ensures) c.put_strings.ensures
