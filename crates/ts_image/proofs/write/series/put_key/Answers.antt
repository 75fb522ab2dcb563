use Rattle.std.specs.Int.{w8}
use Rattle.ts_image.proofs.Saved.{length-owned}
use Rattle.std.proofs.lemmas.Result.{err_from_is_err_and}
use Rattle.ts_image.specs.Formats.{text, also, list_of}
use Rattle.ts_image.proofs.Putting.{puts_at, also_puts, also_stops, iso_puts}
use Rattle.ts_image.proofs.write.series.put_key.Goals as goal

pub put_counted_tags-requires : goal.put_counted_tags-requires
put_counted_tags-requires g c = rw (length-owned c.tags.result.now, c.tags.ensures.value) c.requires

pub returns-in_err-put_text : goal.returns-in_err-put_text
returns-in_err-put_text g c =
    let p = err_from_is_err_and c.from_residual.result c.from_residual.ensures.1 in
    rw p.1 ((iso_puts _ _ c.args.key.now (also_stops (list_of w8 (also text text)) _ _ (puts_at c.measurement.ensures c.in_err-put_text.ensures))))

pub returns : goal.returns
returns g c =
    (iso_puts _ _ c.args.key.now (also_puts (puts_at c.measurement.ensures c.in_ok-put_text.ensures) (puts_at c.tags.ensures.value c.put_counted_tags.ensures)))
