use Rattle.std.proofs.lemmas.Result.{err_from_is_err_and}
use Rattle.ts_image.specs.Formats.{text}
use Rattle.ts_image.proofs.Putting.{puts_at, also_puts, also_stops}
use Rattle.ts_image.proofs.write.series.put_tag.Goals as goal

pub returns-in_err-put_text : goal.returns-in_err-put_text
returns-in_err-put_text g c =
    let p = err_from_is_err_and c.from_residual.result c.from_residual.ensures.1 in
    rw p.1 ((also_stops text _ _ (puts_at c.as_str.ensures.value c.in_err-put_text.ensures)))

pub returns : goal.returns
returns g c =
    (also_puts (puts_at c.as_str.ensures.value c.in_ok-put_text.ensures) (puts_at c.as_str-2.ensures.value c.put_text-2.ensures))
