use Rattle.std.specs.Prelude.{string_bytes}
use Rattle.std.proofs.lemmas.Result.{err_from_is_err_and}
use Rattle.ts_image.specs.Formats.{text}
use Rattle.ts_image.proofs.Putting.{puts_at, loop_more, loop_stops}
use Rattle.ts_image.proofs.write.fields.put_strings.Goals as goal

pub returns-in_err-put_text : goal.returns-in_err-put_text
returns-in_err-put_text g c =
    let p = err_from_is_err_and c.from_residual.result c.from_residual.ensures.1 in
    rw p.1 (loop_stops text string_bytes c.args.sink.now c.args.out.now c.args.texts.now c.loop-text.text-index c.text-item.result c.loop-text.sink c.put_text.new.sink c.loop-text.out c.put_text.new.out _ _ c.loop-text-test.true c.text-item.is c.loop-text.invariant (puts_at c.as_str.ensures.value c.in_err-put_text.ensures))

pub loop-text-preserved : goal.loop-text-preserved
loop-text-preserved g c =
    loop_more text string_bytes c.args.sink.now c.args.out.now c.args.texts.now c.loop-text.text-index c.text-item.result c.loop-text.sink c.put_text.new.sink c.loop-text.out c.put_text.new.out c.loop-text-test.true c.text-item.is c.loop-text.invariant (puts_at c.as_str.ensures.value c.in_ok-put_text.ensures)
