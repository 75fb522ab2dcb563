use Rattle.std.proofs.Common.{rules, ◌<◌, ◌^◌, length}
use Rattle.std.proofs.lemmas.Result.{err_from_is_err_and}
use Rattle.ts_image.proofs.Putting.{text_puts, text_stops}
use Rattle.ts_image.proofs.write.fields.put_text.Goals as goal

pub returns-in_err-write_all : goal.returns-in_err-write_all
returns-in_err-write_all g c =
    let p = err_from_is_err_and c.from_residual.result c.from_residual.ensures.1 in
    rw p.1 (text_stops c.args.value.now c.to_be_bytes.result c.args.sink.now c.write_all.new.sink c.args.out.now c.write_all.new.self _ _ c.to_be_bytes.ensures c.in_err-write_all.ensures)

pub returns : goal.returns
returns g c =
    let lt : length c.args.value.now < 2 ^ 64 = search rules in
    text_puts c.args.value.now c.to_be_bytes.result c.as_bytes.result.now c.args.sink.now c.write_all.new.sink c.write_all-2.new.sink c.args.out.now c.write_all.new.self c.write_all-2.new.self c.write_all-2.result c.utf8.value lt c.to_be_bytes.ensures c.as_bytes.ensures.value c.in_ok-write_all.ensures c.write_all-2.ensures
