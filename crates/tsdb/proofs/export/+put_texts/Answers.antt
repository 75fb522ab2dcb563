use Rattle.std.proofs.lemmas.Result.{err_from_is_err_and}
use Rattle.ts_core.proofs.io.OutputBufferLemmas.{puts_join, refused_part}
use Rattle.ts_core.specs.text.FaultTexts.{parts_joined}
use Rattle.tsdb.proofs.export.+put_texts.Goals as goal

pub returns-in_err-write_all-in-Some : goal.returns-in_err-write_all-in-Some
returns-in_err-write_all-in-Some g t c =
    let p = err_from_is_err_and c.from_residual.result c.from_residual.ensures.1 in
    rw (p.1, c.in-Some.ensures.cases.0) (refused_part c.args.sink.now c.write_all.new.sink c.args.out.now c.write_all.new.self _ _ c.in-Some.first.now.now (parts_joined c.in-Some.others.now) c.in_err-write_all-in-Some.ensures)

pub returns-in_ok-write_all-in-Some : goal.returns-in_ok-write_all-in-Some
returns-in_ok-write_all-in-Some g t c =
    rw c.in-Some.ensures.cases.0 (puts_join c.args.sink.now c.write_all.new.sink c.put_texts.new.sink c.args.out.now c.write_all.new.self c.put_texts.new.out c.put_texts.result c.in-Some.first.now.now (parts_joined c.in-Some.others.now) c.in_ok-write_all-in-Some.ensures c.put_texts.ensures)
