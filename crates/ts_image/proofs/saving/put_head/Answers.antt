use Rattle.std.proofs.Common.{[], ◌∷◌}
use Rattle.std.proofs.lemmas.Result.{err_from_is_err_and}
use Rattle.ts_core.proofs.io.OutputBufferLemmas.{puts_join, refused_part}
use Rattle.ts_image.specs.Images.{image_mark}
use Rattle.ts_image.proofs.saving.put_head.Goals as goal

pub returns-in_err-write_all : goal.returns-in_err-write_all
returns-in_err-write_all g c =
    let p = err_from_is_err_and c.from_residual.result c.from_residual.ensures.1 in
    rw p.1 (refused_part c.args.sink.now c.write_all.new.sink c.args.out.now c.write_all.new.self _ _ image_mark (2 ∷ []) c.in_err-write_all.ensures)

pub returns : goal.returns
returns g c = puts_join c.args.sink.now c.write_all.new.sink c.put_u8.new.sink c.args.out.now c.write_all.new.self c.put_u8.new.out c.put_u8.result image_mark (2 ∷ []) c.in_ok-write_all.ensures c.put_u8.ensures.sent
