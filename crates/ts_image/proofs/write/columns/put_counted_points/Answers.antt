use Rattle.std.specs.Int.{w64}
use Rattle.ts_image.specs.Images.{image_point}
use Rattle.std.proofs.lemmas.Result.{err_from_is_err_and}
use Rattle.ts_image.proofs.Putting.{puts_at, list_puts, list_stops}
use Rattle.ts_image.proofs.write.columns.put_counted_points.Goals as goal

pub returns-in_err-put_u64 : goal.returns-in_err-put_u64
returns-in_err-put_u64 g c =
    let p = err_from_is_err_and c.from_residual.result c.from_residual.ensures.1 in
    rw p.1 (list_stops w64 image_point c.args.points _ (puts_at c.len.ensures c.in_err-put_u64.ensures))

pub returns : goal.returns
returns g c = list_puts w64 image_point (puts_at c.len.ensures c.in_ok-put_u64.ensures) c.put_points.ensures
