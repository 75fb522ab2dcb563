use Rattle.std.proofs.Common.{rules, ◌≡◌, SFits, to_z, of_z, to_z-of_z, ◌∙◌}
use Rattle.std.specs.Int.{w128}
use Rattle.ts_image.specs.Images.{image_extremes}
use Rattle.std.proofs.lemmas.Result.{err_from_is_err_and}
use Rattle.ts_image.specs.Formats.{signed_number, also}
use Rattle.ts_image.proofs.Putting.{puts_at, also_puts, also_stops}
use Rattle.ts_image.proofs.write.cells.put_part.Goals as goal

pub returns-in_err-put_u64 : goal.returns-in_err-put_u64
returns-in_err-put_u64 g c =
    let p = err_from_is_err_and c.from_residual.result c.from_residual.ensures.1 in
    rw p.1 ((also_stops (also (signed_number w128) image_extremes) _ _ (puts_at c.count.ensures c.in_err-put_u64.ensures)))

pub returns-in_err-put_i128 : goal.returns-in_err-put_i128
returns-in_err-put_i128 g c =
    let f : SFits w128 c.sum.result = search rules in
    let s : to_z w128 (of_z w128 c.sum.result) ≡ c.args.part.now.sum = to_z-of_z f ∙ c.sum.ensures.value in
    let p = err_from_is_err_and c.from_residual-in_err-put_i128.result c.from_residual-in_err-put_i128.ensures.1 in
    rw p.1 ((also_puts (puts_at c.count.ensures c.in_ok-put_u64.ensures) (also_stops image_extremes _ _ (puts_at s c.in_err-put_i128.ensures))))

pub returns : goal.returns
returns g c =
    let f : SFits w128 c.sum.result = search rules in
    let s : to_z w128 (of_z w128 c.sum.result) ≡ c.args.part.now.sum = to_z-of_z f ∙ c.sum.ensures.value in
    (also_puts (puts_at c.count.ensures c.in_ok-put_u64.ensures) (also_puts (puts_at s c.in_ok-put_i128.ensures) c.put_extremes.ensures))
