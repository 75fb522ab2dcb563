use Rattle.std.proofs.Common.{rules, SFits, to_z, of_z, to_z-of_z, ◌≡◌, ◌∙◌, ℤ, refl, ap}
use Rattle.std.specs.Int.{w128, to_be_bytes, cast_unsigned}
use Rattle.ts_image.specs.Formats.{signed_number}
use Rattle.ts_image.proofs.Putting.{put_field}
use Rattle.ts_image.proofs.write.fields.put_i128.Goals as goal

pub returns : goal.returns
returns g c =
    let z = c.args.value.now in
    let f : SFits w128 z = search rules in
    let e : to_z w128 (of_z w128 z) ≡ z = to_z-of_z f in
    put_field (signed_number w128) z (to_be_bytes w128 (cast_unsigned w128 z)) c.to_be_bytes.result c.args.sink.now c.write_all.new.sink c.args.out.now c.write_all.new.self c.write_all.result refl f (c.to_be_bytes.ensures ∙ ap (λ (x : ℤ). to_be_bytes w128 (cast_unsigned w128 x)) e) c.write_all.ensures
