use Rattle.std.proofs.Common.{rules, ◌≡◌, ◌∙◌, ℤ, SFits, to_z, of_z, to_z-of_z, w64, ap}
use Rattle.std.specs.Int.{w128}
use Rattle.ts_image.proofs.Putting.{puts_at}
use Rattle.ts_image.proofs.write.fields.put_index.Goals as goal

pub returns : goal.returns
returns g c =
    let z : ℤ = c.args.index.now in
    let f : SFits w128 z = search rules in
    let e : to_z w128 (of_z w128 z) ≡ z = to_z-of_z f in
    puts_at (ap (λ (x : ℤ). to_z w64 (of_z w64 x)) e ∙ to_z-of_z c.requires) c.put_i64.ensures
