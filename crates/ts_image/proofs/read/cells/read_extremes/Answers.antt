use Rattle.std.proofs.Common.{rules, ◌≡◌, ℤ, SFits, to_z, of_z, to_z-of_z, refl, w64}
use Rattle.ts_image.specs.Formats.{signed_number, also}
use Rattle.ts_image.specs.Images.{image_point}
use Rattle.ts_image.specs.PointParts.{point_of}
use Rattle.ts_image.specs.CellParts.{extremes_of_parts}
use Rattle.ts_image.proofs.Together.{also_reads, iso_reads}
use Rattle.ts_image.proofs.read.cells.read_extremes.Goals as goal

abbrev as_it_is : ℤ → ℤ
as_it_is z = z

pub returns : goal.returns
returns g c =
    let f1 : SFits w64 c.in_ok-min.min = search rules in
    let f2 : SFits w64 c.in_ok-max.max = search rules in
    let e1 : to_z w64 (of_z w64 c.in_ok-min.min) ≡ c.in_ok-min.min = to_z-of_z f1 in
    let e2 : to_z w64 (of_z w64 c.in_ok-max.max) ≡ c.in_ok-max.max = to_z-of_z f2 in
    rw (e1, e2)
    (iso_reads _ _ _ _ extremes_of_parts c.args.reader.now c.read_point-2.new.reader c.args.source.now c.read_point-2.new.source _ _ refl
    (also_reads (signed_number w64) (also (signed_number w64) (also image_point image_point)) as_it_is _ _ _ _ _ _ _ c.in_ok-min.min _ c.in_ok-min.ensures
    (also_reads (signed_number w64) (also image_point image_point) as_it_is _ _ _ _ _ _ _ c.in_ok-max.max _ c.in_ok-max.ensures
    (also_reads image_point image_point point_of point_of _ _ _ _ _ _ c.in_ok-first.first c.in_ok-last.last c.in_ok-first.ensures c.in_ok-last.ensures))))
