use Rattle.std.proofs.Common.{ℕ, ℤ, List, refl}
use Rattle.std.specs.Prelude.{string_bytes}
use Rattle.std.specs.Int.{w64}
use Rattle.ts_image.specs.Formats.{text, also, list_of}
use Rattle.ts_image.specs.Images.{flag, image_point}
use Rattle.ts_image.specs.SeriesParts.{column_of_parts}
use Rattle.ts_image.proofs.Together.{also_reads, iso_reads}
use Rattle.ts_image.proofs.read.series.read_column.Goals as goal

abbrev as_it_is : ℕ → ℕ
as_it_is n = n

abbrev as_they_are : List (ℤ × ℤ) → List (ℤ × ℤ)
as_they_are points = points

pub returns : goal.returns
returns g c =
    iso_reads _ _ _ _ column_of_parts c.args.reader.now c.read_counted_points.new.reader c.args.source.now c.read_counted_points.new.source _ _ refl
    (also_reads text (also (flag c.args.version) (list_of w64 image_point)) string_bytes _ _ _ _ _ _ _ c.in_ok-field.field _ c.in_ok-field.ensures
    (also_reads (flag c.args.version) (list_of w64 image_point) as_it_is as_they_are _ _ _ _ _ _ c.in_ok-waits.waits c.in_ok-points.points c.in_ok-waits.ensures c.in_ok-points.ensures))
