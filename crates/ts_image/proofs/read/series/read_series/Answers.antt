use Rattle.std.proofs.Common.{refl}
use Rattle.std.specs.Int.{w64}
use Rattle.ts_image.specs.Formats.{list_of}
use Rattle.ts_image.specs.Images.{image_series_key, image_column}
use Rattle.ts_image.specs.SeriesParts.{key_of, column_parts_of, series_of_parts}
use Rattle.ts_image.proofs.Together.{also_reads, iso_reads}
use Rattle.ts_image.proofs.read.series.read_series.Goals as goal

pub returns : goal.returns
returns g c =
    iso_reads _ _ _ _ series_of_parts c.args.reader.now c.read_counted_columns.new.reader c.args.source.now c.read_counted_columns.new.source _ _ refl
    (also_reads image_series_key (list_of w64 (image_column c.args.version)) key_of column_parts_of _ _ _ _ _ _ c.in_ok-key.key c.in_ok-columns.columns c.in_ok-key.ensures c.in_ok-columns.ensures)
