use Rattle.std.proofs.Common.{refl}
use Rattle.std.specs.Prelude.{string_bytes}
use Rattle.std.specs.Int.{w8}
use Rattle.ts_image.specs.Formats.{text, also, list_of}
use Rattle.ts_image.specs.SeriesParts.{tags_of_parts, key_of}
use Rattle.ts_image.proofs.Together.{also_reads, iso_reads}
use Rattle.ts_image.proofs.read.series.read_key.Goals as goal

pub returns : goal.returns
returns g c =
    iso_reads _ _ _ _ key_of c.args.reader.now c.read_counted_tags.new.reader c.args.source.now c.read_counted_tags.new.source _ _ refl
    (also_reads text (list_of w8 (also text text)) string_bytes tags_of_parts _ _ _ _ _ _ c.in_ok-measurement.measurement c.in_ok-tags.tags c.in_ok-measurement.ensures c.in_ok-tags.ensures)
