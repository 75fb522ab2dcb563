use Rattle.std.specs.Prelude.{string_bytes}
use Rattle.ts_image.specs.Formats.{text}
use Rattle.ts_image.proofs.Together.{also_reads}
use Rattle.ts_image.proofs.read.series.read_tag.Goals as goal

pub returns : goal.returns
returns g c = also_reads text text string_bytes string_bytes c.args.reader.now c.text.new.self c.text-2.new.self c.args.source.now c.text.new.source c.text-2.new.source c.in_ok-key.key c.in_ok-value.value c.in_ok-key.ensures c.in_ok-value.ensures
