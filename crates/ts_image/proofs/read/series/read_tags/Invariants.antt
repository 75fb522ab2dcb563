use Rattle.std.proofs.Common.{◌-◌, map}
use Rattle.ts_image.specs.SeriesParts.{tag_of}
use Rattle.ts_image.specs.Formats.{text, also}
use Rattle.ts_image.proofs.Loops.{HasRead}
use Rattle.ts_image.proofs.read.series.read_tags.Given as goal

abbrev pub invariant-loop : goal.invariant-loop
invariant-loop g l = HasRead (also text text) l.count (l.count - l.counter) (map tag_of l.tags.items) l.initial.reader l.initial.source l.reader l.source
