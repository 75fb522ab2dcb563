use Rattle.std.proofs.Common.{map, take}
use Rattle.ts_image.specs.SeriesParts.{tag_of}
use Rattle.ts_image.specs.Formats.{text, also}
use Rattle.ts_core.proofs.io.OutputBufferLemmas.{done}
use Rattle.ts_image.specs.FieldWriting.{PutsAll}
use Rattle.ts_image.proofs.write.series.put_tags.Given as goal

abbrev pub invariant-loop-tag : goal.invariant-loop-tag
invariant-loop-tag g l = PutsAll (also text text) (map tag_of (take l.tag-index l.tags)) l.initial.sink l.initial.out done l.sink l.out
