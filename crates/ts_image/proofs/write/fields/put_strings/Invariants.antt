use Rattle.std.proofs.Common.{map, take}
use Rattle.std.specs.Prelude.{string_bytes}
use Rattle.ts_core.proofs.io.OutputBufferLemmas.{done}
use Rattle.ts_image.specs.Formats.{text}
use Rattle.ts_image.specs.FieldWriting.{PutsAll}
use Rattle.ts_image.proofs.write.fields.put_strings.Given as goal

abbrev pub invariant-loop-text : goal.invariant-loop-text
invariant-loop-text g l = PutsAll text (map string_bytes (take l.text-index l.texts)) l.initial.sink l.initial.out done l.sink l.out
