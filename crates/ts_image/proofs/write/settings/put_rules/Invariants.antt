use Rattle.std.proofs.Common.{map, take}
use Rattle.ts_image.specs.SavedParts.{image_rule_of}
use Rattle.ts_image.specs.Images.{image_rule}
use Rattle.ts_core.proofs.io.OutputBufferLemmas.{done}
use Rattle.ts_image.specs.FieldWriting.{PutsAll}
use Rattle.ts_image.proofs.write.settings.put_rules.Given as goal

abbrev pub invariant-loop-rule : goal.invariant-loop-rule
invariant-loop-rule g l = PutsAll image_rule (map image_rule_of (take l.rule-index l.rules)) l.initial.sink l.initial.out done l.sink l.out
