use Rattle.std.proofs.Common.{◌-◌, map}
use Rattle.ts_image.specs.RuleParts.{rule_from_parts}
use Rattle.ts_image.specs.Images.{image_rule}
use Rattle.ts_image.proofs.Loops.{HasRead}
use Rattle.ts_image.proofs.read.rules.read_rules.Given as goal

abbrev pub invariant-loop : goal.invariant-loop
invariant-loop g l = HasRead image_rule l.count (l.count - l.counter) (map rule_from_parts l.rules.items) l.initial.reader l.initial.source l.reader l.source
