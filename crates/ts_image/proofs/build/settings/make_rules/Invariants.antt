use Rattle.std.proofs.Common.{◌≡◌, map, take}
use Rattle.std.specs.List.{AllByRecursion}
use Rattle.ts_image.specs.ImageTests.{IsImageRule, rule_in}
use Rattle.ts_image.specs.RuleParts.{rule_from_parts}
use Rattle.ts_image.proofs.build.settings.make_rules.Given as goal

abbrev pub invariant-loop-parts : goal.invariant-loop-parts
invariant-loop-parts g l = (l.all.items ≡ map rule_in (map rule_from_parts (take l.parts-index l.rules))) × AllByRecursion IsImageRule (map rule_from_parts (take l.parts-index l.rules))
