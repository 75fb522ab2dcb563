use Rattle.std.proofs.Common.{◌≡◌, ◌+◌, length, map}
use Rattle.std.specs.Prelude.{◌↔◌}
use Rattle.std.specs.List.{AllByRecursion}
use Rattle.ts_image.specs.ImageTests.{AreLows}
use Rattle.ts_image.specs.RuleParts.{rule_from_parts}
use Rattle.ts_image.specs.TestParts.{HasLongInterval}
use Rattle.ts_image.proofs.check.rules.are_lows.Given as goal

abbrev pub invariant-loop-rule : goal.invariant-loop-rule
invariant-loop-rule g l = record {
  long : AllByRecursion HasLongInterval l.rule-iterator.a.rest.now;
  left : AreLows l.fn.version l.mark (map rule_from_parts l.rule-iterator.a.rest.now) l.rule-iterator.b.rest.now ↔ AreLows l.fn.version l.mark (map rule_from_parts l.rules) l.lows;
  even : length l.rule-iterator.a.rest.now + length l.lows ≡ length l.rule-iterator.b.rest.now + length l.rules;
}
