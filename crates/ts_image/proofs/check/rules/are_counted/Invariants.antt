use Rattle.std.proofs.Common.{map}
use Rattle.std.specs.Prelude.{◌↔◌}
use Rattle.ts_image.specs.SeriesParts.{series_of_parts}
use Rattle.ts_image.specs.RuleParts.{rule_from_parts}
use Rattle.ts_image.specs.CellParts.{cells_of_parts}
use Rattle.ts_image.specs.TestParts.{AreCountedAll}
use Rattle.ts_image.proofs.check.rules.are_counted.Given as goal

abbrev pub invariant-loop-rule : goal.invariant-loop-rule
invariant-loop-rule g l =
    let ss = map series_of_parts l.series in
    AreCountedAll l.accepted ss (map rule_from_parts l.rule-iterator.a.rest.now) (map cells_of_parts l.rule-iterator.b.rest.now) ↔ AreCountedAll l.accepted ss (map rule_from_parts l.rules) (map cells_of_parts l.cells)
