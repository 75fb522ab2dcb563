use Rattle.std.proofs.Common.{map}
use Rattle.std.specs.Prelude.{◌↔◌}
use Rattle.std.specs.List.{AllByRecursion}
use Rattle.ts_image.specs.ImageTests.{CellsAre}
use Rattle.ts_image.specs.RuleParts.{rule_from_parts}
use Rattle.ts_image.specs.CellParts.{cells_of_parts}
use Rattle.ts_image.specs.TestParts.{HasLongInterval}
use Rattle.ts_image.proofs.check.rules.are_all_cells.Given as goal

abbrev pub invariant-loop-rule : goal.invariant-loop-rule
invariant-loop-rule g l =
    let rest = l.rule-iterator.a in
    record {
      long : AllByRecursion HasLongInterval rest.a.rest.now;
      left : CellsAre l.mark (map rule_from_parts rest.a.rest.now) rest.b.rest.now (map cells_of_parts l.rule-iterator.b.rest.now) ↔ CellsAre l.mark (map rule_from_parts l.rules) l.lows (map cells_of_parts l.cells);
    }
