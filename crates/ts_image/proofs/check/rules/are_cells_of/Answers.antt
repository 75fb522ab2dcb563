use Rattle.std.proofs.Common.{List, map, subst}
use Rattle.std.specs.Prelude.{◌↔◌, IsTrue}
use Rattle.ts_image.specs.declared.read.cells.CellParts.{CellParts}
use Rattle.ts_image.specs.ImageTests.{AreImageCells}
use Rattle.ts_image.specs.RuleParts.{rule_from_parts}
use Rattle.ts_image.specs.CellParts.{cell_of_parts}
use Rattle.ts_image.proofs.check.rules.are_cells_of.Goals as goal

pub returns : goal.returns
returns g c = subst (λ (l : List (CellParts g.row.A.Denot)). IsTrue c.are_cells.result ↔ AreImageCells c.args.mark.now (rule_from_parts c.args.rule.now) c.args.low.now (map cell_of_parts l)) c.deref.ensures.value c.are_cells.ensures
