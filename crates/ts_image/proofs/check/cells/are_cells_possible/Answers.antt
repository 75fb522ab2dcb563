use Rattle.std.proofs.Common.{refl}
use Rattle.ts_image.specs.ImageTests.{IsImageCell}
use Rattle.ts_image.specs.RuleParts.{rule_from_parts}
use Rattle.ts_image.specs.CellParts.{cell_of_parts}
use Rattle.ts_image.proofs.Testing.{all_next, all_not, all_done}
use Rattle.ts_image.proofs.check.cells.are_cells_possible.Goals as goal

pub loop-cell-preserved : goal.loop-cell-preserved
loop-cell-preserved g c = all_next (IsImageCell c.args.mark.now (rule_from_parts c.args.rule.now) c.args.low.now) cell_of_parts c.args.cells.now c.loop-cell.cell-index c.cell-item.result c.loop-cell-test.true c.cell-item.is c.loop-cell.invariant (c.if-not-is_cell.ensures.0 refl)

pub returns-then-not-is_cell : goal.returns-then-not-is_cell
returns-then-not-is_cell g c = (λ e. absurd cc, λ h. absurd (all_not (IsImageCell c.args.mark.now (rule_from_parts c.args.rule.now) c.args.low.now) cell_of_parts c.args.cells.now c.loop-cell.cell-index c.cell-item.result c.loop-cell-test.true c.cell-item.is (λ q. let e = c.if-not-is_cell.ensures.1 q in absurd cc) h))

pub returns : goal.returns
returns g c = (λ e. all_done (IsImageCell c.args.mark.now (rule_from_parts c.args.rule.now) c.args.low.now) cell_of_parts c.args.cells.now c.loop-cell.cell-index c.loop-cell-test.false c.loop-cell.invariant, λ h. refl)
