use Rattle.std.proofs.Common.{◌≡◌, ◌-◌, [], ◌∷◌, ◌++◌, map, ap, arith, refl}
use Rattle.ts_image.specs.CellParts.{cell_of_parts, cells_of_parts}
use Rattle.ts_image.specs.Images.{image_cell}
use Rattle.ts_image.specs.RuleParts.{rule_from_parts}
use Rattle.std.proofs.lemmas.Result.{err_from_is_err_and}
use Rattle.std.proofs.lemmas.List.{map_push}
use Rattle.ts_core.proofs.lists.Remaining.{one_left}
use Rattle.ts_image.proofs.Loops.{starts, goes_on, breaks, no_memory_left, finishes}
use Rattle.ts_image.proofs.read.cells.read_cells.Goals as goal

pub loop-init : goal.loop-init
loop-init g c = starts (image_cell (rule_from_parts c.args.rule.now)) c.args.count c.args.reader.now c.args.source.now (c.args.count - 0) (map cell_of_parts c.new-cells.result.items) (omega arith) (ap (map cell_of_parts) c.new-cells.ensures.items) c.requires

pub returns-in_err-cell : goal.returns-in_err-cell
returns-in_err-cell g c =
    let p = err_from_is_err_and c.from_residual.result c.from_residual.ensures.1 in
    rw (p.1, p.2) (breaks (image_cell (rule_from_parts c.args.rule.now)) c.args.count c.args.reader.now c.args.source.now cell_of_parts _ _ (one_left c.args.count c.loop.counter c.loop-test.true) (map cell_of_parts c.loop.cells.items) c.loop.reader c.read_cell.new.reader c.loop.source c.read_cell.new.source c.loop.invariant cells_of_parts c.in_err-cell.field-0.0 c.in_err-cell.ensures)

pub returns-in_err-push : goal.returns-in_err-push
returns-in_err-push g c =
    let p = err_from_is_err_and c.from_residual-in_err-push.result c.from_residual-in_err-push.ensures.1 in
    rw (p.1, p.2) (no_memory_left (image_cell (rule_from_parts c.args.rule.now)) c.args.count c.args.reader.now c.args.source.now cell_of_parts _ _ (one_left c.args.count c.loop.counter c.loop-test.true) (map cell_of_parts c.loop.cells.items) c.loop.reader c.read_cell.new.reader c.loop.source c.read_cell.new.source c.loop.invariant cells_of_parts c.in_ok-cell.cell c.in_ok-cell.ensures)

pub loop-preserved : goal.loop-preserved
loop-preserved g c =
    let pushed : map cell_of_parts c.push.new.self.items ≡ map cell_of_parts c.loop.cells.items ++ cell_of_parts c.in_ok-cell.cell ∷ [] = rw c.in_ok-push.ensures.items (map_push _ c.loop.cells.items c.in_ok-cell.cell) in
    goes_on (image_cell (rule_from_parts c.args.rule.now)) c.args.count c.args.reader.now c.args.source.now cell_of_parts _ _ (one_left c.args.count c.loop.counter c.loop-test.true) (map cell_of_parts c.loop.cells.items) c.loop.reader c.read_cell.new.reader c.loop.source c.read_cell.new.source c.loop.invariant c.in_ok-cell.cell _ pushed c.in_ok-cell.ensures

pub returns : goal.returns
returns g c = finishes (image_cell (rule_from_parts c.args.rule.now)) c.args.count c.args.reader.now c.args.source.now (c.args.count - c.loop.counter) (omega arith) (map cell_of_parts c.loop.cells.items) c.loop.reader c.loop.source cells_of_parts c.loop.cells c.loop.invariant refl
