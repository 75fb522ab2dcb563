use Rattle.std.proofs.Common.{◌≡◌, ◌&&◌, true, length}
use Rattle.std.specs.List.{list_all, AllByRecursion}
use Rattle.ts_core.specs.facts.Facts.{is_within}
use Rattle.ts_core.specs.store.Marks.{index_of}
use Rattle.ts_store.specs.read.ViewResults.{SeenCell, view_cells_at}
use Rattle.ts_exec.specs.GroupTables.{with_cell_parts}
use Rattle.ts_exec.specs.JoinedPieces.{is_small}
use Rattle.ts_exec.proofs.cell_piece.add_cells.Given as goal

abbrev pub invariant-loop-cell : goal.invariant-loop-cell
invariant-loop-cell g l =
    let q = l.fn.scan in
    let a = index_of l.rule l.from in
    let b = index_of l.rule l.to in
    (with_cell_parts q l.rule l.from l.to l.cells l.groups ≡ with_cell_parts q l.rule l.from l.to (view_cells_at (g.V.View.seen l.view).rules l.number a b) l.fn.groups)
    × ((l.small && list_all is_small l.cells) ≡ list_all is_small (view_cells_at (g.V.View.seen l.view).rules l.number a b))
    × AllByRecursion (λ (c : SeenCell). is_within a b c.cell.index ≡ true) l.cells
    × (l.scan ≡ l.fn.scan)

abbrev pub decreases-loop-cell : goal.decreases-loop-cell
decreases-loop-cell g l = length l.cells
