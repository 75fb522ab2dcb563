use Rattle.std.proofs.Common.{◌<◌, List, length, map, take, sym, ap, subst, ◌∙◌, arith}
use Rattle.std.proofs.lemmas.List.{length-map}
use Rattle.std.specs.FinMap as finmap
use Rattle.ts_core.specs.settings.Settings.{Rule}
use Rattle.ts_core.specs.store.StoreData.{CellMap}
use Rattle.ts_core.proofs.lists.BesideLemmas.{length-beside}
use Rattle.ts_store.specs.image.Building.{Built}
use Rattle.ts_image.specs.declared.read.cells.CellParts.{CellParts}
use Rattle.ts_image.specs.CellParts.{cell_of_parts, cells_of_parts}
use Rattle.ts_image.specs.StoresMade.{AreAddedCells, with_cells_at, with_image_cells}
use Rattle.ts_image.proofs.CellMaking.{none_yet, lists_more}
use Rattle.ts_image.proofs.Testing.{all_at}
use Rattle.ts_image.proofs.build.store.add_all_cells.Goals as goal

pub add_cells-requires-clause-inside : goal.add_cells-requires-clause-inside
add_cells-requires-clause-inside g c =
    let b = c.args.builder.now in
    let i = c.loop-rule.rule in
    let ps = c.args.cells.now in
    let lt : i < length ps = c.loop-rule-test.true in
    let none = ap length c.requires.none in
    let none_of : Rule → CellMap = λ (r : Rule). finmap.empty in
    let each = length-map b.settings.rules none_of in
    let all = ap (λ (z : Built). length z.cells) c.loop-rule.invariant ∙ length-beside with_image_cells (map cells_of_parts (take i ps)) b.cells in
    omega (arith, lt, all, none, each, c.requires.each)

pub add_cells-requires-clause-none : goal.add_cells-requires-clause-none
add_cells-requires-clause-none g c = none_yet cells_of_parts c.args.cells.now c.loop-rule.rule c.args.builder.now c.loop-rule.builder c.args.builder.now.settings.rules c.requires.none c.loop-rule.invariant

pub add_cells-requires-clause-cells : goal.add_cells-requires-clause-cells
add_cells-requires-clause-cells g c =
    subst (λ (l : List (CellParts g.row.A.Denot)). AreAddedCells (map cell_of_parts l)) (sym c.deref.ensures.value)
    (all_at AreAddedCells cells_of_parts c.args.cells.now c.loop-rule.rule c.index-cells-rule.result c.loop-rule-test.true c.index-cells-rule.is c.requires.cells)

pub loop-rule-preserved : goal.loop-rule-preserved
loop-rule-preserved g c =
    let at = c.loop-rule in
    let x = c.index-cells-rule.result in
    c.in_ok-add_cells.ensures ∙ ap (λ (l : List (CellParts g.row.A.Denot)). with_cells_at at.rule (map cell_of_parts l) at.builder) c.deref.ensures.value
    ∙ ap (λ (z : Built). with_cells_at at.rule (cells_of_parts x) z) at.invariant ∙ lists_more cells_of_parts c.args.cells.now at.rule x c.args.builder.now c.loop-rule-test.true c.index-cells-rule.is
