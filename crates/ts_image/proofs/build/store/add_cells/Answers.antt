use Rattle.std.proofs.Common.{List, length, map, take, sym, ap, ◌∙◌, arith}
use Rattle.std.proofs.lemmas.List.{take_all}
use Rattle.ts_store.specs.image.Building.{Built, with_built_cell}
use Rattle.ts_image.specs.declared.read.cells.CellParts.{CellParts}
use Rattle.ts_image.specs.CellParts.{cell_of_parts}
use Rattle.ts_image.specs.Images.{ImageCell}
use Rattle.ts_image.specs.PartsMade.{HasPart}
use Rattle.ts_image.specs.Pictures.{cell_part_of}
use Rattle.ts_image.specs.StoresMade.{with_cells_at}
use Rattle.ts_image.proofs.CellMaking.{no_cells, cell_added, cell_absent}
use Rattle.ts_image.proofs.Lending.{map_step}
use Rattle.ts_image.proofs.Testing.{all_at}
use Rattle.ts_image.proofs.build.store.add_cells.Goals as goal

pub add_cell-requires-clause-rule : goal.add_cell-requires-clause-rule
add_cell-requires-clause-rule g c =
    let e = ap (λ (b : Built). length b.settings.rules) c.loop-parts.invariant in
    omega (arith, e, c.requires.rule)

pub add_cell-requires-clause-absent : goal.add_cell-requires-clause-absent
add_cell-requires-clause-absent g c =
    let at = c.loop-parts in
    cell_absent cell_of_parts c.args.cells.now at.parts-index c.parts-item.result c.args.rule c.args.builder.now at.builder c.loop-parts-test.true c.parts-item.is c.requires.inside c.requires.cells.rising c.requires.none at.invariant

pub add_cell-requires-clause-part : goal.add_cell-requires-clause-part
add_cell-requires-clause-part g c = all_at HasPart cell_of_parts c.args.cells.now c.loop-parts.parts-index c.parts-item.result c.loop-parts-test.true c.parts-item.is c.requires.cells.each

pub loop-parts-init : goal.loop-parts-init
loop-parts-init g c = no_cells c.args.rule c.args.builder.now

pub loop-parts-preserved : goal.loop-parts-preserved
loop-parts-preserved g c =
    let at = c.loop-parts in
    let b = c.args.builder.now in
    let x = cell_of_parts c.parts-item.result in
    c.in_ok-add_cell.ensures ∙ ap (λ (z : Built). with_built_cell c.args.rule x.cell (cell_part_of x) z) at.invariant ∙ cell_added c.args.rule (map cell_of_parts (take at.parts-index c.args.cells.now)) x b c.requires.inside
    ∙ ap (λ (cs : List ImageCell). with_cells_at c.args.rule cs b) (sym (map_step cell_of_parts c.args.cells.now at.parts-index c.parts-item.result c.loop-parts-test.true c.parts-item.is))

pub returns : goal.returns
returns g c = c.loop-parts.invariant ∙ ap (λ (ps : List (CellParts g.row.A.Denot)). with_cells_at c.args.rule (map cell_of_parts ps) c.args.builder.now) (take_all c.loop-parts.parts-index c.args.cells.now c.loop-parts-test.false)
