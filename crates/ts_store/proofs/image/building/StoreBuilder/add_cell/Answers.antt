use Rattle.std.proofs.Common.{◌≡◌, ◌<◌, ◌∙◌, length, map, ap, sym, subst, arith}
use Rattle.ts_core.specs.store.Cells.{Cell}
use Rattle.ts_core.specs.store.StoreStates.{column_of}
use Rattle.ts_cells.specs.Grids.{cell_at, rollup_series_named}
use Rattle.ts_store.specs.image.Building.{Built, with_built_cell}
use Rattle.ts_store.specs.rollup.Rollups.{cells_of}
use Rattle.ts_store.proofs.image.StoresBuilt.{order_cell-either, built_cell, built_same, with_one}
use Rattle.ts_store.proofs.image.PartsBuilt.{ok_then, err_then}
use Rattle.ts_store.proofs.rollup.RollupsGrow.{rollups-length}
use Rattle.ts_store.proofs.image.building.StoreBuilder.add_cell.Goals as goal

pub add_cell-requires-clause-rule : goal.add_cell-requires-clause-rule
add_cell-requires-clause-rule g c =
    let i = c.self.inside in
    let rules = rollups-length i.settings.rules (map column_of i.facts.columns) i.facts.rollups c.self.invariant.rollups in
    let within : c.args.rule < length i.settings.rules = subst (λ (b : Built). c.args.rule < length b.settings.rules) (sym c.self.view_is) c.requires.rule in
    omega (arith, rules, within)

pub invariant_of-self : goal.invariant_of-self
invariant_of-self g c =
    let i = c.self.inside in
    order_cell-either c.add_cell.result i.settings i.facts c.add_cell.new.self i.passed.items c.args.rule (cell_at c.args.index.now (rollup_series_named c.args.field.now c.args.group.now)) c.args.frozen c.add_cell.ensures.columns c.add_cell.ensures.series c.add_cell.ensures.ok c.add_cell.ensures.err
    (c.add_cell.ensures.rollups i.settings.rules c.self.invariant.rollups) c.self.invariant

pub returns-clause-ok : goal.returns-clause-ok
returns-clause-ok g c =
    let i = c.self.inside in
    let q : Cell = cell_at c.args.index.now (rollup_series_named c.args.field.now c.args.group.now) in
    ok_then c.add_cell.result c.add_cell.ensures.ok
    (λ (e : cells_of c.add_cell.new.self.rollups ≡ with_one (cells_of i.facts.rollups) c.args.rule q c.args.frozen).
    built_cell i.settings i.marks i.running i.accepted i.facts c.add_cell.new.self i.passed.items c.args.rule q c.args.frozen c.add_cell.ensures.columns c.add_cell.ensures.series e ∙ ap (with_built_cell c.args.rule q c.args.frozen) c.self.view_is)

pub returns-clause-err : goal.returns-clause-err
returns-clause-err g c =
    let i = c.self.inside in
    err_then c.add_cell.result c.add_cell.ensures.err
    (λ (e : cells_of c.add_cell.new.self.rollups ≡ cells_of i.facts.rollups).
    built_same i.settings i.marks i.running i.accepted i.facts c.add_cell.new.self i.passed.items i.passed.items c.add_cell.ensures.columns c.add_cell.ensures.series e (λ j. i.passed.items) ∙ c.self.view_is)
