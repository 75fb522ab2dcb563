use Rattle.std.proofs.Common.{◌∙◌, ℤ, List, length, ap, sym, subst}
use Rattle.ts_core.specs.settings.Settings.{Rule}
use Rattle.ts_store.specs.image.Building.{IsBuildable}
use Rattle.ts_store.specs.image.BuildingParts.{built_of}
use Rattle.ts_store.proofs.image.StoresBuilt.{lows-length, kept_built, built_from}
use Rattle.ts_store.proofs.image.building.StoreBuilder.finish.Goals as goal

pub fill_cells-requires-clause-lows : goal.fill_cells-requires-clause-lows
fill_cells-requires-clause-lows g c =
    let i = c.self.inside in
    let can : IsBuildable (built_of i.settings i.marks i.running i.accepted i.facts i.passed.items) = subst IsBuildable (sym c.self.view_is) c.requires in
    ap (λ (xs : List ℤ). length xs) c.lows.ensures ∙ lows-length i.marks.raw i.settings.rules i.marks.lows can.lows ∙ sym (ap (λ (xs : List Rule). length xs) c.rules.ensures.value)

pub invariant_of-result : goal.invariant_of-result
invariant_of-result g c =
    let i = c.self.inside in
    kept_built i.settings i.marks i.running i.accepted i.facts c.fill_cells.new.self i.passed.items c.self.invariant c.rules.ensures.faultless _ c.self.view_is c.requires _ _ c.rules.ensures.value c.lows.ensures c.in_ok-fill_cells.ensures
    _ _ c.over.ensures c.column_count-columns.ensures.count

pub returns : goal.returns
returns g c =
    let i = c.self.inside in
    built_from i.settings i.marks i.running i.accepted i.facts c.fill_cells.new.self i.passed.items c.self.invariant c.rules.ensures.faultless _ c.self.view_is c.requires _ _ c.rules.ensures.value c.lows.ensures c.in_ok-fill_cells.ensures
    _ _ c.over.ensures c.column_count-columns.ensures.count
