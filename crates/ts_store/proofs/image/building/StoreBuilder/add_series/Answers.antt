use Rattle.std.proofs.Common.{◌≡◌, ◌<◌, ◌∙◌, ◌++◌, [], ◌∷◌, length, ap, sym, subst}
use Rattle.ts_store.specs.image.Building.{Built, with_built_series}
use Rattle.ts_store.specs.image.BuildingParts.{built_of}
use Rattle.ts_store.specs.store.ColumnStates.{StoreContent}
use Rattle.ts_store.proofs.image.StoresBuilt.{order_series-either, built_series}
use Rattle.ts_store.proofs.image.PartsBuilt.{ok_then, err_then}
use Rattle.ts_store.proofs.image.building.StoreBuilder.add_series.Goals as goal

pub invariant_of-self : goal.invariant_of-self
invariant_of-self g c =
    order_series-either c.add_series.result c.self.inside.settings c.self.inside.facts c.add_series.new.self c.self.inside.passed.items c.args.key.now (subst (λ (b : Built). length b.series < 1000000) (sym c.self.view_is) c.requires.few) c.requires.named
    c.add_series.ensures.ok c.add_series.ensures.err c.self.invariant

pub returns-clause-ok : goal.returns-clause-ok
returns-clause-ok g c =
    let i = c.self.inside in
    ok_then c.add_series.result c.add_series.ensures.ok
    (λ (e : c.add_series.new.self ≡ record { series = i.facts.series ++ c.args.key.now ∷ []; columns = i.facts.columns; rollups = i.facts.rollups }).
    built_series i.settings i.marks i.running i.accepted i.facts c.add_series.new.self i.passed.items c.args.key.now e ∙ ap (with_built_series c.args.key.now) c.self.view_is)

pub returns-clause-err : goal.returns-clause-err
returns-clause-err g c =
    let i = c.self.inside in
    err_then c.add_series.result c.add_series.ensures.err (λ (e : c.add_series.new.self ≡ i.facts). ap (λ (h : StoreContent). built_of i.settings i.marks i.running i.accepted h i.passed.items) e ∙ c.self.view_is)
