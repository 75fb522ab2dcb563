use Rattle.std.proofs.Common.{◌≡◌, ◌<◌, ◌∙◌, ◌++◌, [], ◌∷◌, Bool, not, List, length, map, get_or, cond, is_ok, ap, sym, subst}
use Rattle.std.specs.FinMap as finmap
use Rattle.std.proofs.lemmas.Option.{slice_get-get_or}
use Rattle.ts_core.specs.facts.Facts.{Series}
use Rattle.ts_core.specs.lists.Numbered.{IsAt}
use Rattle.ts_core.specs.settings.Settings.{Rule}
use Rattle.ts_core.specs.store.StoreStates.{ColumnPoints, column_of}
use Rattle.ts_raw.specs.Indexed.{no_series}
use Rattle.ts_store.specs.image.Building.{Built, with_built_column}
use Rattle.ts_store.specs.image.BuildingParts.{IsInOrder}
use Rattle.ts_store.specs.rollup.Rollups.{AreRollups}
use Rattle.ts_store.proofs.image.StoresBuilt.{order_column, order_same, built_column}
use Rattle.ts_store.proofs.image.building.StoreBuilder.add_column.Goals as goal

pub invariant_of-self-2 : goal.invariant_of-self-2
invariant_of-self-2 g c =
    let i = c.self.inside in
    let within : c.args.series < length i.facts.series = subst (λ (b : Built). c.args.series < length b.series) (sym c.self.view_is) c.requires.registered in
    let s : Series = get_or i.facts.series c.args.series no_series in
    let at : IsAt i.facts.series c.args.series s = slice_get-get_or i.facts.series c.args.series no_series within in
    let x : ColumnPoints = record { column = record { series = s; field = c.args.field.now }; points = finmap.entries c.args.points.points } in
    let w : Bool = not c.args.waits in
    let flags : c.push.new.self.items ≡ i.passed.items ++ w ∷ [] =
    c.push.ensures.items ∙ ap (λ r. cond (is_ok r) (c.reserve.new.self.items ++ w ∷ []) c.reserve.new.self.items) c.unwrap.ensures ∙ ap (λ (bs : List Bool). bs ++ w ∷ []) c.in_ok-reserve.ensures.items in
    order_column i.settings i.facts c.add_column.new.self i.passed.items c.push.new.self.items x w c.requires.key (c.in_ok-add_column.ensures.ok s at) c.in_ok-add_column.ensures.series c.in_ok-add_column.ensures.cells
    (subst (λ (rs : List Rule). AreRollups rs (map column_of c.add_column.new.self.columns) c.add_column.new.self.rollups) c.rules.ensures.value c.in_ok-add_column.ensures.rollups) flags c.self.invariant

pub returns-clause-ok : goal.returns-clause-ok
returns-clause-ok g c = λ s at.
    let i = c.self.inside in
    let at' : IsAt i.facts.series c.args.series s = subst (λ (b : Built). IsAt b.series c.args.series s) (sym c.self.view_is) at in
    let x : ColumnPoints = record { column = record { series = s; field = c.args.field.now }; points = finmap.entries c.args.points.points } in
    let w : Bool = not c.args.waits in
    let flags : c.push.new.self.items ≡ i.passed.items ++ w ∷ [] =
    c.push.ensures.items ∙ ap (λ r. cond (is_ok r) (c.reserve.new.self.items ++ w ∷ []) c.reserve.new.self.items) c.unwrap.ensures ∙ ap (λ (bs : List Bool). bs ++ w ∷ []) c.in_ok-reserve.ensures.items in
    built_column i.settings i.marks i.running i.accepted i.facts c.add_column.new.self i.passed.items c.push.new.self.items x c.args.waits (c.in_ok-add_column.ensures.ok s at') c.in_ok-add_column.ensures.series c.in_ok-add_column.ensures.cells flags
    ∙ ap (with_built_column x c.args.waits) c.self.view_is

pub invariant_of-self-in_err-add_column : goal.invariant_of-self-in_err-add_column
invariant_of-self-in_err-add_column g c =
    let i = c.self.inside in
    subst (λ (bs : List Bool). IsInOrder i.settings c.add_column.new.self bs) (sym c.in_ok-reserve.ensures.items)
    (order_same i.settings i.facts c.add_column.new.self i.passed.items c.in_err-add_column.ensures.err c.in_err-add_column.ensures.series c.in_err-add_column.ensures.cells
    (subst (λ (rs : List Rule). AreRollups rs (map column_of c.add_column.new.self.columns) c.add_column.new.self.rollups) c.rules.ensures.value c.in_err-add_column.ensures.rollups) c.self.invariant)
