use Rattle.std.proofs.Common.{◌≡◌, List, length, map, refl, sym, ap, subst, ◌∙◌, arith, Vec}
use Rattle.std.proofs.lemmas.List.{length-map}
use Rattle.std.specs.FinMap as finmap
use Rattle.std.specs.List.{AllByRecursion}
use Rattle.ts_core.specs.settings.Settings.{Rule}
use Rattle.ts_core.specs.store.StoreData.{StoreData}
use Rattle.ts_raw.proofs.TagLemmas.{if_ok}
use Rattle.ts_store.specs.image.Building.{Built, IsBuildable, IsBuiltFrom}
use Rattle.ts_image.specs.declared.read.cells.CellParts.{CellParts}
use Rattle.ts_image.specs.CellParts.{cells_of_parts}
use Rattle.ts_image.specs.ImageReading.{image_of}
use Rattle.ts_image.specs.ImageTests.{rule_in}
use Rattle.ts_image.specs.StoresMade.{AreAddedCells, with_all_series, with_all_cells}
use Rattle.ts_image.proofs.BuiltStores.{built_store}
use Rattle.ts_image.proofs.PossibleStores.{buildable, added_series, added_cells}
use Rattle.ts_image.proofs.WholeStores.{whole}
use Rattle.ts_image.proofs.build.store.make_store.Goals as goal

pub add_all_series-requires-clause-none : goal.add_all_series-requires-clause-none
add_all_series-requires-clause-none g c = ap (λ (b : Built). b.series) c.in_ok-builder.ensures

pub add_all_series-requires-clause-empty : goal.add_all_series-requires-clause-empty
add_all_series-requires-clause-empty g c = ap (λ (b : Built). b.columns) c.in_ok-builder.ensures

pub add_all_series-requires-clause-series : goal.add_all_series-requires-clause-series
add_all_series-requires-clause-series g c = let d = image_of c.args.image.parts in added_series d.marks.raw d.runs d.series c.requires.possible.series

pub add_all_series-requires-clause-rising : goal.add_all_series-requires-clause-rising
add_all_series-requires-clause-rising g c = c.requires.possible.rising

pub add_all_series-requires-clause-few : goal.add_all_series-requires-clause-few
add_all_series-requires-clause-few g c = c.requires.possible.few

pub add_all_cells-requires-clause-each : goal.add_all_cells-requires-clause-each
add_all_cells-requires-clause-each g c =
    let d = image_of c.args.image.parts in
    let e = c.in_ok-add_all_series.ensures ∙ ap (λ (z : Built). with_all_series d.series z) c.in_ok-builder.ensures in
    let these = ap length c.deref.ensures.value in
    let lists = length-map c.args.image.parts.cells.items (cells_of_parts {A = g.row.A.Denot}) in
    let rules = length-map d.settings.rules rule_in in
    let made = ap (λ (z : Built). length z.settings.rules) e in
    let same = ap (λ s. length s.rules) c.requires.settings in
    omega (arith, these, lists, rules, made, same, c.requires.possible.each)

pub add_all_cells-requires-clause-none : goal.add_all_cells-requires-clause-none
add_all_cells-requires-clause-none g c =
    let d = image_of c.args.image.parts in
    let e = c.in_ok-add_all_series.ensures ∙ ap (λ (z : Built). with_all_series d.series z) c.in_ok-builder.ensures in
    subst (λ (z : Built). z.cells ≡ map (λ (r : Rule). finmap.empty) z.settings.rules) (sym e) refl

pub add_all_cells-requires-clause-cells : goal.add_all_cells-requires-clause-cells
add_all_cells-requires-clause-cells g c =
    let d = image_of c.args.image.parts in
    let p = c.requires.possible in
    subst (λ (l : List (Vec (CellParts g.row.A.Denot) g.row.A.Denot)). AllByRecursion AreAddedCells (map cells_of_parts l)) (sym c.deref.ensures.value)
    (added_cells c.args.image.version d d.marks.raw d.settings.rules d.marks.lows d.cells p.lows p.each p.cells p.counted p.accepted)

pub finish-requires : goal.finish-requires
finish-requires g c =
    let d = image_of c.args.image.parts in
    let p = c.requires.possible in
    let e =
    c.in_ok-add_all_cells.ensures
    ∙ ap (λ (l : List (Vec (CellParts g.row.A.Denot) g.row.A.Denot)). with_all_cells (map cells_of_parts l) c.add_all_series.new.builder) c.deref.ensures.value
    ∙ ap (λ (z : Built). with_all_cells d.cells z) (c.in_ok-add_all_series.ensures ∙ ap (λ (z : Built). with_all_series d.series z) c.in_ok-builder.ensures)
    ∙ whole d c.args.image.settings c.requires.settings p.each in
    subst IsBuildable (sym e) (buildable c.args.image.version d p)

pub returns : goal.returns
returns g c =
    let d = image_of c.args.image.parts in
    let p = c.requires.possible in
    let e =
    c.in_ok-add_all_cells.ensures
    ∙ ap (λ (l : List (Vec (CellParts g.row.A.Denot) g.row.A.Denot)). with_all_cells (map cells_of_parts l) c.add_all_series.new.builder) c.deref.ensures.value
    ∙ ap (λ (z : Built). with_all_cells d.cells z) (c.in_ok-add_all_series.ensures ∙ ap (λ (z : Built). with_all_series d.series z) c.in_ok-builder.ensures)
    ∙ whole d c.args.image.settings c.requires.settings p.each in
    if_ok c.finish.result (λ (k : StoreData) b. built_store c.args.image.version d k p p.each (subst (λ (z : Built). IsBuiltFrom z k) e b)) c.finish.ensures
