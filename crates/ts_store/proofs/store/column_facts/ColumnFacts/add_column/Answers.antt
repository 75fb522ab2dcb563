use Rattle.std.proofs.Common.{◌<◌, ◌∙◌, ◌++◌, [], ◌∷◌, ℕ, List, length, map, set, ap, refl, sym, subst, arith}
use Rattle.std.specs.FinMap as finmap
use Rattle.ts_core.specs.facts.Facts.{Column}
use Rattle.ts_core.specs.lists.Numbered.{IsAt}
use Rattle.ts_core.specs.store.StoreStates.{ColumnPoints, column_of}
use Rattle.ts_core.proofs.lists.Results.{on_any_err}
use Rattle.ts_raw.specs.Columns.{ColumnState}
use Rattle.ts_raw.specs.Indexed.{Indexed}
use Rattle.ts_store.specs.store.ColumnStates.{StoreContent, IsSoundContent, columns_in, with_points, point_maps}
use Rattle.ts_store.specs.rollup.Rollups.{RollupState, AreRollups, cells_of}
use Rattle.ts_store.proofs.store.ColumnsLemmas.{names_held, written_back}
use Rattle.ts_store.proofs.image.PartsBuilt.{column_held, column_within, column_added, column_refused, its_absent}
use Rattle.ts_store.proofs.store.column_facts.ColumnFacts.add_column.Goals as goal

pub make_column-requires-clause-absent : goal.make_column-requires-clause-absent
make_column-requires-clause-absent g c = its_absent c.self.inside.index c.self.inside.columns.items c.self.inside.rollups.items c.args.self.now c.args.series c.args.field.now c.self.invariant c.self.view_is c.requires.registered c.requires.absent

pub make_column-requires-clause-rollups : goal.make_column-requires-clause-rollups
make_column-requires-clause-rollups g c =
    let index : Indexed = c.self.inside.index in
    let ss : List ColumnState = c.self.inside.columns.items in
    let rs = c.args.rules.now in
    let shown : AreRollups rs (map column_of (columns_in index ss)) c.self.inside.rollups.items = subst (λ (h : StoreContent). AreRollups rs (map column_of h.columns) h.rollups) (sym c.self.view_is) c.requires.rollups in
    subst (AreRollups rs index.columns) (sym c.as_mut_slice.ensures.value) (subst (λ (cs : List Column). AreRollups rs cs c.self.inside.rollups.items) (names_held index ss c.self.invariant.each) shown)

-- ---- no memory

pub invariant_of-self : goal.invariant_of-self
invariant_of-self g c = column_refused c.self.inside.index c.make_column.new.index c.self.inside.columns.items c.make_column.new.columns.items c.self.invariant c.in_err-column.ensures.column.kept (c.in_err-column.ensures.column.sound c.self.invariant.sound)

pub returns-in_err-column-clause-err : goal.returns-in_err-column-clause-err
returns-in_err-column-clause-err g c =
    on_any_err c.from_residual.result
    ((λ i. with_points (c.in_err-column.ensures.column.kept.0 i) (point_maps (c.in_err-column.ensures.column.kept.1 i))) ∙ ap (λ (h : StoreContent). h.columns) c.self.view_is)

pub returns-in_err-column-clause-rollups : goal.returns-in_err-column-clause-rollups
returns-in_err-column-clause-rollups g c =
    let vs : List RollupState = c.make_column.new.rollups in
    let after : Indexed = c.make_column.new.index in
    let held = column_refused c.self.inside.index after c.self.inside.columns.items c.make_column.new.columns.items c.self.invariant c.in_err-column.ensures.column.kept (c.in_err-column.ensures.column.sound c.self.invariant.sound) in
    subst (AreRollups c.args.rules.now (map column_of (columns_in after c.make_column.new.columns.items))) (sym (written_back c.self.inside.rollups _ c.make_column.new.rollups c.make_column.auto.rollups c.as_mut_slice.ensures.value))
    (subst (λ (cs : List Column). AreRollups c.args.rules.now cs vs) (sym (names_held after c.make_column.new.columns.items held.each)) c.in_err-column.ensures.rollups)

pub returns-in_err-column-clause-cells : goal.returns-in_err-column-clause-cells
returns-in_err-column-clause-cells g c =
    ap cells_of (written_back c.self.inside.rollups _ c.make_column.new.rollups c.make_column.auto.rollups c.as_mut_slice.ensures.value) ∙ c.in_err-column.ensures.cells ∙ ap cells_of c.as_mut_slice.ensures.value ∙ ap (λ (h : StoreContent). cells_of h.rollups) c.self.view_is

-- ---- the column is created

pub index_mut-requires : goal.index_mut-requires
index_mut-requires g c =
    let ss' : List ColumnState = c.make_column.new.columns.items in
    let within : c.in_ok-column.column < length ss' =
    column_within _ c.self.inside.index c.make_column.new.index c.self.inside.columns.items ss' c.args.series c.in_ok-column.column c.args.field.now c.self.invariant
    (its_absent c.self.inside.index c.self.inside.columns.items c.self.inside.rollups.items c.args.self.now c.args.series c.args.field.now c.self.invariant c.self.view_is c.requires.registered c.requires.absent)
    c.in_ok-column.ensures.column in
    let counted = c.make_column.new.columns.ok.0 in
    omega (arith, within, counted, c.number.ensures)

pub invariant_of-self-2 : goal.invariant_of-self-2
invariant_of-self-2 g c =
    let ss' : List ColumnState = c.make_column.new.columns.items in
    subst (λ (k : ℕ). IsSoundContent c.make_column.new.index (set ss' k c.args.points)) (sym c.number.ensures)
    (column_held _ c.self.inside.index c.make_column.new.index c.self.inside.columns.items ss' c.args.series c.in_ok-column.column c.args.field.now c.self.invariant
    (its_absent c.self.inside.index c.self.inside.columns.items c.self.inside.rollups.items c.args.self.now c.args.series c.args.field.now c.self.invariant c.self.view_is c.requires.registered c.requires.absent)
    c.args.points c.in_ok-column.ensures.column)

pub returns-clause-ok : goal.returns-clause-ok
returns-clause-ok g c = λ s at.
    let index : Indexed = c.self.inside.index in
    let after : Indexed = c.make_column.new.index in
    let ss' : List ColumnState = c.make_column.new.columns.items in
    let x : ColumnPoints = record { column = record { series = s; field = c.args.field.now }; points = finmap.entries c.args.points.points } in
    let at' : IsAt index.series c.args.series s = subst (λ (h : StoreContent). IsAt h.series c.args.series s) (sym c.self.view_is) at in
    ap (λ (k : ℕ). columns_in after (set ss' k c.args.points)) c.number.ensures
    ∙ column_added _ index after c.self.inside.columns.items ss' c.args.series c.in_ok-column.column c.args.field.now c.self.invariant
    (its_absent index c.self.inside.columns.items c.self.inside.rollups.items c.args.self.now c.args.series c.args.field.now c.self.invariant c.self.view_is c.requires.registered c.requires.absent)
    c.args.points s (finmap.entries c.args.points.points) at' refl c.in_ok-column.ensures.column
    ∙ ap (λ (h : StoreContent). h.columns ++ x ∷ []) c.self.view_is

pub returns-clause-rollups : goal.returns-clause-rollups
returns-clause-rollups g c =
    let vs : List RollupState = c.make_column.new.rollups in
    let after : Indexed = c.make_column.new.index in
    let ss' : List ColumnState = c.make_column.new.columns.items in
    let held : IsSoundContent after (set ss' c.number.result c.args.points) =
    subst (λ (k : ℕ). IsSoundContent after (set ss' k c.args.points)) (sym c.number.ensures)
    (column_held _ c.self.inside.index after c.self.inside.columns.items ss' c.args.series c.in_ok-column.column c.args.field.now c.self.invariant
    (its_absent c.self.inside.index c.self.inside.columns.items c.self.inside.rollups.items c.args.self.now c.args.series c.args.field.now c.self.invariant c.self.view_is c.requires.registered c.requires.absent)
    c.args.points c.in_ok-column.ensures.column) in
    subst (AreRollups c.args.rules.now (map column_of (columns_in after (set ss' c.number.result c.args.points)))) (sym (written_back c.self.inside.rollups _ c.make_column.new.rollups c.make_column.auto.rollups c.as_mut_slice.ensures.value))
    (subst (λ (cs : List Column). AreRollups c.args.rules.now cs vs) (sym (names_held after (set ss' c.number.result c.args.points) held.each)) c.in_ok-column.ensures.rollups)

pub returns-clause-cells : goal.returns-clause-cells
returns-clause-cells g c =
    ap cells_of (written_back c.self.inside.rollups _ c.make_column.new.rollups c.make_column.auto.rollups c.as_mut_slice.ensures.value) ∙ c.in_ok-column.ensures.cells ∙ ap cells_of c.as_mut_slice.ensures.value ∙ ap (λ (h : StoreContent). cells_of h.rollups) c.self.view_is

pub make_column-requires-clause-series : goal.make_column-requires-clause-series
make_column-requires-clause-series g c = subst (λ (h : StoreContent). c.args.series < length h.series) (sym c.self.view_is) c.requires.registered
