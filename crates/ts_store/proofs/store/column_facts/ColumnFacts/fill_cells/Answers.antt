use Rattle.std.proofs.Common.{◌≡◌, ◌∙◌, ℤ, List, length, map, ap, sym, subst, arith}
use Rattle.std.specs.List.{AllByRecursion}
use Rattle.std.specs.Vec.{with_items}
use Rattle.ts_core.specs.facts.Facts.{Column}
use Rattle.ts_core.specs.settings.Settings.{Rule}
use Rattle.ts_core.specs.store.StoreStates.{column_of}
use Rattle.ts_raw.specs.Columns.{ColumnState}
use Rattle.ts_raw.specs.Indexed.{Indexed}
use Rattle.ts_store.specs.image.BuildingParts.{AreIdle, FillsCells}
use Rattle.ts_store.specs.store.ColumnStates.{StoreContent, IsSoundContent, content_of, columns_in}
use Rattle.ts_store.specs.read.PointsRead.{number_of_points}
use Rattle.ts_store.specs.rollup.Rollups.{RollupState, AreRollups, cells_of}
use Rattle.ts_store.specs.retain.RollupSteps.{with_all_grid_cells}
use Rattle.ts_store.proofs.store.ColumnsLemmas.{names_held, its_points, written_back}
use Rattle.ts_store.proofs.write.PointsPut.{wide_of, wide_still}
use Rattle.ts_store.proofs.rollup.RollupsGrow.{rollups-length}
use Rattle.ts_store.specs.rollup.PointsFilled.{MakeAllPoints, AddAllPoints}
use Rattle.ts_store.proofs.rollup.RulesFilled.{all_fill}
use Rattle.ts_store.proofs.store.column_facts.ColumnFacts.fill_cells.Goals as goal

-- each rollup has as many columns as there are
wide : (rules : List Rule) (index : Indexed) (ss lent : List ColumnState) (us : List RollupState) (held : StoreContent) → IsSoundContent index ss → content_of index ss us ≡ held → lent ≡ ss → AreRollups rules (map column_of held.columns) held.rollups
    → AllByRecursion (λ (s : RollupState). length s.series_of_column ≡ length lent) us
wide rules index ss lent us held kept is same rollups =
    let shown : AreRollups rules (map column_of (columns_in index ss)) us = subst (λ (h : StoreContent). AreRollups rules (map column_of h.columns) h.rollups) (sym is) rollups in
    wide_of rules index.columns (length lent) us (subst (λ (cs : List Column). AreRollups rules cs us) (names_held index ss kept.each) shown) (ap (λ (xs : List ColumnState). length xs) same ∙ kept.each)

pub make_all_cells-requires-clause-rules : goal.make_all_cells-requires-clause-rules
make_all_cells-requires-clause-rules g c =
    ap length (c.as_mut_slice-rollups.ensures.value ∙ ap (λ (h : StoreContent). h.rollups) c.self.view_is) ∙ rollups-length c.args.rules.now (map column_of c.args.self.now.columns) c.args.self.now.rollups c.requires.rollups

pub make_all_cells-requires-clause-each : goal.make_all_cells-requires-clause-each
make_all_cells-requires-clause-each g c =
    subst (AllByRecursion (λ (s : RollupState). length s.series_of_column ≡ length c.as_slice-columns.result.now)) (sym c.as_mut_slice-rollups.ensures.value)
    (wide c.args.rules.now c.self.inside.index c.self.inside.columns.items c.as_slice-columns.result.now c.self.inside.rollups.items c.args.self.now c.self.invariant c.self.view_is c.as_slice-columns.ensures.value c.requires.rollups)

pub add_all_points-requires-clause-rules : goal.add_all_points-requires-clause-rules
add_all_points-requires-clause-rules g c =
    c.make_all_cells.auto.rollups ∙ ap length (c.as_mut_slice-rollups.ensures.value ∙ ap (λ (h : StoreContent). h.rollups) c.self.view_is)
    ∙ rollups-length c.args.rules.now (map column_of c.args.self.now.columns) c.args.self.now.rollups c.requires.rollups

pub add_all_points-requires-clause-each : goal.add_all_points-requires-clause-each
add_all_points-requires-clause-each g c =
    let us : List RollupState = c.self.inside.rollups.items in
    let vs : List RollupState = c.make_all_cells.new.rollups in
    let kept : vs ≡ with_all_grid_cells (cells_of vs) us = subst (λ (xs : List RollupState). vs ≡ with_all_grid_cells (cells_of vs) xs) c.as_mut_slice-rollups.ensures.value c.make_all_cells.ensures.kept in
    wide_still (length c.as_slice-columns.result.now) us vs kept
    (wide c.args.rules.now c.self.inside.index c.self.inside.columns.items c.as_slice-columns.result.now us c.args.self.now c.self.invariant c.self.view_is c.as_slice-columns.ensures.value c.requires.rollups)

pub add_all_points-requires-clause-few : goal.add_all_points-requires-clause-few
add_all_points-requires-clause-few g c =
    let all = its_points _ _ _ _ c.self.invariant c.self.view_is in
    let lent = ap number_of_points c.as_slice-columns.ensures.value in
    omega (arith, all, lent, c.requires.few)

pub returns : goal.returns
returns g c =
    let rs : List Rule = c.args.rules.now in
    let lows : List ℤ = c.args.lows.now in
    let index : Indexed = c.self.inside.index in
    let ss : List ColumnState = c.self.inside.columns.items in
    let us : List RollupState = c.self.inside.rollups.items in
    let vs : List RollupState = c.make_all_cells.new.rollups in
    let ws : List RollupState = c.add_all_points.new.rollups in
    let lent : c.as_slice-columns.result.now ≡ ss = c.as_slice-columns.ensures.value in
    let one : vs ≡ with_all_grid_cells (cells_of vs) us = subst (λ (xs : List RollupState). vs ≡ with_all_grid_cells (cells_of vs) xs) c.as_mut_slice-rollups.ensures.value c.make_all_cells.ensures.kept in
    let make : MakeAllPoints rs lows ss us vs =
    subst (λ (xs : List ColumnState). MakeAllPoints rs lows xs us vs) lent
    (subst (λ (xs : List RollupState). MakeAllPoints rs lows c.as_slice-columns.result.now xs vs) c.as_mut_slice-rollups.ensures.value c.in_ok-make_all_cells.ensures.cells) in
    let add : AddAllPoints rs ss vs ws = subst (λ (xs : List ColumnState). AddAllPoints rs xs vs ws) lent c.add_all_points.ensures.live in
    let rollups : AreRollups rs (map column_of (columns_in index ss)) us = subst (λ (h : StoreContent). AreRollups rs (map column_of h.columns) h.rollups) (sym c.self.view_is) c.requires.rollups in
    let idle : AreIdle (cells_of us) = subst (λ (h : StoreContent). AreIdle (cells_of h.rollups)) (sym c.self.view_is) c.requires.idle in
    let filled : FillsCells rs lows (content_of index ss us) (content_of index ss ws) =
    all_fill rs lows index ss us vs ws c.self.invariant c.requires.lows rollups idle one c.add_all_points.ensures.kept make c.add_all_points.ensures.frozen add in
    subst (λ (h : StoreContent). FillsCells rs lows h (content_of index ss (with_items c.self.inside.rollups ws).items)) c.self.view_is
    (subst (λ (xs : List RollupState). FillsCells rs lows (content_of index ss us) (content_of index ss xs))
    (sym (written_back c.self.inside.rollups _ ws (c.add_all_points.auto.rollups ∙ c.make_all_cells.auto.rollups) c.as_mut_slice-rollups.ensures.value)) filled)
