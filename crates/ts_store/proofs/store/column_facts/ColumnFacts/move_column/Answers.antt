use Rattle.std.proofs.Common.{◌≡◌, ◌∙◌, ◌≤ℤ◌, pos, List, length, map, set, ap, sym, subst, arith}
use Rattle.std.specs.List.{AllByRecursion}
use Rattle.ts_core.specs.settings.Settings.{Rule}
use Rattle.ts_core.specs.store.StoreData.{IsLive}
use Rattle.ts_core.specs.lists.Beside.{OfEach}
use Rattle.ts_core.specs.store.StoreStates.{column_of}
use Rattle.ts_core.specs.moves.StoreMoves.{points_below}
use Rattle.ts_raw.specs.Columns.{ColumnState}
use Rattle.ts_core.specs.lists.Numbered.{IsAt}
use Rattle.ts_store.specs.store.ColumnStates.{StoreContent, content_of}
use Rattle.ts_store.specs.read.PointsRead.{number_of_points}
use Rattle.ts_store.specs.rollup.Rollups.{RollupState, AreRollups, cells_of}
use Rattle.ts_store.specs.retain.RollupSteps.{FreezeFit, content_moved}
use Rattle.ts_store.specs.retain.PointMoves.{MovesPoints}
use Rattle.ts_store.proofs.store.ColumnsLemmas.{its_points, its_columns, its_names, written_back}
use Rattle.ts_store.proofs.write.PointsPut.{wide_of}
use Rattle.ts_store.proofs.image.ListedColumns.{item_has}
use Rattle.ts_store.proofs.retain.RollupMoves.{all_moved_under, held_moves}
use Rattle.ts_store.proofs.rollup.ChangedListsLemmas.{next_changed, unchanged_yet, all_changed}
use Rattle.ts_store.proofs.rollup.RollupsGrow.{rollups-length}
use Rattle.ts_store.proofs.store.column_facts.ColumnFacts.move_column.Goals as goal

-- there is a rollup per rule
each_rule : (h k : StoreContent) (rs : List Rule) (us : List RollupState) → h ≡ k → us ≡ h.rollups → AreRollups rs (map column_of k.columns) k.rollups → length us ≡ length rs
each_rule h k rs us same is a = ap length (is ∙ ap (λ (x : StoreContent). x.rollups) same) ∙ rollups-length rs (map column_of k.columns) k.rollups a

pub bounds-rules-i : goal.bounds-rules-i
bounds-rules-i g c = let each = each_rule _ _ _ _ c.self.view_is c.as_mut_slice-rollups.ensures.value c.requires.rollups in omega (arith, each)

pub offset_bounds-rules-i : goal.offset_bounds-rules-i
offset_bounds-rules-i g c = let each = each_rule _ _ _ _ c.self.view_is c.as_mut_slice-rollups.ensures.value c.requires.rollups in omega (arith, each)

pub move_points-requires : goal.move_points-requires
move_points-requires g c =
    let ss : List ColumnState = c.self.inside.columns.items in
    let many = its_columns _ _ _ _ c.self.invariant c.self.view_is in
    let lent = ap length c.as_slice-columns.ensures.value in
    let all = its_points _ _ _ _ c.self.invariant c.self.view_is in
    let points = ap number_of_points c.as_slice-columns.ensures.value in
    let same : c.args.self.now.rollups ≡ c.as_mut_slice-rollups.result.now = sym (c.as_mut_slice-rollups.ensures.value ∙ ap (λ (h : StoreContent). h.rollups) c.self.view_is) in
    let names = ap length (its_names _ _ _ _ c.self.invariant c.self.view_is) in
    let wide : AllByRecursion (λ (s : RollupState). length s.series_of_column ≡ length c.as_slice-columns.result.now) c.as_mut_slice-rollups.result.now =
    subst (AllByRecursion (λ (s : RollupState). length s.series_of_column ≡ length c.as_slice-columns.result.now)) same
    (wide_of c.args.rules.now (map column_of c.args.self.now.columns) (length c.as_slice-columns.result.now) c.args.self.now.rollups c.requires.rollups (lent ∙ c.self.invariant.each ∙ sym names)) in
    let each = each_rule _ _ _ _ c.self.view_is c.as_mut_slice-rollups.ensures.value c.requires.rollups in
    record {
      interval = item_has (λ (r : Rule). pos 1 ≤ℤ r.interval) c.args.rules.now c.loop-i.i _ c.index-rules-i.result (omega (arith, each)) c.index-rules-i.is c.requires.intervals;
      column = omega (arith, c.requires.column, many, lent);
      each = item_has (λ (s : RollupState). length s.series_of_column ≡ length c.as_slice-columns.result.now) c.as_mut_slice-rollups.result.now c.loop-i.i _ c.index-rollups-i.result (omega arith) (unchanged_yet _ _ _ _ _ _ c.loop-i.invariant) wide;
      few = omega (arith, all, points, c.requires.few);
    }

pub loop-i-preserved : goal.loop-i-preserved
loop-i-preserved g c =
    let each = each_rule _ _ _ _ c.self.view_is c.as_mut_slice-rollups.ensures.value c.requires.rollups in
    next_changed _ c.args.rules.now _ _ c.loop-i.i _ c.index-rules-i.result c.index-rollups-i.result _ (omega (arith, each)) c.index-rules-i.is c.move_points.ensures c.loop-i.invariant

pub index_mut-requires : goal.index_mut-requires
index_mut-requires g c =
    let many = its_columns _ _ _ _ c.self.invariant c.self.view_is in
    omega (arith, c.requires.column, many)

pub returns : goal.returns
returns g c =
    let ss : List ColumnState = c.self.inside.columns.items in
    let us : List RollupState = c.self.inside.rollups.items in
    let vs : List RollupState = c.loop-i.rollups in
    let x : ColumnState = c.index_mut.result.now in
    let n = c.args.column in
    let rs = c.args.rules.now in
    let mark = c.args.mark in
    let many = its_columns _ _ _ _ c.self.invariant c.self.view_is in
    let each = each_rule _ _ _ _ c.self.view_is c.as_mut_slice-rollups.ensures.value c.requires.rollups in
    let rollups : AreRollups rs (map column_of (content_of c.self.inside.index ss us).columns) us =
    subst (λ (h : StoreContent). AreRollups rs (map column_of h.columns) h.rollups) (sym c.self.view_is) c.requires.rollups in
    let live : OfEach (IsLive (content_of c.self.inside.index ss us).columns) rs (cells_of us) =
    subst (λ (h : StoreContent). OfEach (IsLive h.columns) rs (cells_of h.rollups)) (sym c.self.view_is) c.requires.live in
    let written = written_back c.self.inside.rollups _ vs c.loop-i.auto.rollups c.as_mut_slice-rollups.ensures.value in
    let moved : MovesPoints rs ss n mark us vs =
    subst (λ (xs : List ColumnState). MovesPoints rs xs n mark us vs) c.as_slice-columns.ensures.value
    (subst (λ (ws : List RollupState). MovesPoints rs c.as_slice-columns.result.now n mark ws vs) c.as_mut_slice-rollups.ensures.value
    (all_moved_under c.as_slice-columns.result.now n mark rs _ _ (all_changed _ _ _ _ c.loop-i.i (omega (arith, each)) c.loop-i.invariant))) in
    λ s at fit.
    ap (λ (ws : List RollupState). content_of c.self.inside.index (set ss n c.drop_below.new.self) ws) written
    ∙ subst (λ (h : StoreContent). IsAt h.columns n s → FreezeFit rs s.column (points_below mark s.points) (cells_of h.rollups) → content_of c.self.inside.index (set ss n c.drop_below.new.self) vs ≡ content_moved rs s mark h) c.self.view_is
    (λ at fit.
    held_moves c.self.inside.index ss us vs rs mark n x c.drop_below.new.self c.self.invariant (omega (arith, c.requires.column, many)) c.index_mut.ensures.value c.drop_below.ensures.kept rollups live moved
    s at fit) at fit
