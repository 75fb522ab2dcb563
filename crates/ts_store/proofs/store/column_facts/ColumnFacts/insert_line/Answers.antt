use Rattle.std.proofs.Common.{◌≡◌, ◌⊎◌, ◌∙◌, List, [], ℕ, ℤ, length, map, ap, sym, subst, inl, inr, refl, ◌<◌, arith}
use Rattle.std.specs.Vec.{with_items}
use Rattle.std.proofs.lemmas.List.{append-nil, length-map}
use Rattle.std.proofs.lemmas.Slice.Zip.{AllZip-long}
use Rattle.ts_core.specs.lists.Members.{AllDistinct}
use Rattle.ts_core.specs.facts.Facts.{Series, Column, Fact}
use Rattle.ts_core.specs.settings.Settings.{Rule}
use Rattle.ts_core.specs.store.Marks.{index_of}
use Rattle.ts_core.specs.facts.Times.{least_time}
use Rattle.ts_core.specs.store.History.{MayBeTaken}
use Rattle.ts_core.specs.store.StoreStates.{ColumnPoints, column_of, facts_of}
use Rattle.ts_core.specs.moves.StoreMoves.{PutsFacts, GainEmptyCells}
use Rattle.ts_line.specs.Parts.{LinePart, Parts, series_of, fact_of, line_facts}
use Rattle.ts_raw.specs.Columns.{ColumnState}
use Rattle.ts_raw.specs.Indexed.{Indexed, IsSoundIndex}
use Rattle.ts_core.specs.lists.Numbered.{Gains, IsAt}
use Rattle.ts_core.proofs.lists.Results.{on_any_err}
use Rattle.ts_store.specs.write.LinesInColumns.{GrowsForLine}
use Rattle.ts_store.specs.write.Registered.{MayGain, MakesFirst, MakesAll, with_columns, new_columns}
use Rattle.ts_store.specs.store.ColumnStates.{StoreContent, IsSoundContent, content_of, columns_in, with_points, point_maps, IsFactStaged, AreStaged}
use Rattle.ts_store.proofs.write.StagedColumns.{ready_of, numbers_distinct, line_columns, all_committed-length, same_facts}
use Rattle.std.specs.List.{AllByRecursion}
use Rattle.ts_core.specs.store.StoreData.{CellMap, RuleData, OfEachRule, IsLive}
use Rattle.ts_core.specs.lists.Beside.{OfEach}
use Rattle.ts_store.specs.store.RuleLists.{rules_with}
use Rattle.ts_store.proofs.store.RuleListLemmas.{each_with}
use Rattle.ts_store.specs.rollup.Rollups.{RollupState, AreRollups, cells_of}
use Rattle.ts_store.specs.write.LivePuts.{AreOfFields}
use Rattle.ts_store.specs.write.CellsCreated.{bucket_indices, cells_created_under, AreCreatedInPart}
use Rattle.ts_store.specs.write.LinesPut.{GainsCells}
use Rattle.ts_store.proofs.write.RollupsPut.{gain_nothing, line_cells, rollups_held, staged_inside, line_rooms, line_gains, all_gained}
use Rattle.ts_store.proofs.write.PointsPut.{of_fields, wide_of, live_same}
use Rattle.ts_store.proofs.retain.RollupMoves.{rollups_with}
use Rattle.ts_store.proofs.rollup.RollupsGrow.{rollups-length, numbers_inside}
use Rattle.ts_store.proofs.write.CellsCreatedLemmas.{rooms_same, rollups_stay, part_rooms}
use Rattle.ts_store.proofs.store.ColumnsLemmas.{known_of, names_held, facts-length, written_back}
use Rattle.ts_store.proofs.store.column_facts.ColumnFacts.insert_line.Goals as goal
use Rattle.ts_store.proofs.image.PartsBuilt.{series_held}

-- no column is created
none_made : (columns : List ColumnPoints) (facts : List Fact) → MakesFirst columns columns facts
none_made columns facts = record { made = []; others = new_columns (map column_of columns) facts; order = refl; columns = sym (append-nil columns) }

-- its columns still have their rollup series
still_rollups : (rules : List Rule) (old : StoreContent) (before after : Indexed) (states : List ColumnState) (us : List RollupState) → content_of before states us ≡ old → after.columns ≡ before.columns → IsSoundContent before states
    → AreRollups rules (map column_of old.columns) old.rollups → AreRollups rules after.columns us
still_rollups rules old before after states us was same held have =
    subst (λ (cs : List Column). AreRollups rules cs us) (names_held before states held.each ∙ sym same)
    (subst (λ (h : StoreContent). AreRollups rules (map column_of h.columns) h.rollups) (sym was) have)

-- the state after the call ran out of memory
grown : (rules : List Rule) (lows : List ℤ) (p : Parts) (key : Series) (old : StoreContent) (before between after : Indexed) (states states' : List ColumnState) (us us' us'' : List RollupState) → key ≡ series_of p → content_of before states us ≡ old
    → MayGain before.series between.series key → between.columns ≡ before.columns → after.series ≡ between.series → MakesFirst (columns_in between states) (columns_in after states') (line_facts p)
    → IsSoundContent after states' → us'' ≡ us' → AreRollups rules after.columns us' → GainEmptyCells [] (rules_with rules lows (cells_of us)) (rules_with rules lows (cells_of us'))
    → OfEachRule (GainsCells (line_facts p)) (rules_with rules lows (cells_of us)) (rules_with rules lows (cells_of us')) → (cells_of us' ≡ cells_of us) ⊎ AllByRecursion (MayBeTaken least_time) (line_facts p) → GrowsForLine rules lows old (content_of after states' us'') p
grown rules lows p key old before between after states states' us us' us'' named was gains same series made held is rollups has_cells cells taken =
    subst (λ (h : StoreContent). GrowsForLine rules lows h (content_of after states' us'') p) was
    (subst (λ (vs : List RollupState). GrowsForLine rules lows (content_of before states us) (content_of after states' vs) p) (sym is) (record {
      series = subst (λ (xs : List Series). MayGain before.series xs (series_of p)) (sym series) (subst (MayGain before.series between.series) named gains);
      columns = subst (λ (cs : List Column). MakesFirst (with_points cs (point_maps states)) (columns_in after states') (line_facts p)) same made;
      known = known_of after states' us' held;
      rollups = rollups_held rules after states' us' held.each rollups;
      has_cells = has_cells;
      cells = cells;
      taken = taken;
    }))

-- the state after the call ran out of memory before it created a column: at most the series is registered
registered_only : (rules : List Rule) (lows : List ℤ) (p : Parts) (key : Series) (old : StoreContent) (before after : Indexed) (states : List ColumnState) (us : List RollupState) → key ≡ series_of p → content_of before states us ≡ old → MayGain before.series after.series key
    → after.columns ≡ before.columns → IsSoundIndex after → IsSoundContent before states → AreRollups rules (map column_of old.columns) old.rollups → GrowsForLine rules lows old (content_of after states us) p
registered_only rules lows p key old before after states us named was gains same sound held have =
    grown rules lows p key old before after after states states us us us named was gains same refl (none_made (columns_in after states) (line_facts p)) (series_held before after states sound same held) refl
    (still_rollups rules old before after states us was same held have) (rooms_same (rules_with rules lows (cells_of us))) (gain_nothing (line_facts p) (rules_with rules lows (cells_of us))) (inl refl)

-- the columns of the line are there
all_made : (p : Parts) (old : StoreContent) (before between after : Indexed) (states states' : List ColumnState) (us : List RollupState) → content_of before states us ≡ old → between.columns ≡ before.columns → MakesAll (columns_in between states) (columns_in after states') (line_facts p)
    → columns_in after states' ≡ with_columns old.columns (new_columns (map column_of old.columns) (line_facts p))
all_made p old before between after states states' us was same made =
    made ∙ ap (λ (b : List ColumnPoints). with_columns b (new_columns (map column_of b) (line_facts p))) (ap (λ (xs : List Column). with_points xs (point_maps states)) same ∙ ap (λ (h : StoreContent). h.columns) was)

pub commit_points-requires-clause-ready : goal.commit_points-requires-clause-ready
commit_points-requires-clause-ready g c =
    let p : Parts = c.args.line.now in
    let cs : List Column = c.prepare_line.new.index.columns in
    let ss : List ColumnState = c.prepare_line.new.columns.items in
    let ns : List ℕ = c.prepare_line.new.touched.items in
    let staged = c.in_ok-prepare_line.ensures.line.staged in
    let once : AllDistinct ns = numbers_distinct cs ss ns (line_facts p) staged (line_columns p p.fields (rw c.fields.ensures.value at c.fields.ensures.once)) in
    rw c.as_slice-touched.ensures.value (ready_of cs ss ns (line_facts p) c.prepare_line.ensures.line.held.each staged once)

pub commit_points-requires-clause-buckets : goal.commit_points-requires-clause-buckets
commit_points-requires-clause-buckets g c = c.as_slice-buckets.ensures.value ∙ c.in_ok-list_buckets.ensures ∙ ap (bucket_indices c.args.rules.now) (c.time.ensures ∙ sym c.time-2.ensures)

pub commit_points-requires-clause-fields : goal.commit_points-requires-clause-fields
commit_points-requires-clause-fields g c =
    let p : Parts = c.args.line.now in
    ap length c.fields-2.ensures.value ∙ sym (length-map p.fields (fact_of p))
    ∙ AllZip-long (IsFactStaged c.prepare_line.new.index.columns c.prepare_line.new.columns.items) c.prepare_line.new.touched.items (line_facts p) c.in_ok-prepare_line.ensures.line.staged ∙ sym (ap length c.as_slice-touched.ensures.value)

pub commit_points-requires-clause-rules : goal.commit_points-requires-clause-rules
commit_points-requires-clause-rules g c =
    rollups-length c.args.rules.now c.prepare_line.new.index.columns c.create_cells.new.rollups
    (rollups_stay c.args.rules.now c.prepare_line.new.index.columns c.prepare_line.new.rollups c.create_cells.new.rollups c.prepare_line.ensures.rollups c.create_cells.ensures.kept)

pub commit_points-requires-clause-each : goal.commit_points-requires-clause-each
commit_points-requires-clause-each g c =
    wide_of c.args.rules.now c.prepare_line.new.index.columns (length c.prepare_line.new.columns.items) c.create_cells.new.rollups
    (rollups_stay c.args.rules.now c.prepare_line.new.index.columns c.prepare_line.new.rollups c.create_cells.new.rollups c.prepare_line.ensures.rollups c.create_cells.ensures.kept) c.prepare_line.ensures.line.held.each

pub commit_points-requires-clause-few : goal.commit_points-requires-clause-few
commit_points-requires-clause-few g c =
    let p : Parts = c.args.line.now in
    let cs : List Column = c.prepare_line.new.index.columns in
    let ss : List ColumnState = c.prepare_line.new.columns.items in
    let ns : List ℕ = c.prepare_line.new.touched.items in
    let made = all_made p c.args.self.now c.self.inside.index c.register.new.self c.prepare_line.new.index c.self.inside.columns.items ss c.self.inside.rollups.items c.self.view_is c.register.ensures.columns c.in_ok-prepare_line.ensures.line.all in
    let same : facts_of (with_points cs (point_maps ss)) ≡ facts_of c.args.self.now.columns = ap facts_of made ∙ same_facts c.args.self.now.columns (new_columns (map column_of c.args.self.now.columns) (line_facts p)) in
    let count = facts-length cs ss c.prepare_line.ensures.line.held.each in
    let many = ap length same in
    let wide = AllZip-long (IsFactStaged cs ss) ns (line_facts p) c.in_ok-prepare_line.ensures.line.staged in
    let lent = ap length c.as_slice-touched.ensures.value in
    let fit = c.requires.fit in
    omega (arith, count, many, wide, lent, fit)

pub invariant_of-self-2 : goal.invariant_of-self-2
invariant_of-self-2 g c = record {
  sound = c.prepare_line.ensures.line.held.sound;
  each = ap length c.commit_points.ensures.columns ∙ all_committed-length c.prepare_line.new.columns.items c.as_slice-touched.result.now ∙ c.prepare_line.ensures.line.held.each;
}

pub returns-clause-ok : goal.returns-clause-ok
returns-clause-ok g c =
    let p : Parts = c.args.line.now in
    let rs : List Rule = c.args.rules.now in
    let lows : List ℤ = c.args.lows.now in
    let cs : List Column = c.prepare_line.new.index.columns in
    let ss : List ColumnState = c.prepare_line.new.columns.items in
    let ns : List ℕ = c.prepare_line.new.touched.items in
    let old : List ColumnPoints = c.args.self.now.columns in
    let ms : List CellMap = cells_of c.args.self.now.rollups in
    let gains : Gains c.self.inside.index.series c.register.new.self.series (series_of p) = subst (λ (s : Series). Gains c.self.inside.index.series c.register.new.self.series s) c.requires.key c.in-Ok.ensures.registered.gains in
    let us : List RollupState = c.prepare_line.new.rollups in
    let vs : List RollupState = c.create_cells.new.rollups in
    let ws : List RollupState = c.commit_points.new.rollups in
    let written : (with_items c.self.inside.rollups ws).items ≡ ws = written_back c.self.inside.rollups _ ws (c.commit_points.auto.rollups ∙ c.create_cells.auto.rollups ∙ c.prepare_line.auto.rollups) c.as_mut_slice-rollups.ensures.value in
    let staged = c.in_ok-prepare_line.ensures.line.staged in
    let made = all_made p c.args.self.now c.self.inside.index c.register.new.self c.prepare_line.new.index c.self.inside.columns.items ss c.self.inside.rollups.items c.self.view_is c.register.ensures.columns c.in_ok-prepare_line.ensures.line.all in
    let first : cells_of us ≡ ms = c.prepare_line.ensures.cells ∙ ap cells_of (c.as_mut_slice-rollups.ensures.value ∙ ap (λ (h : StoreContent). h.rollups) c.self.view_is) in
    let created : vs ≡ cells_created_under (bucket_indices rs c.time.result) lows ns us =
    c.in_ok-create_cells.ensures.ok ∙ (λ i. cells_created_under ((c.as_slice-buckets.ensures.value ∙ c.in_ok-list_buckets.ensures) i) lows (c.as_slice-touched.ensures.value i) us) in
    let has_cells : GainEmptyCells (line_facts p) (rules_with rs lows ms) (rules_with rs lows (cells_of vs)) = line_rooms rs lows cs ss p c.time.result ns ms us vs c.prepare_line.ensures.rollups staged c.time.ensures first created in
    let gains' : OfEachRule (GainsCells (line_facts p)) (rules_with rs lows ms) (rules_with rs lows (cells_of vs)) =
    line_gains rs lows cs ss p c.time.result ns ms us vs c.prepare_line.ensures.rollups staged c.time.ensures first (all_gained rs lows c.time.result ns us vs created) in
    let have : AreRollups rs cs vs = rollups_stay rs cs us vs c.prepare_line.ensures.rollups c.create_cells.ensures.kept in
    let live : OfEach (IsLive (with_points cs (point_maps ss))) rs (cells_of vs) =
    live_same old (with_points cs (point_maps ss)) (sym (ap facts_of made ∙ same_facts old (new_columns (map column_of old) (line_facts p)))) rs (cells_of vs)
    (each_with (IsLive old) rs lows (cells_of vs) c.requires.lows (c.requires.live (line_facts p) (cells_of vs) has_cells)) in
    let fields : AreOfFields c.time-2.result c.fields-2.result.now (line_facts p) = subst (λ (xs : List (LinePart × ℤ)). AreOfFields c.time-2.result xs (line_facts p)) (sym c.fields-2.ensures.value) (of_fields p c.time-2.result (sym c.time-2.ensures) p.fields) in
    let puts : PutsFacts (with_points cs (point_maps ss)) (rules_with rs lows (cells_of vs)) (with_points cs (point_maps c.commit_points.new.columns.items)) (rules_with rs lows (cells_of ws)) (line_facts p) =
    c.commit_points.ensures.cells cs lows (line_facts p)
    (record { each = c.prepare_line.ensures.line.held.each; once = c.prepare_line.ensures.line.held.sound.columns_once; rollups = have; live = live })
    (record { values = fields; staged = subst (λ (ms : List ℕ). AreStaged cs ss ms (line_facts p)) (sym c.as_slice-touched.ensures.value) staged }) in
    let each : length c.commit_points.new.columns.items ≡ length cs = ap length c.commit_points.ensures.columns ∙ all_committed-length ss c.as_slice-touched.result.now ∙ c.prepare_line.ensures.line.held.each in
    let facts : PutsFacts (with_columns old (new_columns (map column_of old) (line_facts p))) (rules_with rs lows (cells_of vs)) (with_points cs (point_maps c.commit_points.new.columns.items)) (rules_with rs lows (cells_of (with_items c.self.inside.rollups ws).items)) (line_facts p) =
    subst (λ (xs : List RollupState). PutsFacts (with_columns old (new_columns (map column_of old) (line_facts p))) (rules_with rs lows (cells_of vs)) (with_points cs (point_maps c.commit_points.new.columns.items)) (rules_with rs lows (cells_of xs)) (line_facts p)) (sym written)
    (subst (λ (b : List ColumnPoints). PutsFacts b (rules_with rs lows (cells_of vs)) (with_points cs (point_maps c.commit_points.new.columns.items)) (rules_with rs lows (cells_of ws)) (line_facts p)) made puts) in
    record {
      series = subst (λ (xs : List Series). Gains c.args.self.now.series xs (series_of p)) (sym c.prepare_line.ensures.line.series)
          (subst (λ (xs : List Series). Gains xs c.register.new.self.series (series_of p)) (ap (λ (h : StoreContent). h.series) c.self.view_is) gains);
      cells_between = cells_of vs;
      facts = facts;
      taken = c.in_ok-prepare_line.ensures.line.taken;
      known = known_of c.prepare_line.new.index c.commit_points.new.columns.items _ (record { sound = c.prepare_line.ensures.line.held.sound; each = each });
      rollups = subst (λ (xs : List RollupState). AreRollups rs (map column_of (columns_in c.prepare_line.new.index c.commit_points.new.columns.items)) xs) (sym written)
          (rollups_held rs c.prepare_line.new.index c.commit_points.new.columns.items ws each (subst (AreRollups rs cs) (sym c.commit_points.ensures.kept) (rollups_with rs cs (cells_of ws) vs have)));
      has_cells = has_cells;
      cells = line_cells (line_facts p) (with_columns old (new_columns (map column_of old) (line_facts p))) (columns_in c.prepare_line.new.index c.commit_points.new.columns.items) (rules_with rs lows ms)
          (rules_with rs lows (cells_of vs)) _ gains' has_cells facts;
    }

pub create_cells-requires-clause-lows : goal.create_cells-requires-clause-lows
create_cells-requires-clause-lows g c = c.requires.lows ∙ sym (ap length (c.as_slice-buckets.ensures.value ∙ c.in_ok-list_buckets.ensures) ∙ length-map c.args.rules.now (λ (r : Rule). index_of r c.time.result))

pub create_cells-requires-clause-buckets : goal.create_cells-requires-clause-buckets
create_cells-requires-clause-buckets g c =
    ap length (c.as_slice-buckets.ensures.value ∙ c.in_ok-list_buckets.ensures) ∙ length-map c.args.rules.now (λ (r : Rule). index_of r c.time.result)
    ∙ sym (rollups-length c.args.rules.now c.prepare_line.new.index.columns c.prepare_line.new.rollups c.prepare_line.ensures.rollups)

pub create_cells-requires-clause-each : goal.create_cells-requires-clause-each
create_cells-requires-clause-each g c =
    let cs : List Column = c.prepare_line.new.index.columns in
    let ns : List ℕ = c.prepare_line.new.touched.items in
    subst (λ (ks : List ℕ). AllByRecursion (λ (s : RollupState). AllByRecursion (λ n. n < length s.series_of_column) ks) c.prepare_line.new.rollups) (sym c.as_slice-touched.ensures.value)
    (numbers_inside c.args.rules.now cs c.prepare_line.new.rollups ns c.prepare_line.ensures.rollups (staged_inside cs c.prepare_line.new.columns.items ns (line_facts c.args.line.now) c.in_ok-prepare_line.ensures.line.staged))

pub prepare_line-requires-clause-rollups : goal.prepare_line-requires-clause-rollups
prepare_line-requires-clause-rollups g c =
    subst (λ (us : List RollupState). AreRollups c.args.rules.now c.register.new.self.columns us) (sym c.as_mut_slice-rollups.ensures.value)
    (still_rollups c.args.rules.now c.args.self.now c.self.inside.index c.register.new.self c.self.inside.columns.items c.self.inside.rollups.items c.self.view_is c.register.ensures.columns c.self.invariant c.requires.rollups)

pub prepare_line-requires-clause-held : goal.prepare_line-requires-clause-held
prepare_line-requires-clause-held g c = series_held c.self.inside.index c.register.new.self c.self.inside.columns.items c.register.ensures.sound c.register.ensures.columns c.self.invariant

pub returns-in-Err-clause-err : goal.returns-in-Err-clause-err
returns-in-Err-clause-err g c =
    registered_only _ _ _ _ _ _ _ _ _ c.requires.key c.self.view_is (inl c.in-Err.ensures.registered.kept) c.register.ensures.columns c.register.ensures.sound c.self.invariant c.requires.rollups

pub returns-in_err-reserve-clause-err : goal.returns-in_err-reserve-clause-err
returns-in_err-reserve-clause-err g c =
    on_any_err c.from_residual.result
    (registered_only _ _ _ _ _ _ _ _ _ c.requires.key c.self.view_is (inr c.in-Ok.ensures.registered.gains) c.register.ensures.columns c.register.ensures.sound c.self.invariant c.requires.rollups)

pub returns-in_err-list_buckets-clause-err : goal.returns-in_err-list_buckets-clause-err
returns-in_err-list_buckets-clause-err g c =
    on_any_err c.from_residual-in_err-list_buckets.result
    (registered_only _ _ _ _ _ _ _ _ _ c.requires.key c.self.view_is (inr c.in-Ok.ensures.registered.gains) c.register.ensures.columns c.register.ensures.sound c.self.invariant c.requires.rollups)

pub returns-in_err-prepare_line-clause-err : goal.returns-in_err-prepare_line-clause-err
returns-in_err-prepare_line-clause-err g c =
    let us : List RollupState = c.prepare_line.new.rollups in
    let rules : List CellMap → List RuleData = λ ms. rules_with c.args.rules.now c.args.lows.now ms in
    let same : cells_of us ≡ cells_of c.self.inside.rollups.items = c.prepare_line.ensures.cells ∙ ap cells_of c.as_mut_slice-rollups.ensures.value in
    on_any_err c.from_residual-in_err-prepare_line.result
    (grown c.args.rules.now c.args.lows.now c.args.line.now c.args.key.now c.args.self.now c.self.inside.index c.register.new.self c.prepare_line.new.index c.self.inside.columns.items c.prepare_line.new.columns.items c.self.inside.rollups.items us
    (with_items c.self.inside.rollups us).items c.requires.key c.self.view_is (inr c.in-Ok.ensures.registered.gains) c.register.ensures.columns c.prepare_line.ensures.line.series c.prepare_line.ensures.line.made
    c.prepare_line.ensures.line.held (written_back c.self.inside.rollups _ us c.prepare_line.auto.rollups c.as_mut_slice-rollups.ensures.value) c.prepare_line.ensures.rollups (subst (λ (ms : List CellMap). GainEmptyCells [] (rules ms) (rules (cells_of us))) same (rooms_same (rules (cells_of us))))
    (subst (λ (ms : List CellMap). OfEachRule (GainsCells (line_facts c.args.line.now)) (rules ms) (rules (cells_of us))) same (gain_nothing (line_facts c.args.line.now) (rules (cells_of us)))) (inl same))

pub returns-in_err-create_cells-clause-err : goal.returns-in_err-create_cells-clause-err
returns-in_err-create_cells-clause-err g c =
    let rs : List Rule = c.args.rules.now in
    let lows : List ℤ = c.args.lows.now in
    let us : List RollupState = c.prepare_line.new.rollups in
    let vs : List RollupState = c.create_cells.new.rollups in
    let ns : List ℕ = c.prepare_line.new.touched.items in
    let part : AreCreatedInPart (bucket_indices rs c.time.result) lows ns us vs =
    subst (λ (ks : List ℕ). AreCreatedInPart (bucket_indices rs c.time.result) lows ks us vs) c.as_slice-touched.ensures.value
    (subst (λ (is : List ℤ). AreCreatedInPart is lows c.as_slice-touched.result.now us vs) (c.as_slice-buckets.ensures.value ∙ c.in_ok-list_buckets.ensures) c.in_err-create_cells.ensures.err) in
    let before : cells_of us ≡ cells_of c.self.inside.rollups.items = c.prepare_line.ensures.cells ∙ ap cells_of c.as_mut_slice-rollups.ensures.value in
    on_any_err c.from_residual-in_err-create_cells.result
    (grown rs lows c.args.line.now c.args.key.now c.args.self.now c.self.inside.index c.register.new.self c.prepare_line.new.index c.self.inside.columns.items c.prepare_line.new.columns.items c.self.inside.rollups.items vs
    (with_items c.self.inside.rollups vs).items c.requires.key c.self.view_is (inr c.in-Ok.ensures.registered.gains) c.register.ensures.columns c.prepare_line.ensures.line.series c.prepare_line.ensures.line.made
    c.prepare_line.ensures.line.held (written_back c.self.inside.rollups _ vs (c.create_cells.auto.rollups ∙ c.prepare_line.auto.rollups) c.as_mut_slice-rollups.ensures.value) (rollups_stay rs c.prepare_line.new.index.columns us vs c.prepare_line.ensures.rollups c.create_cells.ensures.kept)
    (subst (λ (ms : List CellMap). GainEmptyCells [] (rules_with rs lows ms) (rules_with rs lows (cells_of vs))) before (part_rooms rs lows c.time.result ns us vs part))
    (line_gains rs lows c.prepare_line.new.index.columns c.prepare_line.new.columns.items c.args.line.now c.time.result ns (cells_of c.self.inside.rollups.items) us vs c.prepare_line.ensures.rollups c.in_ok-prepare_line.ensures.line.staged c.time.ensures before part)
    (inr c.in_ok-prepare_line.ensures.line.taken))

pub invariant_of-self : goal.invariant_of-self
invariant_of-self g c = series_held c.self.inside.index c.register.new.self c.self.inside.columns.items c.register.ensures.sound c.register.ensures.columns c.self.invariant

pub invariant_of-self-in_err-reserve : goal.invariant_of-self-in_err-reserve
invariant_of-self-in_err-reserve g c = series_held c.self.inside.index c.register.new.self c.self.inside.columns.items c.register.ensures.sound c.register.ensures.columns c.self.invariant

pub invariant_of-self-in_err-list_buckets : goal.invariant_of-self-in_err-list_buckets
invariant_of-self-in_err-list_buckets g c = series_held c.self.inside.index c.register.new.self c.self.inside.columns.items c.register.ensures.sound c.register.ensures.columns c.self.invariant

pub prepare_line-requires-clause-series : goal.prepare_line-requires-clause-series
prepare_line-requires-clause-series g c = subst (λ (s : Series). IsAt c.register.new.self.series c.in-Ok.series s) c.requires.key c.in-Ok.ensures.registered.number
