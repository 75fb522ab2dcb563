use Rattle.std.proofs.Common.{Result, Err, ◌≡◌, ◌∙◌, ◌<◌, ◌++◌, ◌∷◌, [], List, ℕ, ℤ, ap, refl, sym, subst, map, take, length, arith, set, get_or, ◌+◌, Some, rules, SFits, w64, to_z, of_z, to_z-of_z}
use Rattle.std.specs.List.{slice_get, AllByRecursion}
use Rattle.std.proofs.lemmas.List.{append-nil, take_all}
use Rattle.std.proofs.lemmas.Option.{slice_get_within}
use Rattle.std.proofs.lemmas.Result.{err_from_is_err_and}
use Rattle.ts_core.specs.facts.Facts.{Series, Column, Fact}
use Rattle.ts_core.specs.store.History.{MayBeTaken}
use Rattle.ts_core.specs.facts.Times.{IsTime, least_time}
use Rattle.ts_core.specs.lists.Members.{AllDistinct}
use Rattle.ts_line.specs.Parts.{LinePart, Parts, field_text, fact_of, series_of, line_facts}
use Rattle.ts_raw.specs.Columns.{ColumnState}
use Rattle.ts_raw.specs.Indexed.{Indexed, column_in}
use Rattle.ts_store.specs.store.ColumnStates.{no_column, point_maps, columns_in, with_points, with_point_staged, AreStaged, MayGrow, IsSoundContent}
use Rattle.ts_store.specs.write.LinesInColumns.{StagesPoint}
use Rattle.ts_store.specs.write.Registered.{MakesAll, MakesFirst}
use Rattle.ts_store.proofs.write.StagedColumns.{grown_staged, made_next, first_made, next_staged, facts_next, column_is}
use Rattle.ts_store.proofs.store.Stands.{taken_more}
use Rattle.ts_store.proofs.write.columns.prepare_line.Goals as goal

-- the state after a refusal
refused : {E : Type 0} (p : Parts) (before : Indexed) (states : List ColumnState) (after : Indexed) (states' : List ColumnState) (ns : List ℕ) (r : Result (Unit {0}) E) (e : E) → r ≡ Err e
    → MakesFirst (columns_in before states) (columns_in after states') (line_facts p) → IsSoundContent after states' → after.series ≡ before.series → StagesPoint p before states after states' ns r
refused {E} p before states after states' ns r e is made held series =
    subst (λ (q : Result (Unit {0}) E). StagesPoint p before states after states' ns q) (sym is) (record { staged = tt; taken = tt; all = tt; made = made; held = held; series = series })

pub column_for-requires-clause-series : goal.column_for-requires-clause-series
column_for-requires-clause-series g c =
    let w = slice_get_within c.args.index.now.series c.args.series (series_of c.args.line.now) c.requires.series in
    rw c.loop-field.invariant.series w

pub returns-in_err-column-clause-line : goal.returns-in_err-column-clause-line
returns-in_err-column-clause-line g c =
    let i = c.loop-field.invariant in
    let same = c.in_err-column.ensures.column.kept in
    let p = err_from_is_err_and c.from_residual.result c.from_residual.ensures.1 in
    refused _ _ _ _ _ _ _ _ p.1
    (first_made c.args.line.now _ _ c.fields-field-items.result.now c.loop-field.field-index c.fields-field-items.ensures.value ((λ j. with_points (same.0 j) (point_maps (same.1 j))) ∙ i.made))
    (record { sound = c.column_for.ensures.column.sound i.held.sound; each = ap length same.1 ∙ i.held.each ∙ sym (ap length same.0) }) (c.column_for.ensures.column.series ∙ i.series)

pub prepare_at-requires : goal.prepare_at-requires
prepare_at-requires g c =
    let i = c.loop-field.invariant in
    let len = (grown_staged _ c.loop-field.index.columns c.column_for.new.index.columns c.loop-field.columns.items c.column_for.new.columns.items c.loop-field.touched.items _ i.held.each c.in_ok-column.ensures.column.grown i.staged).1 in
    let w = slice_get_within c.column_for.new.index.columns c.in_ok-column.column _ c.in_ok-column.ensures.column.number in
    omega (arith, w, len)

pub returns-in_err-prepare_at-clause-line : goal.returns-in_err-prepare_at-clause-line
returns-in_err-prepare_at-clause-line g c =
    let i = c.loop-field.invariant in
    let more = made_next c.args.line.now c.loop-field.index c.args.series c.text-name.result.now _ c.column_for.new.index.columns c.loop-field.columns.items c.column_for.new.columns.items c.fields-field-items.result.now c.loop-field.field-index
    c.field-item.result c.in_ok-column.ensures.column.grown (ap (λ (xs : List Series). slice_get xs c.args.series) i.series ∙ c.requires.series) (c.text-name.ensures ∙ ap (λ (q : LinePart). q.text) c.name.ensures)
    c.fields-field-items.ensures.value c.fields-field-items.ensures.once c.loop-field-test.true c.field-item.is i.held.each i.made in
    let p = err_from_is_err_and c.from_residual-in_err-prepare_at.result c.from_residual-in_err-prepare_at.ensures.1 in
    refused _ _ _ _ _ _ _ _ p.1
    (first_made c.args.line.now _ _ c.fields-field-items.result.now (c.loop-field.field-index + 1) c.fields-field-items.ensures.value (ap (with_points c.column_for.new.index.columns) c.prepare_at.ensures.unchanged ∙ more))
    (record { sound = c.column_for.ensures.column.sound i.held.sound; each = c.prepare_at.ensures.len ∙ (grown_staged _ c.loop-field.index.columns c.column_for.new.index.columns c.loop-field.columns.items c.column_for.new.columns.items c.loop-field.touched.items _ i.held.each c.in_ok-column.ensures.column.grown i.staged).1 })
    (c.column_for.ensures.column.series ∙ i.series)

pub loop-field-preserved : goal.loop-field-preserved
loop-field-preserved g c =
    let i = c.loop-field.invariant in
    let p : Parts = c.args.line.now in
    let x : LinePart × ℤ = c.field-item.result in
    let k : ℕ = c.loop-field.field-index in
    let n : ℕ = c.in_ok-column.column in
    let cs : List Column = c.loop-field.index.columns in
    let cs' : List Column = c.column_for.new.index.columns in
    let ss : List ColumnState = c.loop-field.columns.items in
    let ss' : List ColumnState = c.column_for.new.columns.items in
    let ss'' : List ColumnState = c.prepare_at.new.columns.items in
    let ns : List ℕ = c.loop-field.touched.items in
    let e = c.fields-field-items.ensures.value in
    let staged : AreStaged cs ss ns (map (fact_of p) (take k p.fields)) = subst (λ (fs : List (LinePart × ℤ)). AreStaged cs ss ns (map (fact_of p) (take k fs))) e i.staged in
    let within : k < length p.fields = subst (λ (fs : List (LinePart × ℤ)). k < length fs) e c.loop-field-test.true in
    let is : x ≡ get_or p.fields k x = subst (λ (fs : List (LinePart × ℤ)). x ≡ get_or fs k x) e c.field-item.is in
    let once : AllDistinct (map field_text p.fields) = subst (λ (fs : List (LinePart × ℤ)). AllDistinct (map field_text fs)) e c.fields-field-items.ensures.once in
    let there : slice_get c.loop-field.index.series c.args.series ≡ Some (series_of p) = ap (λ (xs : List Series). slice_get xs c.args.series) i.series ∙ c.requires.series in
    let name : c.text-name.result.now ≡ x.0.text = c.text-name.ensures ∙ ap (λ (q : LinePart). q.text) c.name.ensures in
    let named : column_in c.loop-field.index c.args.series c.text-name.result.now ≡ (fact_of p x).column = column_is p c.loop-field.index c.args.series c.text-name.result.now x there name in
    let at : slice_get cs' n ≡ Some (fact_of p x).column = c.in_ok-column.ensures.column.number ∙ ap Some named in
    let grown : MayGrow (fact_of p x).column cs ss cs' ss' = subst (λ (d : Column). MayGrow d cs ss cs' ss') named c.in_ok-column.ensures.column.grown in
    let fits : SFits w64 c.value.result = search rules in
    let value : to_z w64 (of_z w64 c.value.result) ≡ x.1 = to_z-of_z fits ∙ c.value.ensures in
    let time : IsTime c.time.result = search rules in
    let taken : MayBeTaken least_time (fact_of p x) = subst (λ (f : Fact). MayBeTaken least_time f) (λ j. record { column = (fact_of p x).column; time = c.time.ensures j; value = c.value.ensures j }) (record { valid = time; fits = search rules; raw = time.not_before }) in
    let set_is : ss'' ≡ set ss' n (with_point_staged (get_or ss' n no_column) p.time x.1) =
    c.in_ok-prepare_at.ensures.ok ∙ (λ j. set ss' n (with_point_staged (get_or ss' n no_column) (c.time.ensures j) (value j))) in
    let next = next_staged p cs cs' ss ss' ss'' ns n k x i.held.each staged grown at within is once set_is in
    record {
      staged = rw c.in_ok-prepare_at.ensures.touched (subst (λ (fs : List (LinePart × ℤ)). AreStaged cs' ss'' (ns ++ n ∷ []) (map (fact_of p) (take (k + 1) fs))) (sym e) next.0);
      taken = subst (λ (fs : List (LinePart × ℤ)). AllByRecursion (MayBeTaken least_time) (map (fact_of p) (take (k + 1) fs))) (sym e)
          (subst (AllByRecursion (MayBeTaken least_time)) (facts_next p k x within is) (taken_more least_time (map (fact_of p) (take k p.fields)) (fact_of p x)
          (subst (λ (fs : List (LinePart × ℤ)). AllByRecursion (MayBeTaken least_time) (map (fact_of p) (take k fs))) e i.taken) taken));
      made = ap (with_points cs') c.prepare_at.ensures.unchanged ∙ made_next p c.loop-field.index c.args.series c.text-name.result.now _ cs' ss ss' c.fields-field-items.result.now k x c.in_ok-column.ensures.column.grown there name e c.fields-field-items.ensures.once c.loop-field-test.true c.field-item.is i.held.each i.made;
      held = record { sound = c.column_for.ensures.column.sound i.held.sound; each = next.1 };
      rollups = c.column_for.ensures.rollups;
      cells = c.column_for.ensures.cells ∙ i.cells;
      series = c.column_for.ensures.column.series ∙ i.series;
    }

pub loop-field-init : goal.loop-field-init
loop-field-init g c = record {
  staged = subst (λ ns. AreStaged c.args.index.now.columns c.args.columns.now.items ns []) (sym c.requires.none) tt;
  taken = tt;
  made = sym (append-nil (columns_in c.args.index.now c.args.columns.now.items));
  held = c.requires.held;
  rollups = c.requires.rollups;
  cells = refl;
  series = refl;
}

pub returns-clause-line : goal.returns-clause-line
returns-clause-line g c =
    let i = c.loop-field.invariant in
    let all = take_all c.loop-field.field-index c.fields-field-items.result.now c.loop-field-test.false ∙ c.fields-field-items.ensures.value in
    record {
      staged = subst (λ (fs : List (LinePart × ℤ)). AreStaged c.loop-field.index.columns c.loop-field.columns.items c.loop-field.touched.items (map (fact_of c.args.line.now) fs)) all i.staged;
      taken = subst (λ (fs : List (LinePart × ℤ)). AllByRecursion (MayBeTaken least_time) (map (fact_of c.args.line.now) fs)) all i.taken;
      all = subst (λ (fs : List (LinePart × ℤ)). MakesAll (columns_in c.args.index.now c.args.columns.now.items) (columns_in c.loop-field.index c.loop-field.columns.items) (map (fact_of c.args.line.now) fs)) all i.made;
      made = first_made c.args.line.now _ _ c.fields-field-items.result.now c.loop-field.field-index c.fields-field-items.ensures.value i.made;
      held = i.held;
      series = i.series;
    }
