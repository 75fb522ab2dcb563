-- Answers whose raw points keep the parts that the query's functions need: they have the functions' values.
use Rattle.std.proofs.Common.{◌≡◌, ℕ, zero, suc, ℤ, pos, ◌+ℤ◌, ◌*ℤ◌, true, false, cond, not, List, [], ◌∷◌, map, filter, replicate, Option, Some, None, option_map, ◌&&◌, refl, sym, ◌∙◌, ap, ap₂, subst, true≢false, nat_lt, ◌+◌, ◌^◌}
use Rattle.std.proofs.lemmas.Bool.{and_parts}
use Rattle.std.proofs.lemmas.List.{length-map}
use Rattle.std.specs.List.{list_all, AllByRecursion}
use Rattle.std.specs.FinMap.{find, put}
use Rattle.std.specs.FinMap.Entries.{by_order}
use Rattle.std.specs.declared.cmp.Ordering.TheVariants.{Less, Equal, Greater}
use Rattle.ts_core.specs.declared.queries.fill.Fill.{Fill}
use Rattle.ts_core.specs.declared.queries.fill.Fill.TheVariants as fills
use Rattle.ts_core.specs.declared.queries.value.Function.{Function}
use Rattle.ts_core.specs.declared.queries.value.Function.TheVariants.{Count, Sum, Min, Max, First, Last, Mean}
use Rattle.ts_core.specs.declared.queries.value.Value.{Value}
use Rattle.ts_core.specs.declared.queries.value.Value.TheVariants.{Number}
use Rattle.ts_core.specs.declared.aggregates.aggregate.Extremes.{Extremes}
use Rattle.ts_core.specs.facts.Facts.{Text, is_of}
use Rattle.ts_core.specs.aggregates.Aggregates.{Aggregate, empty_aggregate, aggregate_of_one, merged, merged_within}
use Rattle.ts_core.specs.facts.Tags.{tag_values}
use Rattle.ts_core.specs.settings.Settings.{Rule}
use Rattle.ts_core.specs.store.Marks.{index_of}
use Rattle.ts_core.specs.store.StoreStates.{ColumnPoints, RuleCells, total_in}
use Rattle.ts_core.specs.store.Views.{ViewState}
use Rattle.ts_core.specs.plans.Assembly.{representative, rule_shown}
use Rattle.ts_core.specs.plans.Pieces.{Source, Raw, Rollup, Piece, start_of}
use Rattle.ts_core.specs.queries.Queries.{Query, meets, group_of}
use Rattle.ts_core.specs.queries.Answers.{Row, group_cmp, same_group, bucket_in}
use Rattle.ts_core.specs.queries.Fills.{FilledRow, FilledGroup, is_empty, has_data, value_of, number_value, extreme_value, shown, numbered, repeated, last_data, with_previous, filled_rows, filled}
use Rattle.ts_store.specs.read.ViewResults.{ColumnRef, column_refs_where, points_at, SeenCell, cells_within}
use Rattle.ts_exec.specs.declared.aggregate_parts.AggregateParts.{AggregateParts}
use Rattle.ts_exec.specs.declared.aggregate_parts.AggregateParts.TheVariants.{CountAlone, CountAndSum, Bounds, Whole}
use Rattle.ts_exec.specs.Answered.{HasRows}
use Rattle.ts_exec.specs.RowParts.{BucketGrid, bucket_grid, row_index_at, with_part, bounds_of, part_of, part_of_point, with_point_parts}
use Rattle.ts_exec.specs.GroupTables.{Table, rows_or, rows_for, width, with_cell_part, with_column_parts, with_column_ref, with_column_refs, is_cell_taken, with_rule_cell, with_cell_parts, with_rule_cells, with_source, with_pieces, rows_from, group_with, given}
use Rattle.ts_exec.specs.JoinedPieces.{has_room, have_room}
use Rattle.ts_exec.specs.Selections.{suffice, HaveSameValues}
use Rattle.ts_exec.proofs.Given.{given-rows}

-- ---- one aggregate

-- an aggregate without the parts that aren't kept
abbrev kept_part : AggregateParts → Aggregate → Aggregate
kept_part CountAlone a = record { count = a.count; sum = pos 0; extremes = None }
kept_part CountAndSum a = record { count = a.count; sum = a.sum; extremes = None }
kept_part Bounds a = part_of Bounds a
kept_part Whole a = a

bounds_merged : (m n : ℕ) (s t : ℤ) (d e : Option Extremes) → let x : Aggregate = record { count = m; sum = s; extremes = d } in let a : Aggregate = record { count = n; sum = t; extremes = e } in
    part_of Bounds (merged x a) ≡ merged (part_of Bounds x) (part_of Bounds a)
bounds_merged m n s t None e = refl
bounds_merged m n s t (Some d) None = refl
bounds_merged m n s t (Some d) (Some e) = refl

kept_merged : (parts : AggregateParts) (x a : Aggregate) → kept_part parts (merged_within a x) ≡ merged_within (kept_part parts a) (kept_part parts x)
kept_merged CountAlone x a = elim (nat_lt (2 ^ 62) (x.count + a.count)) as (λ b. kept_part CountAlone (cond b x (merged x a)) ≡ cond b (kept_part CountAlone x) (merged (kept_part CountAlone x) (kept_part CountAlone a))) [ true ↦ refl | false ↦ refl ]
kept_merged CountAndSum x a = elim (nat_lt (2 ^ 62) (x.count + a.count)) as (λ b. kept_part CountAndSum (cond b x (merged x a)) ≡ cond b (kept_part CountAndSum x) (merged (kept_part CountAndSum x) (kept_part CountAndSum a))) [ true ↦ refl | false ↦ refl ]
kept_merged Bounds x a =
    elim (nat_lt (2 ^ 62) (x.count + a.count)) as (λ b. kept_part Bounds (cond b x (merged x a)) ≡ cond b (kept_part Bounds x) (merged (kept_part Bounds x) (kept_part Bounds a))) [
      | true ↦ refl
      | false ↦ bounds_merged x.count a.count x.sum a.sum x.extremes a.extremes
    ]
kept_merged Whole x a = refl

kept_point : (parts : AggregateParts) (t v : ℤ) → kept_part parts (aggregate_of_one t v) ≡ kept_part parts (part_of_point parts t v)
kept_point CountAlone t v = refl
kept_point CountAndSum t v = refl
kept_point Bounds t v = refl
kept_point Whole t v = refl

kept_empty : (parts : AggregateParts) → kept_part parts empty_aggregate ≡ empty_aggregate
kept_empty CountAlone = refl
kept_empty CountAndSum = refl
kept_empty Bounds = refl
kept_empty Whole = refl

bound_value : (bound : Extremes → ℤ) → ((x : Extremes) → bound (bounds_of x) ≡ bound x) → (o : Option Extremes) → extreme_value bound (option_map bounds_of o) ≡ extreme_value bound o
bound_value bound same None = refl
bound_value bound same (Some x) = ap Number (same x)

-- the value of a function that needs no other parts
kept_value : (parts : AggregateParts) (a : Aggregate) (f : Function) → suffice parts f ≡ true → value_of (kept_part parts a) f ≡ value_of a f
kept_value CountAlone a Count e = refl
kept_value CountAlone a Sum e = absurd (true≢false (sym e))
kept_value CountAlone a Min e = absurd (true≢false (sym e))
kept_value CountAlone a Max e = absurd (true≢false (sym e))
kept_value CountAlone a First e = absurd (true≢false (sym e))
kept_value CountAlone a Last e = absurd (true≢false (sym e))
kept_value CountAlone a Mean e = absurd (true≢false (sym e))
kept_value CountAndSum a Count e = refl
kept_value CountAndSum a Sum e = refl
kept_value CountAndSum a Min e = absurd (true≢false (sym e))
kept_value CountAndSum a Max e = absurd (true≢false (sym e))
kept_value CountAndSum a First e = absurd (true≢false (sym e))
kept_value CountAndSum a Last e = absurd (true≢false (sym e))
kept_value CountAndSum a Mean e = refl
kept_value Bounds a Count e = refl
kept_value Bounds a Sum e = refl
kept_value Bounds a Min e = bound_value (λ (x : Extremes). x.min) (λ x. refl) a.extremes
kept_value Bounds a Max e = bound_value (λ (x : Extremes). x.max) (λ x. refl) a.extremes
kept_value Bounds a First e = absurd (true≢false (sym e))
kept_value Bounds a Last e = absurd (true≢false (sym e))
kept_value Bounds a Mean e = refl
kept_value Whole a f e = refl

kept_values : (parts : AggregateParts) (a : Aggregate) (fs : List Function) → list_all (suffice parts) fs ≡ true → map (value_of (kept_part parts a)) fs ≡ map (value_of a) fs
kept_values parts a [] h = refl
kept_values parts a (f ∷ fs) h =
    let both = and_parts (suffice parts f) (list_all (suffice parts) fs) h in
    ap₂ (λ (v : Value) (vs : List Value). v ∷ vs) (kept_value parts a f both.0) (kept_values parts a fs both.1)

-- ---- rows

module _ (parts : AggregateParts) where
  abbrev kept_rows : List Aggregate → List Aggregate
  kept_rows rows = map (kept_part parts) rows

  kept_with_part : (i : ℕ) (a : Aggregate) (rows : List Aggregate) → kept_rows (with_part i a rows) ≡ with_part i (kept_part parts a) (kept_rows rows)
  kept_with_part i a [] = refl
  kept_with_part zero a (x ∷ rows) = ap (λ (y : Aggregate). y ∷ kept_rows rows) (kept_merged parts x a)
  kept_with_part (suc i) a (x ∷ rows) = ap (λ (ys : List Aggregate). kept_part parts x ∷ ys) (kept_with_part i a rows)

  same_part : (i : ℕ) (a b : Aggregate) (rows others : List Aggregate) → kept_part parts a ≡ kept_part parts b → kept_rows rows ≡ kept_rows others → kept_rows (with_part i a rows) ≡ kept_rows (with_part i b others)
  same_part i a b rows others h e = kept_with_part i a rows ∙ ap₂ (λ (x : Aggregate) (xs : List Aggregate). with_part i x xs) h e ∙ sym (kept_with_part i b others)

  same_points : (grid : BucketGrid) (ps : List (ℤ × ℤ)) (rows others : List Aggregate) → kept_rows rows ≡ kept_rows others → kept_rows (with_point_parts Whole grid ps rows) ≡ kept_rows (with_point_parts parts grid ps others)
  same_points grid [] rows others e = e
  same_points grid (p ∷ ps) rows others e =
      same_points grid ps _ _ (same_part (row_index_at grid p.0) (aggregate_of_one p.0 p.1) (part_of_point parts p.0 p.1) rows others (kept_point parts p.0 p.1) e)

  kept_none : (n : ℕ) → kept_rows (replicate n empty_aggregate) ≡ replicate n empty_aggregate
  kept_none zero = refl
  kept_none (suc n) = ap₂ (λ (x : Aggregate) (xs : List Aggregate). x ∷ xs) (kept_empty parts) (kept_none n)

  -- ---- tables

  abbrev kept_group : List Text × List Aggregate → List Text × List Aggregate
  kept_group e = (e.0, kept_rows e.1)

  abbrev kept_table : Table → Table
  kept_table t = map kept_group t

  kept_put : (g : List Text) (rows : List Aggregate) (t : Table) → kept_table (put group_cmp g rows t) ≡ put group_cmp g (kept_rows rows) (kept_table t)
  kept_put g rows [] = refl
  kept_put g rows (e ∷ t) =
      elim (group_cmp g e.0) as (λ o. kept_table (by_order o ((g, rows) ∷ e ∷ t) ((e.0, rows) ∷ t) (e ∷ put group_cmp g rows t))
      ≡ by_order o ((g, kept_rows rows) ∷ kept_group e ∷ kept_table t) ((e.0, kept_rows rows) ∷ kept_table t) (kept_group e ∷ put group_cmp g (kept_rows rows) (kept_table t))) [
        | Less ↦ refl
        | Equal ↦ refl
        | Greater ↦ ap (λ (x : Table). kept_group e ∷ x) (kept_put g rows t)
      ]

  kept_find : (g : List Text) (t : Table) → option_map kept_rows (find group_cmp g t) ≡ find group_cmp g (kept_table t)
  kept_find g [] = refl
  kept_find g (e ∷ t) =
      elim (same_group g e.0) as (λ b. option_map kept_rows (cond b (Some e.1) (find group_cmp g t)) ≡ cond b (Some (kept_rows e.1)) (find group_cmp g (kept_table t))) [
        | true ↦ refl
        | false ↦ kept_find g t
      ]

  kept_rows_for : (n : ℕ) (g : List Text) (t : Table) → kept_rows (rows_for n g t) ≡ rows_for n g (kept_table t)
  kept_rows_for n g t = kept_rows_or (find group_cmp g t) ∙ ap (rows_or n) (kept_find g t)
    where
      kept_rows_or : (o : Option (List Aggregate)) → kept_rows (rows_or n o) ≡ rows_or n (option_map kept_rows o)
      kept_rows_or None = kept_none n
      kept_rows_or (Some rows) = refl

  -- two tables have the same parts that are kept
  abbrev AreSame : Table → Table → Type 0
  AreSame t u = kept_table t ≡ kept_table u

  same_rows_for : (n : ℕ) (g : List Text) (t u : Table) → AreSame t u → kept_rows (rows_for n g t) ≡ kept_rows (rows_for n g u)
  same_rows_for n g t u e = kept_rows_for n g t ∙ ap (λ (x : Table). rows_for n g x) e ∙ sym (kept_rows_for n g u)

  same_put : (g : List Text) (rows others : List Aggregate) (t u : Table) → kept_rows rows ≡ kept_rows others → AreSame t u → AreSame (put group_cmp g rows t) (put group_cmp g others u)
  same_put g rows others t u h e = kept_put g rows t ∙ ap₂ (λ (xs : List Aggregate) (x : Table). put group_cmp g xs x) h e ∙ sym (kept_put g others u)

  same_cell_part : (n : ℕ) (g : List Text) (i : ℕ) (a : Aggregate) (t u : Table) → AreSame t u → AreSame (with_cell_part n g i a t) (with_cell_part n g i a u)
  same_cell_part n g i a t u e = same_put g _ _ t u (same_part i a a (rows_for n g t) (rows_for n g u) refl (same_rows_for n g t u e)) e

  same_column : (grid : BucketGrid) (n : ℕ) (g : List Text) (ps : List (ℤ × ℤ)) (t u : Table) → AreSame t u → AreSame (with_column_parts Whole grid n g ps t) (with_column_parts parts grid n g ps u)
  same_column grid n g [] t u e = e
  same_column grid n g (p ∷ ps) t u e = same_put g _ _ t u (same_points grid (p ∷ ps) (rows_for n g t) (rows_for n g u) (same_rows_for n g t u e)) e

  -- ---- pieces

  module _ (q : Query) (a b : ℤ) where
    same_column_ref : (cs : List ColumnPoints) (s : ColumnRef) (t u : Table) → AreSame t u → AreSame (with_column_ref Whole q cs a b s t) (with_column_ref parts q cs a b s u)
    same_column_ref cs s t u e =
        let g : List Text = tag_values q.group_tags s.series in
        let ps : List (ℤ × ℤ) = points_at cs s.number a b in
        elim (list_all (meets s.series) q.conditions) as (λ c. AreSame (cond c (with_column_parts Whole (bucket_grid q) (width q) g ps t) t) (cond c (with_column_parts parts (bucket_grid q) (width q) g ps u) u)) [
          | true ↦ same_column (bucket_grid q) (width q) g ps t u e
          | false ↦ e
        ]

    same_column_refs : (cs : List ColumnPoints) (ss : List ColumnRef) (t u : Table) → AreSame t u → AreSame (with_column_refs Whole q cs a b ss t) (with_column_refs parts q cs a b ss u)
    same_column_refs cs [] t u e = e
    same_column_refs cs (s ∷ ss) t u e = same_column_refs cs ss _ _ (same_column_ref cs s t u e)

    same_cell : (r : Rule) (c : SeenCell) (t u : Table) → AreSame t u → AreSame (with_rule_cell q r a b c t) (with_rule_cell q r a b c u)
    same_cell r c t u e =
        let g : List Text = group_of q (representative r c.cell) in
        let i : ℕ = row_index_at (bucket_grid q) (start_of r c.cell.index) in
        elim (is_cell_taken q r a b c) as (λ z. AreSame (cond z (with_cell_part (width q) g i (total_in c.parts) t) t) (cond z (with_cell_part (width q) g i (total_in c.parts) u) u)) [
          | true ↦ same_cell_part (width q) g i (total_in c.parts) t u e
          | false ↦ e
        ]

    same_cells : (r : Rule) (cs : List SeenCell) (t u : Table) → AreSame t u → AreSame (with_cell_parts q r a b cs t) (with_cell_parts q r a b cs u)
    same_cells r [] t u e = e
    same_cells r (c ∷ cs) t u e = same_cells r cs _ _ (same_cell r c t u e)

    same_rule : (o : Option RuleCells) (t u : Table) → AreSame t u → AreSame (with_rule_cells q a b o t) (with_rule_cells q a b o u)
    same_rule None t u e = e
    same_rule (Some r) t u e = same_cells r.rule (cells_within r (index_of r.rule a) (index_of r.rule b)) t u e

    same_source : (seen : ViewState) (source : Source) (t u : Table) → AreSame t u → AreSame (with_source Whole seen q source a b t) (with_source parts seen q source a b u)
    same_source seen Raw t u e = same_column_refs seen.columns (column_refs_where (is_of q.measurement q.field) seen.columns) t u e
    same_source seen (Rollup name) t u e = same_rule (rule_shown name seen.rules) t u e

  same_pieces : (seen : ViewState) (q : Query) (ps : List Piece) (t u : Table) → AreSame t u → AreSame (with_pieces Whole seen q ps t) (with_pieces parts seen q ps u)
  same_pieces seen q [] t u e = e
  same_pieces seen q (p ∷ ps) t u e = same_pieces seen q ps _ _ (same_source q p.from p.to seen p.source t u e)

  -- ---- each group has a row for every bucket

  kept_all : (n : ℕ) (t : Table) → AllByRecursion (HasRows n) t → AllByRecursion (HasRows n) (kept_table t)
  kept_all n [] h = tt
  kept_all n (e ∷ t) h = (length-map e.1 (kept_part parts) ∙ h.0, kept_all n t h.1)

  all_kept : (n : ℕ) (t : Table) → AllByRecursion (HasRows n) (kept_table t) → AllByRecursion (HasRows n) t
  all_kept n [] h = tt
  all_kept n (e ∷ t) h = (sym (length-map e.1 (kept_part parts)) ∙ h.0, all_kept n t h.1)

  pub pieces-rows : (seen : ViewState) (q : Query) (ps : List Piece) → AllByRecursion (HasRows (width q)) (with_pieces parts seen q ps [])
  pieces-rows seen q ps = all_kept (width q) _ (subst (AllByRecursion (HasRows (width q))) (same_pieces seen q ps [] [] refl) (kept_all (width q) _ (given-rows seen q ps)))

  -- ---- rows that have room

  kept_count : (k : AggregateParts) (a : Aggregate) → (kept_part k a).count ≡ a.count
  kept_count CountAlone a = refl
  kept_count CountAndSum a = refl
  kept_count Bounds a = refl
  kept_count Whole a = refl

  rows_room : (rows : List Aggregate) → list_all has_room (kept_rows rows) ≡ list_all has_room rows
  rows_room [] = refl
  rows_room (a ∷ rows) = ap₂ (λ x y. x && y) (ap (λ n. nat_lt n (2 ^ 61)) (kept_count parts a)) (rows_room rows)

  table_room : (t : Table) → have_room (kept_table t) ≡ have_room t
  table_room [] = refl
  table_room (e ∷ t) = ap₂ (λ x y. x && y) (rows_room e.1) (table_room t)

  -- the rows of the whole answer have room, too
  pub whole-room : (seen : ViewState) (q : Query) (ps : List Piece) → have_room (with_pieces parts seen q ps []) ≡ true → have_room (with_pieces Whole seen q ps []) ≡ true
  whole-room seen q ps h =
      sym (table_room (with_pieces Whole seen q ps [])) ∙ ap (λ (t : Table). have_room t) (same_pieces seen q ps [] [] refl) ∙ table_room (with_pieces parts seen q ps []) ∙ h

  -- ---- values of rows

  abbrev kept_row : Row → Row
  kept_row r = record { start = r.start; aggregate = kept_part parts r.aggregate }

  data_kept : (r : Row) → has_data (kept_row r) ≡ has_data r
  data_kept r = ap not (empty_kept parts r.aggregate)
    where
      empty_kept : (k : AggregateParts) (a : Aggregate) → is_empty (kept_part k a) ≡ is_empty a
      empty_kept CountAlone a = refl
      empty_kept CountAndSum a = refl
      empty_kept Bounds a = refl
      empty_kept Whole a = refl

  rows_kept : (grid : BucketGrid) (k : ℤ) (rows : List Aggregate) → rows_from grid k (kept_rows rows) ≡ map kept_row (rows_from grid k rows)
  rows_kept grid k [] = refl
  rows_kept grid k (x ∷ rows) =
      let first : Row = record { start = (k *ℤ grid.interval) +ℤ grid.offset; aggregate = kept_part parts x } in
      ap (λ (rs : List Row). first ∷ rs) (rows_kept grid (k +ℤ pos 1) rows)

  module _ (fs : List Function) (h : list_all (suffice parts) fs ≡ true) where
    shown_kept : (r : Row) → shown fs (kept_row r) ≡ shown fs r
    shown_kept r = ap (λ (vs : List Value). let z : FilledRow = record { start = r.start; values = vs } in z) (kept_values parts r.aggregate fs h)

    all_shown : (rows : List Row) → map (shown fs) (map kept_row rows) ≡ map (shown fs) rows
    all_shown [] = refl
    all_shown (r ∷ rows) = ap₂ (λ (x : FilledRow) (xs : List FilledRow). x ∷ xs) (shown_kept r) (all_shown rows)

    data_shown : (rows : List Row) → map (shown fs) (filter has_data (map kept_row rows)) ≡ map (shown fs) (filter has_data rows)
    data_shown [] = refl
    data_shown (r ∷ rows) =
        ap (λ b. map (shown fs) (cond b (kept_row r ∷ filter has_data (map kept_row rows)) (filter has_data (map kept_row rows)))) (data_kept r)
        ∙ elim (has_data r) as (λ b. map (shown fs) (cond b (kept_row r ∷ filter has_data (map kept_row rows)) (filter has_data (map kept_row rows))) ≡ map (shown fs) (cond b (r ∷ filter has_data rows) (filter has_data rows))) [
          | true ↦ ap₂ (λ (x : FilledRow) (xs : List FilledRow). x ∷ xs) (shown_kept r) (data_shown rows)
          | false ↦ data_shown rows
        ]

    numbered_kept : (n : ℤ) (rows : List Row) → map (numbered fs n) (map kept_row rows) ≡ map (numbered fs n) rows
    numbered_kept n [] = refl
    numbered_kept n (r ∷ rows) =
        let other : FilledRow = record { start = r.start; values = map (number_value n) fs } in
        ap₂ (λ (x : FilledRow) (xs : List FilledRow). x ∷ xs) (ap₂ (λ b (x : FilledRow). cond b x other) (data_kept r) (shown_kept r)) (numbered_kept n rows)

    repeated_kept : (o : Option Aggregate) (start : ℤ) → repeated fs (option_map (kept_part parts) o) start ≡ repeated fs o start
    repeated_kept None start = refl
    repeated_kept (Some a) start = ap (λ (vs : List Value). let z : FilledRow = record { start = start; values = vs } in z) (kept_values parts a fs h)

    last_kept : (earlier : Option Aggregate) (r : Row) → last_data (option_map (kept_part parts) earlier) (kept_row r) ≡ option_map (kept_part parts) (last_data earlier r)
    last_kept earlier r =
        ap (λ b. cond b (Some (kept_part parts r.aggregate)) (option_map (kept_part parts) earlier)) (data_kept r)
        ∙ elim (has_data r) as (λ b. cond b (Some (kept_part parts r.aggregate)) (option_map (kept_part parts) earlier) ≡ option_map (kept_part parts) (cond b (Some r.aggregate) earlier)) [ true ↦ refl | false ↦ refl ]

    previous_kept : (earlier : Option Aggregate) (rows : List Row) → with_previous fs (option_map (kept_part parts) earlier) (map kept_row rows) ≡ with_previous fs earlier rows
    previous_kept earlier [] = refl
    previous_kept earlier (r ∷ rows) =
        ap (λ (o : Option Aggregate). repeated fs o r.start ∷ with_previous fs o (map kept_row rows)) (last_kept earlier r)
        ∙ ap₂ (λ (x : FilledRow) (xs : List FilledRow). x ∷ xs) (repeated_kept (last_data earlier r) r.start) (previous_kept (last_data earlier r) rows)

    filled_kept : (fill : Fill) (rows : List Row) → filled_rows fill fs (map kept_row rows) ≡ filled_rows fill fs rows
    filled_kept fills.Null rows = all_shown rows
    filled_kept fills.None rows = data_shown rows
    filled_kept fills.Previous rows = previous_kept None rows
    filled_kept (fills.Number n) rows = numbered_kept n rows

    groups_kept : (fill : Fill) (q : Query) (t : Table) → filled fill fs (map (group_with q) (kept_table t)) ≡ filled fill fs (map (group_with q) t)
    groups_kept fill q [] = refl
    groups_kept fill q (e ∷ t) =
        let rows : filled_rows fill fs (rows_from (bucket_grid q) (bucket_in q q.from) (kept_rows e.1)) ≡ filled_rows fill fs (rows_from (bucket_grid q) (bucket_in q q.from) e.1) =
        ap (filled_rows fill fs) (rows_kept (bucket_grid q) (bucket_in q q.from) e.1) ∙ filled_kept fill (rows_from (bucket_grid q) (bucket_in q q.from) e.1) in
        ap₂ (λ (x : FilledGroup) (xs : List FilledGroup). x ∷ xs) (ap (λ (rs : List FilledRow). let z : FilledGroup = record { values = e.0; rows = rs } in z) rows) (groups_kept fill q t)

    -- the functions have the values of the whole answer
    pub selected-values : (seen : ViewState) (q : Query) (ps : List Piece) → HaveSameValues fs (map (group_with q) (with_pieces parts seen q ps [])) (given seen q ps)
    selected-values seen q ps fill =
        sym (groups_kept fill q (with_pieces parts seen q ps []))
        ∙ ap (λ (t : Table). filled fill fs (map (group_with q) t)) (sym (same_pieces seen q ps [] [] refl))
        ∙ groups_kept fill q (with_pieces Whole seen q ps [])
