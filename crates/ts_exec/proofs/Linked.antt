-- Shares of the pieces in a table: exactly those of the facts and cells of a view.
use Rattle.std.proofs.Common.{◌≡◌, ℕ, ◌+◌, ◌==◌, ℤ, pos, ◌+ℤ◌, ◌-ℤ◌, ◌≤ℤ◌, ◌<ℤ◌, List, [], ◌∷◌, ◌++◌, map, filter, length, get_or, refl, sym, ◌∙◌, ap, ap₂, subst, Option, Some, None, Bool, true, false, cond, not, is_eq, ◌&&◌, arith, eq-eqb, eqb-true}
use Rattle.std.proofs.lemmas.Int.{ints, by_lt_z}
use Rattle.std.proofs.lemmas.Bool.{and_parts}
use Rattle.std.proofs.lemmas.List.{append_assoc, length-append}
use Rattle.std.proofs.lemmas.List.Elements.{filter-append}
use Rattle.std.specs.List.{list_all}
use Rattle.std.specs.Ordering.{int_eq, int_cmp}
use Rattle.std.specs.Cmp.{int_cmp_total}
use Rattle.std.specs.FinMap.{int_cmp-IsAntisymmetric}
use Rattle.std.proofs.lemmas.Cmp.{tied_itself}
use Rattle.ts_core.proofs.facts.Ids.{equal_of}
use Rattle.ts_core.specs.facts.Facts.{Text, Column, Fact, is_of, is_within}
use Rattle.ts_core.specs.aggregates.Partials.{fold_by}
use Rattle.ts_core.specs.aggregates.Aggregates.{empty_aggregate, aggregate_of_one, merged, aggregate_of}
use Rattle.ts_core.specs.aggregates.MergeLaws.{aggregate_laws}
use Rattle.ts_core.specs.facts.Tags.{tag_values}
use Rattle.ts_core.specs.settings.Settings.{Rule}
use Rattle.ts_core.specs.store.Marks.{index_of}
use Rattle.ts_core.specs.queries.Queries.{Query, meets, is_selected, matches, group_of}
use Rattle.ts_core.specs.queries.Answers.{same_group, bucket_in, is_in_row}
use Rattle.ts_core.specs.plans.Pieces.{Source, Raw, Rollup, Piece, start_of, IsBoundary}
use Rattle.ts_core.specs.store.Cells.{Cell}
use Rattle.ts_core.specs.store.StoreStates.{ColumnPoints, facts_at, facts_of, RuleCells, total_in}
use Rattle.ts_core.specs.store.Views.{ViewState, shown_total}
use Rattle.ts_core.specs.plans.Assembly.{representative, rule_shown, in_part, totals_given, cell_groups}
use Rattle.ts_core.proofs.queries.AnswersLaws.{filter_both}
use Rattle.ts_core.proofs.store.Cuts.{filter-agree}
use Rattle.ts_core.proofs.queries.Boundaries.{within_parts}
use Rattle.ts_core.proofs.aggregates.BucketsOrder.{bucket_le, times_le, bucket_of-start}
use Rattle.ts_core.proofs.queries.BucketsInRange.{at_least_none-is}
use Rattle.ts_core.proofs.lists.Comparisons.{le_true, lt_true, same_bool}
use Rattle.ts_core.proofs.queries.GroupsInOrder.{same_group-eq, same_group-refl}
use Rattle.ts_core.proofs.aggregates.Folds.{fold-append}
use Rattle.ts_core.proofs.plans.PiecesTogether.{last_first}
use Rattle.ts_store.specs.read.ViewResults.{ColumnRef, column_refs_from, column_refs_where, no_points, points_at, SeenCell, with_parts, cells_within}
use Rattle.ts_exec.specs.declared.aggregate_parts.AggregateParts.TheVariants.{Whole}
use Rattle.ts_exec.specs.RowParts.{bucket_grid, row_index_at}
use Rattle.ts_exec.specs.GroupTables.{Table, IsGroupTable, width, with_column_parts, with_cell_part, with_column_ref, with_column_refs, is_cell_taken, with_cell_parts, with_rule_cells, with_source, with_pieces}
use Rattle.ts_exec.specs.Shares.{Share, group_in, with_shares, is_share, total_at, point_share, column_ref_shares, column_refs_shares, cell_share, rule_shares, source_shares, pieces_shares}
use Rattle.ts_exec.proofs.Shares.{shares-table, shares-append, column-shares}

-- ---- pieces are put by their shares

module _ (q : Query) (a b : ℤ) where
  column_ref_put : (cs : List ColumnPoints) (s : ColumnRef) (t : Table) → IsGroupTable t → with_column_ref Whole q cs a b s t ≡ with_shares (width q) (column_ref_shares q cs a b s) t
  column_ref_put cs s t h =
      elim (list_all (meets s.series) q.conditions) as (λ c. cond c (with_column_parts Whole (bucket_grid q) (width q) (tag_values q.group_tags s.series) (points_at cs s.number a b) t) t
      ≡ with_shares (width q) (cond c (map (point_share (bucket_grid q) (tag_values q.group_tags s.series)) (points_at cs s.number a b)) []) t) [
        | true ↦ column-shares (bucket_grid q) (width q) (tag_values q.group_tags s.series) (points_at cs s.number a b) t h
        | false ↦ refl
      ]

  column_refs_put : (cs : List ColumnPoints) (ss : List ColumnRef) (t : Table) → IsGroupTable t → with_column_refs Whole q cs a b ss t ≡ with_shares (width q) (column_refs_shares q cs a b ss) t
  column_refs_put cs [] t h = refl
  column_refs_put cs (s ∷ ss) t h =
      ap (with_column_refs Whole q cs a b ss) (column_ref_put cs s t h)
      ∙ column_refs_put cs ss (with_shares (width q) (column_ref_shares q cs a b s) t) (shares-table (width q) (column_ref_shares q cs a b s) t h)
      ∙ sym (shares-append (width q) (column_ref_shares q cs a b s) (column_refs_shares q cs a b ss) t)

  cells_put : (r : Rule) (cs : List SeenCell) (t : Table) → with_cell_parts q r a b cs t ≡ with_shares (width q) (map (cell_share q r) (filter (is_cell_taken q r a b) cs)) t
  cells_put r [] t = refl
  cells_put r (c ∷ cs) t =
      elim (is_cell_taken q r a b c) as (λ z. with_cell_parts q r a b cs (cond z (with_cell_part (width q) (cell_share q r c).group (cell_share q r c).row_index (total_in c.parts) t) t)
      ≡ with_shares (width q) (map (cell_share q r) (cond z (c ∷ filter (is_cell_taken q r a b) cs) (filter (is_cell_taken q r a b) cs))) t) [
        | true ↦ cells_put r cs _
        | false ↦ cells_put r cs t
      ]

  rule_put : (o : Option RuleCells) (t : Table) → with_rule_cells q a b o t ≡ with_shares (width q) (rule_shares q a b o) t
  rule_put None t = refl
  rule_put (Some r) t = cells_put r.rule (cells_within r (index_of r.rule a) (index_of r.rule b)) t

  source_put : (seen : ViewState) (source : Source) (t : Table) → IsGroupTable t → with_source Whole seen q source a b t ≡ with_shares (width q) (source_shares seen q source a b) t
  source_put seen Raw t h = column_refs_put seen.columns (column_refs_where (is_of q.measurement q.field) seen.columns) t h
  source_put seen (Rollup name) t h = rule_put (rule_shown name seen.rules) t

pub pieces-put : (seen : ViewState) (q : Query) (ps : List Piece) (t : Table) → IsGroupTable t → with_pieces Whole seen q ps t ≡ with_shares (width q) (pieces_shares seen q ps) t
pieces-put seen q [] t h = refl
pieces-put seen q (p ∷ ps) t h =
    let xs : List Share = source_shares seen q p.source p.from p.to in
    ap (with_pieces Whole seen q ps) (source_put q p.from p.to seen p.source t h)
    ∙ pieces-put seen q ps (with_shares (width q) xs t) (shares-table (width q) xs t h)
    ∙ sym (shares-append (width q) xs (pieces_shares seen q ps) t)

-- ---- shares of facts

abbrev pub fact_share : Query → Fact → Share
fact_share q f = record { group = group_of q f; row_index = row_index_at (bucket_grid q) f.time; part = aggregate_of_one f.time f.value }

module _ (q : Query) (a b : ℤ) (from : q.from ≤ℤ a) (to : b ≤ℤ q.to) where
  abbrev test : Fact → Bool
  test = in_part (matches q) a b

  wide_enough : (t : ℤ) → is_within a b t ≡ (is_within q.from q.to t && is_within a b t)
  wide_enough t = same_bool _ _
      (λ e. let w = within_parts a b t e in let l = w.0 in let u = w.1 in ap₂ (λ x y. x && y) (ap₂ (λ x y. x && y) (le_true q.from t (omega (arith, ints))) (lt_true t q.to (omega (arith, ints)))) e)
      (λ e. (and_parts (is_within q.from q.to t) (is_within a b t) e).1)

  -- of one column
  picked : (c : Column) (ps : List (ℤ × ℤ)) (z : Bool) → is_selected q c ≡ z
      → map (fact_share q) (filter test (facts_at c ps)) ≡ cond z (map (point_share (bucket_grid q) (tag_values q.group_tags c.series)) (filter (λ (p : ℤ × ℤ). is_within a b p.0) ps)) []
  picked c [] true e = refl
  picked c [] false e = refl
  picked c (p ∷ ps) z e =
      let tail = picked c ps z e in
      let is : test (record { column = c; time = p.0; value = p.1 }) ≡ (z && is_within a b p.0) =
      ap (λ x. (x && is_within q.from q.to p.0) && is_within a b p.0) e ∙ joined z (is_within q.from q.to p.0) (is_within a b p.0) (wide_enough p.0) in
      ap (λ x. map (fact_share q) (cond x (record { column = c; time = p.0; value = p.1 } ∷ filter test (facts_at c ps)) (filter test (facts_at c ps)))) is
      ∙ next z (is_within a b p.0) tail
    where
      joined : (x y z : Bool) → z ≡ (y && z) → ((x && y) && z) ≡ (x && z)
      joined true y z h = sym h
      joined false y z h = refl

      next : (z w : Bool) → map (fact_share q) (filter test (facts_at c ps)) ≡ cond z (map (point_share (bucket_grid q) (tag_values q.group_tags c.series)) (filter (λ (p : ℤ × ℤ). is_within a b p.0) ps)) []
          → map (fact_share q) (cond (z && w) (record { column = c; time = p.0; value = p.1 } ∷ filter test (facts_at c ps)) (filter test (facts_at c ps)))
          ≡ cond z (map (point_share (bucket_grid q) (tag_values q.group_tags c.series)) (cond w (p ∷ filter (λ (p : ℤ × ℤ). is_within a b p.0) ps) (filter (λ (p : ℤ × ℤ). is_within a b p.0) ps))) []
      next true true h = ap (λ xs. fact_share q (record { column = c; time = p.0; value = p.1 }) ∷ xs) h
      next true false h = h
      next false true h = h
      next false false h = h

  -- of a column by its number
  column_ref_is : (all : List ColumnPoints) (n : ℕ) (c : ColumnPoints) (z : Bool) → get_or all n no_points ≡ c → is_of q.measurement q.field c.column ≡ z
      → cond z (column_ref_shares q all a b (record { number = n; series = c.column.series })) [] ≡ map (fact_share q) (filter test (facts_at c.column c.points))
  column_ref_is all n c true at e =
      ap (λ (x : ColumnPoints). cond (list_all (meets c.column.series) q.conditions) (map (point_share (bucket_grid q) (tag_values q.group_tags c.column.series)) (filter (λ (p : ℤ × ℤ). is_within a b p.0) x.points)) []) at
      ∙ sym (picked c.column c.points (list_all (meets c.column.series) q.conditions) (ap (λ x. x && list_all (meets c.column.series) q.conditions) e))
  column_ref_is all n c false at e = sym (picked c.column c.points false (ap (λ x. x && list_all (meets c.column.series) q.conditions) e))

  columns_from : (all before cs : List ColumnPoints) → all ≡ before ++ cs
      → column_refs_shares q all a b (column_refs_from (is_of q.measurement q.field) (length before) cs) ≡ map (fact_share q) (filter test (facts_of cs))
  columns_from all before [] e = refl
  columns_from all before (c ∷ cs) e =
      let n : ℕ = length before in
      let at : get_or all n no_points ≡ c = ap (λ xs. get_or xs n no_points) e ∙ in_middle before c cs in
      let more : all ≡ (before ++ c ∷ []) ++ cs = e ∙ sym (append_assoc before (c ∷ []) cs) in
      let count : length (before ++ c ∷ []) ≡ n + 1 = length-append before (c ∷ []) in
      let tail : column_refs_shares q all a b (column_refs_from (is_of q.measurement q.field) (n + 1) cs) ≡ map (fact_share q) (filter test (facts_of cs)) =
      ap (λ m. column_refs_shares q all a b (column_refs_from (is_of q.measurement q.field) m cs)) (sym count) ∙ columns_from all (before ++ c ∷ []) cs more in
      shown (is_of q.measurement q.field c.column) n (column_refs_from (is_of q.measurement q.field) (n + 1) cs)
      ∙ ap₂ (λ x y. x ++ y) (column_ref_is all n c (is_of q.measurement q.field c.column) at refl) tail
      ∙ sym (ap (map (fact_share q)) (filter-append test (facts_at c.column c.points) (facts_of cs)) ∙ map_append (filter test (facts_at c.column c.points)) (filter test (facts_of cs)))
    where
      in_middle : (xs : List ColumnPoints) (x : ColumnPoints) (ys : List ColumnPoints) → get_or (xs ++ x ∷ ys) (length xs) no_points ≡ x
      in_middle [] x ys = refl
      in_middle (z ∷ xs) x ys = in_middle xs x ys

      shown : (z : Bool) (n : ℕ) (rest : List ColumnRef) → column_refs_shares q all a b (cond z (record { number = n; series = c.column.series } ∷ rest) rest)
          ≡ cond z (column_ref_shares q all a b (record { number = n; series = c.column.series })) [] ++ column_refs_shares q all a b rest
      shown true n rest = refl
      shown false n rest = refl

      map_append : (xs ys : List Fact) → map (fact_share q) (xs ++ ys) ≡ map (fact_share q) xs ++ map (fact_share q) ys
      map_append [] ys = refl
      map_append (x ∷ xs) ys = ap (λ zs. fact_share q x ∷ zs) (map_append xs ys)

  pub raw-shares : (cs : List ColumnPoints) → column_refs_shares q cs a b (column_refs_where (is_of q.measurement q.field) cs) ≡ map (fact_share q) (filter test (facts_of cs))
  raw-shares cs = columns_from cs [] cs refl

-- ---- what shares add up to, and their groups

pub mapped-groups : {X : Type 0} (share : X → Share) (xs : List X) → map group_in (map share xs) ≡ map (λ x. (share x).group) xs
mapped-groups share [] = refl
mapped-groups share (x ∷ xs) = ap (λ gs. (share x).group ∷ gs) (mapped-groups share xs)

pub mapped-total : {X : Type 0} (share : X → Share) (g : List Text) (j : ℕ) (xs : List X)
    → total_at g j (map share xs) ≡ fold_by empty_aggregate merged (λ x. (share x).part) (filter (λ x. is_share g j (share x)) xs)
mapped-total share g j [] = refl
mapped-total share g j (x ∷ xs) =
    elim (is_share g j (share x)) as (λ z. fold_by empty_aggregate merged (λ (s : Share). s.part) (cond z (share x ∷ filter (is_share g j) (map share xs)) (filter (is_share g j) (map share xs)))
    ≡ fold_by empty_aggregate merged (λ y. (share y).part) (cond z (x ∷ filter (λ y. is_share g j (share y)) xs) (filter (λ y. is_share g j (share y)) xs))) [
      | true ↦ ap (merged (share x).part) (mapped-total share g j xs)
      | false ↦ mapped-total share g j xs
    ]

pub total-append : (g : List Text) (j : ℕ) (xs ys : List Share) → total_at g j (xs ++ ys) ≡ merged (total_at g j xs) (total_at g j ys)
total-append g j xs ys =
    ap (fold_by empty_aggregate merged (λ (s : Share). s.part)) (filter-append (is_share g j) xs ys)
    ∙ fold-append aggregate_laws (λ (s : Share). s.part) (filter (is_share g j) xs) (filter (is_share g j) ys)

-- ---- indices and buckets

same_group_comm : (g k : List Text) → same_group g k ≡ same_group k g
same_group_comm g k = same_bool _ _
    (λ e. subst (λ x. same_group x g ≡ true) (same_group-eq g k e) (same_group-refl g))
    (λ e. subst (λ x. same_group x k ≡ true) (same_group-eq k g e) (same_group-refl k))

-- the index of a time of the range is j exactly if its bucket is the j-th
row_index_is : (q : Query) (t : ℤ) (j : ℕ) → pos 1 ≤ℤ q.interval → q.from ≤ℤ t → (row_index_at (bucket_grid q) t == j) ≡ int_eq (bucket_in q t) (bucket_in q q.from +ℤ pos j)
row_index_is q t j h l =
    let first : ℤ = bucket_in q q.from in
    let k : ℤ = bucket_in q t in
    let up : first ≤ℤ k = bucket_le q.from t q.interval q.offset h l in
    let e : pos (row_index_at (bucket_grid q) t) ≡ k -ℤ first = at_least_none-is (k -ℤ first) (omega (arith, ints)) in
    same_bool _ _
    (λ m. let same : row_index_at (bucket_grid q) t ≡ j = eqb-true _ j m in let there : k ≡ first +ℤ pos j = omega (arith, ints) in ap (int_eq k) (sym there) ∙ ap is_eq (tied_itself int_cmp_total k))
    (λ m. let there : k ≡ first +ℤ pos j = int_cmp-IsAntisymmetric k (first +ℤ pos j) (equal_of (int_cmp k (first +ℤ pos j)) m) in let same : row_index_at (bucket_grid q) t ≡ j = omega (arith, ints) in eq-eqb _ j same)

-- a fact or cell of the query's range is a share of a row just where it is in the row
module _ (q : Query) (wide : pos 1 ≤ℤ q.interval) (g : List Text) (j : ℕ) (a b : ℤ) where
  abbrev pub bucket_index : ℤ
  bucket_index = bucket_in q q.from +ℤ pos j

  pub in_row : (f : Fact) → ((matches q f && is_within a b f.time) && is_share g j (fact_share q f)) ≡ (is_in_row q g bucket_index f && is_within a b f.time)
  in_row f =
      elim (matches q f) as (λ z. matches q f ≡ z → ((z && is_within a b f.time) && is_share g j (fact_share q f)) ≡ ((z && (same_group (group_of q f) g && int_eq (bucket_in q f.time) bucket_index)) && is_within a b f.time)) [
        | true ↦ λ e.
            let w = within_parts q.from q.to f.time (and_parts (is_selected q f.column) (is_within q.from q.to f.time) e).1 in
            let same : is_share g j (fact_share q f) ≡ (same_group (group_of q f) g && int_eq (bucket_in q f.time) bucket_index) =
            ap₂ (λ x y. x && y) (same_group_comm g (group_of q f)) (row_index_is q f.time j wide w.0) in
            ap (λ x. is_within a b f.time && x) same ∙ turned (is_within a b f.time) (same_group (group_of q f) g && int_eq (bucket_in q f.time) bucket_index)
        | false ↦ λ e. refl
      ] refl
    where
      turned : (x y : Bool) → (x && y) ≡ (y && x)
      turned true true = refl
      turned true false = refl
      turned false true = refl
      turned false false = refl

  -- of raw points
  pub raw-total : (fs : List Fact) → total_at g j (map (fact_share q) (filter (λ (f : Fact). matches q f && is_within a b f.time) fs)) ≡ aggregate_of (filter (λ (f : Fact). is_in_row q g bucket_index f && is_within a b f.time) fs)
  raw-total fs =
      mapped-total (fact_share q) g j (filter (λ (f : Fact). matches q f && is_within a b f.time) fs)
      ∙ ap aggregate_of (filter_both (λ (f : Fact). is_share g j (fact_share q f)) (λ (f : Fact). matches q f && is_within a b f.time) fs
      ∙ filter-agree _ (λ (f : Fact). is_in_row q g bucket_index f && is_within a b f.time) fs (λ f k. in_row f))

-- ---- cells

-- a cell of the piece is one of the indices that are walked
walked : (r : Rule) (a b k : ℤ) → pos 1 ≤ℤ r.interval → IsBoundary r a → IsBoundary r b → is_within a b (start_of r k) ≡ true → is_within (index_of r a) (index_of r b) k ≡ true
walked r a b k h at bt e =
    let w = within_parts a b (start_of r k) e in
    let same : index_of r (start_of r k) ≡ k = bucket_of-start k r.interval r.offset h in
    let low : index_of r a ≤ℤ index_of r (start_of r k) = bucket_le a (start_of r k) r.interval r.offset h w.0 in
    let below : k <ℤ index_of r b = by_lt_z k (index_of r b) (λ c. c) (λ (c : index_of r b ≤ℤ k).
    let up = times_le (index_of r b) k r.interval h c in
    let start : start_of r (index_of r b) ≡ b = bt in
    let high = w.1 in
    absurd (omega (arith, ints))) in
    let low' : index_of r a ≤ℤ k = subst (λ z. index_of r a ≤ℤ z) same low in
    ap₂ (λ x y. x && y) (le_true (index_of r a) k low') (lt_true k (index_of r b) below)

module _ (q : Query) (r : RuleCells) (a b : ℤ) (h : pos 1 ≤ℤ r.rule.interval) (starts : IsBoundary r.rule a) (ends : IsBoundary r.rule b) where
  abbrev taken : Cell → Bool
  taken k = is_cell_taken q r.rule a b (with_parts r.parts k)

  -- the walk leaves out no cell that is taken
  taken_walked : (ks : List Cell) → filter (is_cell_taken q r.rule a b) (map (with_parts r.parts) (filter (λ (k : Cell). is_within (index_of r.rule a) (index_of r.rule b) k.index) ks)) ≡ map (with_parts r.parts) (filter taken ks)
  taken_walked [] = refl
  taken_walked (k ∷ ks) =
      let rest = taken_walked ks in
      elim (is_within (index_of r.rule a) (index_of r.rule b) k.index) as (λ z. is_within (index_of r.rule a) (index_of r.rule b) k.index ≡ z
      → filter (is_cell_taken q r.rule a b) (map (with_parts r.parts) (cond z (k ∷ filter (λ (x : Cell). is_within (index_of r.rule a) (index_of r.rule b) x.index) ks) (filter (λ (x : Cell). is_within (index_of r.rule a) (index_of r.rule b) x.index) ks)))
      ≡ map (with_parts r.parts) (filter taken (k ∷ ks))) [
        | true ↦ λ e. elim (taken k) as (λ z. cond z (with_parts r.parts k ∷ filter (is_cell_taken q r.rule a b) (map (with_parts r.parts) (filter (λ (x : Cell). is_within (index_of r.rule a) (index_of r.rule b) x.index) ks))) (filter (is_cell_taken q r.rule a b) (map (with_parts r.parts) (filter (λ (x : Cell). is_within (index_of r.rule a) (index_of r.rule b) x.index) ks)))
            ≡ map (with_parts r.parts) (cond z (k ∷ filter taken ks) (filter taken ks))) [
              | true ↦ ap (λ xs. with_parts r.parts k ∷ xs) rest
              | false ↦ rest
            ]
        | false ↦ λ e.
            let out : taken k ≡ false = elim (taken k) as (λ z. taken k ≡ z → z ≡ false) [
              | true ↦ λ y.
                  let p = and_parts (matches q (representative r.rule k) && is_within a b (start_of r.rule k.index)) (not ((shown_total r k).count == 0)) y in
                  let w = and_parts (matches q (representative r.rule k)) (is_within a b (start_of r.rule k.index)) p.0 in
                  sym (walked r.rule a b k.index h starts ends w.1) ∙ e
              | false ↦ λ y. refl
            ] refl in
            rest ∙ ap (λ z. map (with_parts r.parts) (cond z (k ∷ filter taken ks) (filter taken ks))) (sym out)
      ] refl

  abbrev pub cell_share_of : Cell → Share
  cell_share_of k = cell_share q r.rule (with_parts r.parts k)

  map_map : (ks : List Cell) → map (cell_share q r.rule) (map (with_parts r.parts) ks) ≡ map cell_share_of ks
  map_map [] = refl
  map_map (k ∷ ks) = ap (λ xs. cell_share_of k ∷ xs) (map_map ks)

  pub rule-shares : rule_shares q a b (Some r) ≡ map cell_share_of (filter taken r.cells)
  rule-shares = ap (map (cell_share q r.rule)) (taken_walked r.cells) ∙ map_map (filter taken r.cells)

  pub rule-groups : map group_in (rule_shares q a b (Some r)) ≡ cell_groups q (Some r) (in_part (matches q) a b)
  rule-groups = ap (map group_in) rule-shares ∙ mapped-groups cell_share_of (filter taken r.cells)

  -- where a total of no points is the empty one
  module _ (wide : pos 1 ≤ℤ q.interval) (g : List Text) (j : ℕ) (sound : (k : Cell) → is_within a b (start_of r.rule k.index) ≡ true → ((shown_total r k).count == 0) ≡ true → shown_total r k ≡ empty_aggregate) where
    abbrev row_test : Fact → Bool
    row_test = in_part (is_in_row q g (bucket_index q wide g j a b)) a b

    abbrev in_both : Cell → Bool
    in_both k = taken k && is_share g j (cell_share_of k)

    both_is : (k : Cell) → in_both k ≡ (row_test (representative r.rule k) && not ((shown_total r k).count == 0))
    both_is k =
        let m : Bool = matches q (representative r.rule k) && is_within a b (start_of r.rule k.index) in
        let s : Bool = is_share g j (cell_share_of k) in
        last_first m (not ((shown_total r k).count == 0)) s ∙ ap (λ x. x && not ((shown_total r k).count == 0)) (in_row q wide g j a b (representative r.rule k))

    sums : (ks : List Cell) → fold_by empty_aggregate merged (shown_total r) (filter in_both ks) ≡ fold_by empty_aggregate merged (shown_total r) (filter (λ (k : Cell). row_test (representative r.rule k)) ks)
    sums [] = refl
    sums (k ∷ ks) =
        let rest = sums ks in
        ap (λ z. fold_by empty_aggregate merged (shown_total r) (cond z (k ∷ filter in_both ks) (filter in_both ks))) (both_is k)
        ∙ elim (row_test (representative r.rule k)) as (λ x. row_test (representative r.rule k) ≡ x → fold_by empty_aggregate merged (shown_total r) (cond (x && not ((shown_total r k).count == 0)) (k ∷ filter in_both ks) (filter in_both ks))
        ≡ fold_by empty_aggregate merged (shown_total r) (cond x (k ∷ filter (λ (c : Cell). row_test (representative r.rule c)) ks) (filter (λ (c : Cell). row_test (representative r.rule c)) ks))) [
          | true ↦ λ e. elim ((shown_total r k).count == 0) as (λ y. ((shown_total r k).count == 0) ≡ y → fold_by empty_aggregate merged (shown_total r) (cond (not y) (k ∷ filter in_both ks) (filter in_both ks)) ≡ merged (shown_total r k) (fold_by empty_aggregate merged (shown_total r) (filter (λ (c : Cell). row_test (representative r.rule c)) ks))) [
            | true ↦ λ none.
                let w = (and_parts (is_in_row q g (bucket_index q wide g j a b) (representative r.rule k)) (is_within a b (start_of r.rule k.index)) e).1 in
                rest ∙ sym (ap (λ x. merged x (fold_by empty_aggregate merged (shown_total r) (filter (λ (c : Cell). row_test (representative r.rule c)) ks))) (sound k w none) ∙ aggregate_laws.unit _)
            | false ↦ λ some. ap (merged (shown_total r k)) rest
          ] refl
          | false ↦ λ e. rest
        ] refl

    pub rule-total : total_at g j (rule_shares q a b (Some r)) ≡ totals_given (Some r) row_test
    rule-total =
        ap (total_at g j) rule-shares
        ∙ mapped-total cell_share_of g j (filter taken r.cells)
        ∙ ap (fold_by empty_aggregate merged (shown_total r)) (filter_both (λ (k : Cell). is_share g j (cell_share_of k)) taken r.cells)
        ∙ sums r.cells
