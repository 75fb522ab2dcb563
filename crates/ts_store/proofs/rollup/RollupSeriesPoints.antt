-- The number of points of a rollup series' columns in a bucket: at most that of all points, also if a column has only
-- those from a mark on.
use Rattle.std.proofs.Common.{◌≡◌, ◌^◌, ◌++◌, ap₂, subst, ℕ, zero, suc, ℤ, ◌+◌, ◌<◌, ◌≤◌, Bool, true, false, cond, List, [], ◌∷◌, length, filter, get_or, Option, refl, sym, ◌∙◌, ap, arith, int_le, ◌≤ℤ◌, ◌<ℤ◌, pos, drop, ◌&&◌, ◌==◌, Some, None, true≢false}
use Rattle.std.specs.Ordering.{int_eq, int_cmp}
use Rattle.std.specs.FinMap as finmap
use Rattle.std.specs.FinMap.{entries, len-entries}
use Rattle.std.specs.List.{AllByRecursion}
use Rattle.std.proofs.lemmas.List.{drop_all, drop_more, length-append, get_or-set_same, get_or-set_other, length-set, get_or_default}
use Rattle.std.proofs.lemmas.Int.{ints}
use Rattle.std.proofs.lemmas.List.Sums.{sum_by-cons}
use Rattle.std.proofs.lemmas.Map.Lookups.{exact_signed}
use Rattle.ts_core.specs.aggregates.Buckets.{bucket_of}
use Rattle.ts_core.specs.aggregates.Aggregates.{Aggregate, empty_aggregate, merged, aggregate_of_points, aggregate_of_one, points_of as points_of_facts}
use Rattle.ts_core.specs.aggregates.MergeLaws.{aggregate_laws}
use Rattle.ts_core.proofs.aggregates.AggregatesLemmas.{count_of_fold, aggregate_of-points}
use Rattle.ts_cells.proofs.GridMoves.{all_at}
use Rattle.ts_core.specs.settings.Settings.{Rule}
use Rattle.ts_core.specs.lists.Numbered.{numbers_where_from, IsAt}
use Rattle.ts_core.proofs.aggregates.BucketsOrder.{bucket_le}
use Rattle.ts_core.proofs.facts.Ids.{equal_of}
use Rattle.ts_core.proofs.lists.Comparisons.{le_true, le_from, same_bool}
use Rattle.ts_core.proofs.lists.ListSteps.{length-filter}
use Rattle.ts_raw.specs.Columns.{PointMap, ColumnState, points_from, points_in_bucket}
use Rattle.ts_store.specs.store.ColumnStates.{no_column, with_points, point_maps}
use Rattle.ts_store.specs.rollup.LivePoints.{points_in, points_since, rollup_series_total, left_state, left_states}
use Rattle.ts_store.specs.read.PointsRead.{number_of_points}
use Rattle.ts_store.specs.rollup.Rollups.{RollupState, is_of_rollup_series, columns_of_rollup_series, IsRollupSeriesOf, HaveRollupSeries, rollup_series_under}
use Rattle.ts_store.proofs.retain.BatchesLeft.{other_cell}
use Rattle.ts_store.proofs.retain.RollupMoves.{entries_from}
use Rattle.ts_store.proofs.read.ColumnRefLemmas.{numbers-below}
use Rattle.std.proofs.lemmas.Bool.Decides.{Decides-int_eq, Decides-eqb}
use Rattle.ts_core.specs.lists.Members.{Among, AllDistinct}
use Rattle.ts_core.specs.facts.Facts.{Column, Fact}
use Rattle.ts_core.specs.store.Marks.{index_of}
use Rattle.ts_core.proofs.aggregates.Folds.{fold-append}
use Rattle.ts_core.specs.store.Cells.{Cell, same_cell, cell_of, is_in_cell, total_of}
use Rattle.ts_core.specs.store.StoreStates.{fact_at, facts_at, facts_of}
use Rattle.ts_core.proofs.plans.PieceCells.{same_cell-eq, same_cell-refl}
use Rattle.ts_core.proofs.store.RunSteps.{filter-append}
use Rattle.ts_cells.specs.Grids.{RollupSeries, rollup_series_of, cell_at}
use Rattle.ts_core.proofs.lists.NumberedLemmas.{at_among, same_at}

-- ---- the raw facts of a cell are these points, in the same order

-- ---- the cell of a point

-- cells of one rollup series are the same where their buckets are
same_bucket : (i j : ℤ) (l : RollupSeries) → same_cell (cell_at i l) (cell_at j l) ≡ int_eq i j
same_bucket i j l =
    same_bool (same_cell (cell_at i l) (cell_at j l)) (int_eq i j)
    (λ e. (Decides-int_eq i j).1 (ap (λ (k : Cell). k.index) (same_cell-eq (cell_at i l) (cell_at j l) e)))
    (λ e. subst (λ x. same_cell (cell_at i l) (cell_at x l) ≡ true) ((Decides-int_eq i j).0 e) (same_cell-refl (cell_at i l)))

-- of distinct rollup series each has one number
one_number : (rollup_series : List RollupSeries) (m n : ℕ) (l : RollupSeries) → AllDistinct rollup_series → IsAt rollup_series m l → IsAt rollup_series n l → m ≡ n
one_number [] m n l d a b = absurd (at_among {X = RollupSeries} [] m l a)
one_number (x ∷ xs) zero zero l d a b = refl
one_number (x ∷ xs) zero (suc n) l d a b = absurd (d.0 (subst (λ y. Among y xs) (sym (same_at (x ∷ xs) zero x l refl a)) (at_among xs n l b)))
one_number (x ∷ xs) (suc m) zero l d a b = absurd (d.0 (subst (λ y. Among y xs) (sym (same_at (x ∷ xs) zero x l refl b)) (at_among xs m l a)))
one_number (x ∷ xs) (suc m) (suc n) l d a b = ap suc (one_number xs m n l d.1 a b)

-- a point of a column is in a cell where the column is of the cell's rollup series and the point in its bucket
in_cell : (r : Rule) (k : Cell) (n : ℕ) (rollup_series : List RollupSeries) → AllDistinct rollup_series → IsAt rollup_series n (rollup_series_of k) → (c : Column) (o : Option ℕ) → IsRollupSeriesOf r c rollup_series o → (p : ℤ × ℤ)
    → is_in_cell r k (fact_at c p) ≡ is_of_rollup_series n o && int_eq (index_of r p.0) k.index
in_cell r k n rollup_series d at c None of p = ap (λ b. b && same_cell (cell_of r (fact_at c p)) k) of
in_cell r k n rollup_series d at c (Some m) of p =
    ap (λ b. b && same_cell (cell_of r (fact_at c p)) k) of.0
    ∙ elim (m == n) as (λ b. m == n ≡ b → same_cell (cell_of r (fact_at c p)) k ≡ b && int_eq (index_of r p.0) k.index) [
      | true ↦ λ e.
          let same : rollup_series_under r c ≡ rollup_series_of k = same_at rollup_series n (rollup_series_under r c) (rollup_series_of k) (subst (λ i. IsAt rollup_series i (rollup_series_under r c)) ((Decides-eqb m n).0 e) of.1) at in
          ap (λ l. same_cell (cell_at (index_of r p.0) l) k) same ∙ same_bucket (index_of r p.0) k.index (rollup_series_of k)
      | false ↦ λ e. other_cell (cell_of r (fact_at c p)) k
          (λ its. let same = ap rollup_series_of its in true≢false (sym ((Decides-eqb m n).1 (one_number rollup_series m n (rollup_series_of k) d (subst (IsAt rollup_series m) same of.1) at)) ∙ e))
    ] refl

-- ---- the points of columns

column_part : (test : Fact → Bool) (c : Column) (b : Bool) (q : ℤ × ℤ → Bool) → ((p : ℤ × ℤ) → test (fact_at c p) ≡ b && q p) → (ps : List (ℤ × ℤ)) → points_of_facts (filter test (facts_at c ps)) ≡ cond b (filter q ps) []
column_part test c true q h [] = refl
column_part test c false q h [] = refl
column_part test c true q h (p ∷ ps) =
    ap (λ b. points_of_facts (cond b (fact_at c p ∷ filter test (facts_at c ps)) (filter test (facts_at c ps)))) (h p)
    ∙ elim (q p) as (λ b. points_of_facts (cond b (fact_at c p ∷ filter test (facts_at c ps)) (filter test (facts_at c ps))) ≡ cond b (p ∷ filter q ps) (filter q ps)) [
      | true ↦ ap (λ xs. p ∷ xs) (column_part test c true q h ps)
      | false ↦ column_part test c true q h ps
    ]
column_part test c false q h (p ∷ ps) =
    ap (λ b. points_of_facts (cond b (fact_at c p ∷ filter test (facts_at c ps)) (filter test (facts_at c ps)))) (h p) ∙ column_part test c false q h ps

points_append : (fs gs : List Fact) → points_of_facts (fs ++ gs) ≡ points_of_facts fs ++ points_of_facts gs
points_append [] gs = refl
points_append (f ∷ fs) gs = ap (λ xs. (f.time, f.value) ∷ xs) (points_append fs gs)

columns_parts : (r : Rule) (k : Cell) (l : ℕ) (rollup_series : List RollupSeries) → AllDistinct rollup_series → IsAt rollup_series l (rollup_series_of k) → (all : List ColumnState) (n : ℕ) (cs : List Column) (ss : List ColumnState) (os : List (Option ℕ))
    → length ss ≡ length cs → HaveRollupSeries r rollup_series cs os → ((i : ℕ) → i < length ss → get_or all (n + i) no_column ≡ get_or ss i no_column)
    → points_of_facts (filter (is_in_cell r k) (facts_of (with_points cs (point_maps ss)))) ≡ points_in r all k.index (numbers_where_from (is_of_rollup_series l) n os)
columns_parts r k l rollup_series d at all n [] ss [] len have same = refl
columns_parts r k l rollup_series d at all n (c ∷ cs) (s ∷ ss) (o ∷ os) len have same =
    let test : Fact → Bool = is_in_cell r k in
    let ps : List (ℤ × ℤ) = finmap.entries s.points in
    let q : ℤ × ℤ → Bool = λ p. int_eq (index_of r p.0) k.index in
    let after : (i : ℕ) → i < length ss → get_or all (n + 1 + i) no_column ≡ get_or ss i no_column = λ i below. let e : n + 1 + i ≡ n + suc i = omega arith in ap (λ j. get_or all j no_column) e ∙ same (suc i) (omega (arith, below)) in
    let rest = columns_parts r k l rollup_series d at all (n + 1) cs ss os (omega (arith, len)) have.1 after in
    let first = column_part test c (is_of_rollup_series l o) q (in_cell r k l rollup_series d at c o have.0) ps in
    let e : n ≡ n + 0 = omega arith in
    let here : get_or all n no_column ≡ s = ap (λ j. get_or all j no_column) e ∙ same 0 (omega arith) in
    ap points_of_facts (filter-append test (facts_at c ps) (facts_of (with_points cs (point_maps ss))))
    ∙ points_append (filter test (facts_at c ps)) (filter test (facts_of (with_points cs (point_maps ss))))
    ∙ ap₂ (λ (xs ys : List (ℤ × ℤ)). xs ++ ys) first rest
    ∙ elim (is_of_rollup_series l o) as (λ b. cond b (filter q ps) [] ++ points_in r all k.index (numbers_where_from (is_of_rollup_series l) (n + 1) os) ≡ points_in r all k.index (cond b (n ∷ numbers_where_from (is_of_rollup_series l) (n + 1) os) (numbers_where_from (is_of_rollup_series l) (n + 1) os))) [
      | true ↦ ap (λ (x : ColumnState). points_in_bucket x.points k.index r.interval r.offset ++ points_in r all k.index (numbers_where_from (is_of_rollup_series l) (n + 1) os)) (sym here)
      | false ↦ refl
    ]
columns_parts r k l rollup_series d at all n _ _ _ len have same = absurd (omega arith)

-- the aggregate of these points, of a whole store's columns
pub cell_total : (r : Rule) (s : RollupState) (k : Cell) (l : ℕ) (cs : List Column) (ss : List ColumnState) → AllDistinct s.grid.rollup_series → IsAt s.grid.rollup_series l (rollup_series_of k) → length ss ≡ length cs → HaveRollupSeries r s.grid.rollup_series cs s.series_of_column
    → aggregate_of_points (points_in r ss k.index (columns_of_rollup_series l s)) ≡ total_of r k (facts_of (with_points cs (point_maps ss)))
cell_total r s k l cs ss d at len have =
    sym (aggregate_of-points (filter (is_in_cell r k) (facts_of (with_points cs (point_maps ss)))) ∙ ap aggregate_of_points (columns_parts r k l s.grid.rollup_series d at ss 0 cs ss s.series_of_column len have (λ i below. let e : 0 + i ≡ i = omega arith in ap (λ j. get_or ss j no_column) e)))

-- ---- points merged in

-- no more points
pub points_none : (total : Aggregate) → merged total empty_aggregate ≡ total
points_none total = aggregate_laws.comm total empty_aggregate ∙ aggregate_laws.unit total

-- these points are left to be merged into the total
pub record IsMerging (whole total : Aggregate) (ps : List (ℤ × ℤ)) : Type 0 where
  pub same : merged total (aggregate_of_points ps) ≡ whole
  pub few : total.count + length ps ≤ 2 ^ 62

pub merging_last : (whole total : Aggregate) (ps : List (ℤ × ℤ)) → ps ≡ [] → IsMerging whole total ps → total ≡ whole
merging_last whole total ps none h = sym (points_none total) ∙ ap (λ qs. merged total (aggregate_of_points qs)) (sym none) ∙ h.same

module _ (whole total : Aggregate) (t v : ℤ) (ps rest : List (ℤ × ℤ)) (is : ps ≡ (t, v) ∷ rest) (merging : IsMerging whole total ps) (one : Aggregate) (its : one ≡ aggregate_of_one t v) where
  pub merging_fits : total.count + one.count ≤ 2 ^ 62
  merging_fits = let count = ap (λ (a : Aggregate). a.count) its in let many = ap length is in let few = merging.few in omega (arith, count, many, few)

  pub merging_next : (new : Aggregate) → new ≡ merged total one → IsMerging whole new rest
  merging_next new made =
      let with_one : new ≡ merged total (aggregate_of_one t v) = made ∙ ap (merged total) its in
      let count = ap (λ (a : Aggregate). a.count) with_one in
      let many = ap length is in
      let few = merging.few in
      record {
        same = ap (λ a. merged a (aggregate_of_points rest)) with_one ∙ aggregate_laws.assoc total (aggregate_of_one t v) (aggregate_of_points rest) ∙ ap (λ qs. merged total (aggregate_of_points qs)) (sym is) ∙ merging.same;
        few = omega (arith, count, many, few);
      }

points-few : (r : Rule) (all : List ColumnState) (index : ℤ) (l n : ℕ) (ss : List ColumnState) (os : List (Option ℕ)) → length os ≡ length ss → ((i : ℕ) → i < length ss → get_or all (n + i) no_column ≡ get_or ss i no_column)
    → length (points_in r all index (numbers_where_from (is_of_rollup_series l) n os)) ≤ number_of_points ss
points-few r all index l n ss [] e same = omega arith
points-few r all index l n [] (o ∷ os) e same = absurd (omega (arith, e))
points-few r all index l n (s ∷ ss) (o ∷ os) e same =
    let after : (i : ℕ) → i < length ss → get_or all (n + 1 + i) no_column ≡ get_or ss i no_column = λ i below. let f : n + 1 + i ≡ n + suc i = omega arith in ap (λ j. get_or all j no_column) f ∙ same (suc i) (omega (arith, below)) in
    let rest = points-few r all index l (n + 1) ss os (omega (arith, e)) after in
    let f : n ≡ n + 0 = omega arith in
    let here : get_or all n no_column ≡ s = ap (λ j. get_or all j no_column) f ∙ same 0 (omega arith) in
    let first : length (points_in_bucket (get_or all n no_column).points index r.interval r.offset) ≤ length (entries (get_or all n no_column).points) = length-filter _ (entries (get_or all n no_column).points) in
    let many : length (entries (get_or all n no_column).points) ≡ finmap.len s.points = sym (len-entries (get_or all n no_column).points) ∙ ap (λ (x : ColumnState). finmap.len x.points) here in
    let sum = sum_by-cons (λ (x : ColumnState). finmap.len x.points) s ss in
    let numbers : List ℕ = numbers_where_from (is_of_rollup_series l) (n + 1) os in
    elim (is_of_rollup_series l o) as (λ b. length (points_in r all index (cond b (n ∷ numbers) numbers)) ≤ number_of_points (s ∷ ss)) [
      | true ↦ let both = length-append (points_in_bucket (get_or all n no_column).points index r.interval r.offset) (points_in r all index numbers) in omega (arith, both, rest, first, many, sum)
      | false ↦ omega (arith, rest, sum)
    ]

-- ---- a column with the points from a mark on

state-fewer : (mark : ℤ) (s : ColumnState) → finmap.len (left_state mark s).points ≤ finmap.len s.points
state-fewer mark s =
    let less = length-filter (λ (p : ℤ × ℤ). int_le mark p.0) (entries s.points) in
    let left : finmap.len (points_from s.points mark) ≡ length (points_since mark (entries s.points)) = len-entries (points_from s.points mark) ∙ ap length (entries_from s.points mark) in
    let all = len-entries s.points in
    omega (arith, less, left, all)

pub left-fewer : (mark : ℤ) (n : ℕ) (ss : List ColumnState) → number_of_points (left_states mark n ss) ≤ number_of_points ss
left-fewer mark n [] = omega arith
left-fewer mark zero (s ∷ ss) =
    let a = sum_by-cons (λ (x : ColumnState). finmap.len x.points) s ss in
    let b = sum_by-cons (λ (x : ColumnState). finmap.len x.points) (left_state mark s) ss in
    let less = state-fewer mark s in
    omega (arith, a, b, less)
left-fewer mark (suc n) (s ∷ ss) =
    let a = sum_by-cons (λ (x : ColumnState). finmap.len x.points) s ss in
    let b = sum_by-cons (λ (x : ColumnState). finmap.len x.points) s (left_states mark n ss) in
    let less = left-fewer mark n ss in
    omega (arith, a, b, less)

pub left-length : (mark : ℤ) (n : ℕ) (ss : List ColumnState) → length (left_states mark n ss) ≡ length ss
left-length mark n ss = length-set ss n (left_state mark (get_or ss n no_column))

-- its points in a bucket
both_tests : (p q : ℤ × ℤ → Bool) (ps : List (ℤ × ℤ)) → filter p (filter q ps) ≡ filter q (filter p ps)
both_tests p q [] = refl
both_tests p q (x ∷ ps) =
    let rest = both_tests p q ps in
    elim (p x) as (λ a. p x ≡ a → filter p (cond (q x) (x ∷ filter q ps) (filter q ps)) ≡ filter q (cond a (x ∷ filter p ps) (filter p ps))) [
      | true ↦ λ a. elim (q x) as (λ b. q x ≡ b → filter p (cond b (x ∷ filter q ps) (filter q ps)) ≡ cond b (x ∷ filter q (filter p ps)) (filter q (filter p ps))) [
        | true ↦ λ b. ap (λ v. cond v (x ∷ filter p (filter q ps)) (filter p (filter q ps))) a ∙ ap (λ xs. x ∷ xs) rest
        | false ↦ λ b. rest
      ] refl
      | false ↦ λ a. elim (q x) as (λ b. filter p (cond b (x ∷ filter q ps) (filter q ps)) ≡ filter q (filter p ps)) [
        | true ↦ ap (λ v. cond v (x ∷ filter p (filter q ps)) (filter p (filter q ps))) a ∙ rest
        | false ↦ rest
      ]
    ] refl

since_bucket : (m : PointMap) (mark index interval offset : ℤ) → points_since mark (points_in_bucket m index interval offset) ≡ points_in_bucket (points_from m mark) index interval offset
since_bucket m mark index interval offset =
    both_tests (λ (p : ℤ × ℤ). int_le mark p.0) (λ (p : ℤ × ℤ). int_eq (bucket_of p.0 interval offset) index) (entries m)
    ∙ ap (filter (λ (p : ℤ × ℤ). int_eq (bucket_of p.0 interval offset) index)) (sym (entries_from m mark))

-- a bucket before that of the mark has no point from the mark on
none_of_both : (mark index i o : ℤ) (ps : List (ℤ × ℤ)) → ((t : ℤ) → mark ≤ℤ t → bucket_of t i o ≡ index → ⊥) → points_since mark (filter (λ (p : ℤ × ℤ). int_eq (bucket_of p.0 i o) index) ps) ≡ []
none_of_both mark index i o [] apart = refl
none_of_both mark index i o (p ∷ ps) apart =
    let rest = none_of_both mark index i o ps apart in
    let others : List (ℤ × ℤ) = filter (λ (q : ℤ × ℤ). int_eq (bucket_of q.0 i o) index) ps in
    elim (int_eq (bucket_of p.0 i o) index) as (λ b. int_eq (bucket_of p.0 i o) index ≡ b → points_since mark (cond b (p ∷ others) others) ≡ []) [
      | true ↦ λ e. elim (int_le mark p.0) as (λ b. int_le mark p.0 ≡ b → cond b (p ∷ points_since mark others) (points_since mark others) ≡ []) [
        | true ↦ λ l. absurd (apart p.0 (le_from mark p.0 l) (exact_signed (bucket_of p.0 i o) index (equal_of (int_cmp (bucket_of p.0 i o) index) e)))
        | false ↦ λ l. rest
      ] refl
      | false ↦ λ e. rest
    ] refl

pub none_since : (r : Rule) (mark index : ℤ) (m : PointMap) → pos 1 ≤ℤ r.interval → index <ℤ bucket_of mark r.interval r.offset → points_since mark (points_in_bucket m index r.interval r.offset) ≡ []
none_since r mark index m long before =
    none_of_both mark index r.interval r.offset (entries m) (λ t late same.
    let up = bucket_le mark t r.interval r.offset long late in omega (arith, ints, up, same, before))

-- the next point is one of them, or not
pub since_here : (mark : ℤ) (p : ℤ × ℤ) (ps : List (ℤ × ℤ)) → mark ≤ℤ p.0 → points_since mark (p ∷ ps) ≡ p ∷ points_since mark ps
since_here mark p ps late = ap (λ b. cond b (p ∷ points_since mark ps) (points_since mark ps)) (le_true mark p.0 late)

pub since_before : (mark : ℤ) (p : ℤ × ℤ) (ps : List (ℤ × ℤ)) → int_le mark p.0 ≡ false → points_since mark (p ∷ ps) ≡ points_since mark ps
since_before mark p ps early = ap (λ b. cond b (p ∷ points_since mark ps) (points_since mark ps)) early

-- ---- a walk over the columns of a rollup series

-- the points of a column in a bucket
pub column_points : (r : Rule) (m : ℕ) (ss : List ColumnState) (col : ColumnState) (index bucket interval offset : ℤ) (ps : List (ℤ × ℤ)) → m < length ss → col ≡ get_or ss m col → bucket ≡ index → interval ≡ r.interval → offset ≡ r.offset
    → ps ≡ points_in_bucket col.points bucket interval offset → ps ≡ points_in_bucket (get_or ss m no_column).points index r.interval r.offset
column_points r m ss col index bucket interval offset ps within is is_index is_interval is_offset e =
    let col_is : col ≡ get_or ss m no_column = is ∙ get_or_default ss m col no_column within in
    e ∙ (λ i. points_in_bucket (col_is i).points (is_index i) (is_interval i) (is_offset i))

-- of the column that is left with the points from a mark on, and of another one
module _ (r : Rule) (mark : ℤ) (moved m : ℕ) (ss : List ColumnState) (col : ColumnState) (index : ℤ) (within : m < length ss) (is : col ≡ get_or ss m col) where
  pub column_left : m ≡ moved → points_since mark (points_in_bucket col.points index r.interval r.offset) ≡ points_in_bucket (get_or (left_states mark moved ss) m no_column).points index r.interval r.offset
  column_left same =
      ap (points_since mark) (column_points r m ss col index index r.interval r.offset (points_in_bucket col.points index r.interval r.offset) within is refl refl refl refl)
      ∙ since_bucket (get_or ss m no_column).points mark index r.interval r.offset
      ∙ ap (λ (x : ColumnState). points_in_bucket x.points index r.interval r.offset) (sym (get_or-set_same ss m (left_state mark (get_or ss m no_column)) no_column within))
      ∙ ap (λ n. points_in_bucket (get_or (left_states mark n ss) m no_column).points index r.interval r.offset) same

  pub column_same : (bucket interval offset : ℤ) (ps : List (ℤ × ℤ)) → bucket ≡ index → interval ≡ r.interval → offset ≡ r.offset → ps ≡ points_in_bucket col.points bucket interval offset → (m ≡ moved → ⊥)
      → ps ≡ points_in_bucket (get_or (left_states mark moved ss) m no_column).points index r.interval r.offset
  column_same bucket interval offset ps is_index is_interval is_offset e apart =
      column_points r m ss col index bucket interval offset ps within is is_index is_interval is_offset e
      ∙ ap (λ (x : ColumnState). points_in_bucket x.points index r.interval r.offset) (sym (get_or-set_other ss moved m (left_state mark (get_or ss moved no_column)) no_column apart))

-- the walk is at the number with this index: with the points of the columns left, the total is the whole
pub record IsWalk (r : Rule) (columns : List ColumnState) (index : ℤ) (whole : Aggregate) (ns : List ℕ) (i : ℕ) (total : Aggregate) : Type 0 where
  pub there : AllByRecursion (λ n. n < length columns) ns
  pub same : merged total (aggregate_of_points (points_in r columns index (drop i ns))) ≡ whole
  pub few : total.count + length (points_in r columns index (drop i ns)) ≤ 2 ^ 62

module _ (r : Rule) (columns : List ColumnState) (index : ℤ) where
  pub walk_first : (s : RollupState) (l : ℕ) (ns : List ℕ) (total : Aggregate) → length s.series_of_column ≡ length columns → number_of_points columns ≤ 2 ^ 62 → ns ≡ columns_of_rollup_series l s → total ≡ empty_aggregate
      → IsWalk r columns index (rollup_series_total r s columns l index) ns 0 total
  walk_first s l ns total each most is none =
      let points = ap (points_in r columns index) is in
      let count = ap (λ (a : Aggregate). a.count) none in
      let many = ap length points in
      let few : length (points_in r columns index (columns_of_rollup_series l s)) ≤ number_of_points columns = points-few r columns index l 0 columns s.series_of_column each (λ i below. let f : 0 + i ≡ i = omega arith in ap (λ j. get_or columns j no_column) f) in
      record {
        there = subst (λ ms. AllByRecursion (λ n. n < length columns) ms) (sym is)
            (subst (λ m. AllByRecursion (λ n. n < m) (columns_of_rollup_series l s)) each (numbers-below (is_of_rollup_series l) s.series_of_column));
        same = ap₂ (λ (a : Aggregate) (ps : List (ℤ × ℤ)). merged a (aggregate_of_points ps)) none points ∙ aggregate_laws.unit _;
        few = omega (arith, count, many, few, most);
      }

  module _ (whole : Aggregate) (ns : List ℕ) (i : ℕ) (total : Aggregate) (walk : IsWalk r columns index whole ns i total) where
    pub walk_last : length ns ≤ i → total ≡ whole
    walk_last past = sym (points_none total) ∙ ap (λ ms. merged total (aggregate_of_points (points_in r columns index ms))) (sym (drop_all i ns past)) ∙ walk.same

    module _ (d n : ℕ) (below : i < length ns) (read : n ≡ get_or ns i d) where
      pub walk_at : n < length columns
      walk_at = subst (λ m. m < length columns) (sym read) (all_at (λ m. m < length columns) ns i d below walk.there)

      module _ (ps : List (ℤ × ℤ)) (is : ps ≡ points_in_bucket (get_or columns n no_column).points index r.interval r.offset) where
        abbrev rest : List (ℤ × ℤ)
        rest = points_in r columns index (drop (i + 1) ns)

        parts : points_in r columns index (drop i ns) ≡ ps ++ rest
        parts =
            ap (points_in r columns index) (drop_more ns i 0 below)
            ∙ ap (λ xs. xs ++ rest) (sym (is ∙ ap (λ m. points_in_bucket (get_or columns m no_column).points index r.interval r.offset) (read ∙ get_or_default ns i d 0 below)))

        pub walk_fits : total.count + length ps ≤ 2 ^ 62
        walk_fits = let few = walk.few in let long = ap length parts ∙ length-append ps rest in omega (arith, few, long)

        pub walk_next : (new : Aggregate) → new ≡ merged total (aggregate_of_points ps) → IsWalk r columns index whole ns (i + 1) new
        walk_next new made =
            let few = walk.few in
            let long = ap length parts ∙ length-append ps rest in
            let count = ap (λ (a : Aggregate). a.count) made in
            let each = count_of_fold ps in
            record {
              there = walk.there;
              same = ap (λ a. merged a (aggregate_of_points rest)) made ∙ aggregate_laws.assoc total (aggregate_of_points ps) (aggregate_of_points rest)
                  ∙ ap (merged total) (sym (fold-append aggregate_laws (λ (p : ℤ × ℤ). aggregate_of_one p.0 p.1) ps rest)) ∙ ap (λ xs. merged total (aggregate_of_points xs)) (sym parts) ∙ walk.same;
              few = omega (arith, few, long, count, each);
            }
