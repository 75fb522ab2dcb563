-- Shares merged into a table one after another, and the resulting rows.
use Rattle.std.proofs.Common.{◌≡◌, ℕ, zero, suc, ◌+◌, ◌<◌, ◌≤◌, ◌^◌, ◌==◌, List, [], ◌∷◌, ◌++◌, map, filter, length, get_or, set, refl, sym, ◌∙◌, ap, subst, Option, Some, is_some, Bool, true, false, cond, ◌&&◌, ◌||◌, arith, eq-eqb, eqb-true, true≢false, ℤ, min, ⊎_elim}
use Rattle.std.proofs.lemmas.Bool.{cases_lt}
use Rattle.std.proofs.lemmas.List.{length-set, get_or-set_same, get_or-set_other}
use Rattle.std.specs.List.{list_any}
use Rattle.std.specs.FinMap.{find, put}
use Rattle.std.specs.FinMap.Entries.{is_sorted-put, find-put, same_entries}
use Rattle.ts_core.specs.facts.Facts.{Text}
use Rattle.ts_core.specs.aggregates.Partials.{fold_by}
use Rattle.ts_core.specs.aggregates.Aggregates.{Aggregate, empty_aggregate, merged, merged_within}
use Rattle.ts_core.specs.aggregates.MergeLaws.{aggregate_laws}
use Rattle.ts_core.specs.queries.Answers.{group_cmp, same_group}
use Rattle.ts_core.proofs.aggregates.AggregatesLemmas.{merged_within-fits}
use Rattle.ts_core.proofs.queries.GroupsInOrder.{groups_total, exact_groups, same_group-refl, same_group-eq}
use Rattle.ts_exec.specs.declared.aggregate_parts.AggregateParts.TheVariants.{Whole}
use Rattle.ts_exec.specs.RowParts.{BucketGrid, row_index_at, with_part, with_point_parts}
use Rattle.ts_exec.specs.GroupTables.{Table, IsGroupTable, rows_or, rows_for, with_cell_part, with_column_parts}
use Rattle.ts_exec.specs.Shares.{Share, with_shares, is_share, total_at, point_share}

put_table : (n : ℕ) (s : Share) (t : Table) → IsGroupTable t → IsGroupTable (with_cell_part n s.group s.row_index s.part t)
put_table n s t h = is_sorted-put group_cmp groups_total s.group (with_part s.row_index s.part (rows_for n s.group t)) t h

pub shares-table : (n : ℕ) (ss : List Share) (t : Table) → IsGroupTable t → IsGroupTable (with_shares n ss t)
shares-table n [] t h = h
shares-table n (s ∷ ss) t h = shares-table n ss (with_cell_part n s.group s.row_index s.part t) (put_table n s t h)

pub shares-append : (n : ℕ) (xs ys : List Share) (t : Table) → with_shares n (xs ++ ys) t ≡ with_shares n ys (with_shares n xs t)
shares-append n [] ys t = refl
shares-append n (x ∷ xs) ys t = shares-append n xs ys (with_cell_part n x.group x.row_index x.part t)

-- ---- a column's points

pub put-put : (g : List Text) (x y : List Aggregate) (t : Table) → IsGroupTable t → put group_cmp g x (put group_cmp g y t) ≡ put group_cmp g x t
put-put g x y t h =
    let one : IsGroupTable (put group_cmp g y t) = is_sorted-put group_cmp groups_total g y t h in
    same_entries group_cmp groups_total exact_groups _ _ (is_sorted-put group_cmp groups_total g x (put group_cmp g y t) one) (is_sorted-put group_cmp groups_total g x t h) (λ q.
    find-put group_cmp groups_total q g x (put group_cmp g y t)
    ∙ ap (cond (same_group q g) (Some x)) (find-put group_cmp groups_total q g y t)
    ∙ twice (same_group q g) x y (find group_cmp q t)
    ∙ sym (find-put group_cmp groups_total q g x t))
  where
    twice : (b : Bool) (x y : List Aggregate) (o : Option (List Aggregate)) → cond b (Some x) (cond b (Some y) o) ≡ cond b (Some x) o
    twice true x y o = refl
    twice false x y o = refl

pub rows-put : (n : ℕ) (g : List Text) (rows : List Aggregate) (t : Table) → rows_for n g (put group_cmp g rows t) ≡ rows
rows-put n g rows t = ap (rows_or n) (find-put group_cmp groups_total g g rows t ∙ ap (λ b. cond b (Some rows) (find group_cmp g t)) (same_group-refl g))

column_from : (grid : BucketGrid) (n : ℕ) (g : List Text) (ps : List (ℤ × ℤ)) (rows : List Aggregate) (t : Table) → IsGroupTable t
    → with_shares n (map (point_share grid g) ps) (put group_cmp g rows t) ≡ put group_cmp g (with_point_parts Whole grid ps rows) t
column_from grid n g [] rows t h = refl
column_from grid n g (p ∷ ps) rows t h =
    let s : Share = point_share grid g p in
    let next : List Aggregate = with_part s.row_index s.part rows in
    ap (λ r. with_shares n (map (point_share grid g) ps) (put group_cmp g (with_part s.row_index s.part r) (put group_cmp g rows t))) (rows-put n g rows t)
    ∙ ap (with_shares n (map (point_share grid g) ps)) (put-put g next rows t h)
    ∙ column_from grid n g ps next t h

pub column-shares : (grid : BucketGrid) (n : ℕ) (g : List Text) (ps : List (ℤ × ℤ)) (t : Table) → IsGroupTable t → with_column_parts Whole grid n g ps t ≡ with_shares n (map (point_share grid g) ps) t
column-shares grid n g [] t h = refl
column-shares grid n g (p ∷ ps) t h = sym (column_from grid n g ps (with_part (row_index_at grid p.0) (point_share grid g p).part (rows_for n g t)) t h)

-- ---- the rows of a group

abbrev pub rows_after : List Text → List Share → List Aggregate → List Aggregate
rows_after g [] rows = rows
rows_after g (s ∷ ss) rows = rows_after g ss (cond (same_group g s.group) (with_part s.row_index s.part rows) rows)

rows_step : (n : ℕ) (g : List Text) (s : Share) (t : Table) → rows_for n g (with_cell_part n s.group s.row_index s.part t) ≡ cond (same_group g s.group) (with_part s.row_index s.part (rows_for n g t)) (rows_for n g t)
rows_step n g s t =
    ap (rows_or n) (find-put group_cmp groups_total g s.group (with_part s.row_index s.part (rows_for n s.group t)) t)
    ∙ elim (same_group g s.group) as (λ b. same_group g s.group ≡ b → rows_or n (cond b (Some (with_part s.row_index s.part (rows_for n s.group t))) (find group_cmp g t)) ≡ cond b (with_part s.row_index s.part (rows_for n g t)) (rows_for n g t)) [
      | true ↦ λ e. ap (λ k. with_part s.row_index s.part (rows_for n k t)) (sym (same_group-eq g s.group e))
      | false ↦ λ e. refl
    ] refl

pub rows-after : (n : ℕ) (g : List Text) (ss : List Share) (t : Table) → rows_for n g (with_shares n ss t) ≡ rows_after g ss (rows_for n g t)
rows-after n g [] t = refl
rows-after n g (s ∷ ss) t = rows-after n g ss (with_cell_part n s.group s.row_index s.part t) ∙ ap (rows_after g ss) (rows_step n g s t)

length_step : (b : Bool) (i : ℕ) (a : Aggregate) (rows : List Aggregate) → length (cond b (with_part i a rows) rows) ≡ length rows
length_step true i a rows = length-set rows i _
length_step false i a rows = refl

pub length-rows_after : (g : List Text) (ss : List Share) (rows : List Aggregate) → length (rows_after g ss rows) ≡ length rows
length-rows_after g [] rows = refl
length-rows_after g (s ∷ ss) rows = length-rows_after g ss (cond (same_group g s.group) (with_part s.row_index s.part rows) rows) ∙ length_step (same_group g s.group) s.row_index s.part rows

-- ---- the aggregate of a bucket

abbrev pub held_at : List Text → ℕ → List Share → Aggregate → Aggregate
held_at g j [] x = x
held_at g j (s ∷ ss) x = held_at g j ss (cond (is_share g j s) (merged_within s.part x) x)

part_at : (i j : ℕ) (a : Aggregate) (rows : List Aggregate) → j < length rows → get_or (with_part i a rows) j empty_aggregate ≡ cond (i == j) (merged_within a (get_or rows j empty_aggregate)) (get_or rows j empty_aggregate)
part_at i j a rows l =
    elim (i == j) as (λ b. (i == j) ≡ b → get_or (with_part i a rows) j empty_aggregate ≡ cond b (merged_within a (get_or rows j empty_aggregate)) (get_or rows j empty_aggregate)) [
      | true ↦ λ e. let same : i ≡ j = eqb-true i j e in ap (λ k. get_or (set rows k (merged_within a (get_or rows k empty_aggregate))) j empty_aggregate) same ∙ get_or-set_same rows j _ empty_aggregate l
      | false ↦ λ e. get_or-set_other rows i j _ empty_aggregate (λ same. true≢false (sym (eq-eqb i j (sym same)) ∙ e))
    ] refl

row_step : (g : List Text) (j : ℕ) (s : Share) (rows : List Aggregate) → j < length rows
    → get_or (cond (same_group g s.group) (with_part s.row_index s.part rows) rows) j empty_aggregate ≡ cond (is_share g j s) (merged_within s.part (get_or rows j empty_aggregate)) (get_or rows j empty_aggregate)
row_step g j s rows l =
    elim (same_group g s.group) as (λ b. get_or (cond b (with_part s.row_index s.part rows) rows) j empty_aggregate ≡ cond (b && (s.row_index == j)) (merged_within s.part (get_or rows j empty_aggregate)) (get_or rows j empty_aggregate)) [
      | true ↦ part_at s.row_index j s.part rows l
      | false ↦ refl
    ]

pub held-after : (g : List Text) (j : ℕ) (ss : List Share) (rows : List Aggregate) → j < length rows → get_or (rows_after g ss rows) j empty_aggregate ≡ held_at g j ss (get_or rows j empty_aggregate)
held-after g j [] rows l = refl
held-after g j (s ∷ ss) rows l =
    let next : List Aggregate = cond (same_group g s.group) (with_part s.row_index s.part rows) rows in
    held-after g j ss next (subst (λ m. j < m) (sym (length_step (same_group g s.group) s.row_index s.part rows)) l) ∙ ap (held_at g j ss) (row_step g j s rows l)

-- ---- where all fits, nothing is left out

pub held-fits : (g : List Text) (j : ℕ) (ss : List Share) (x : Aggregate) → x.count + (total_at g j ss).count ≤ 2 ^ 62 → held_at g j ss x ≡ merged x (total_at g j ss)
held-fits g j [] x h = sym (aggregate_laws.comm x empty_aggregate ∙ aggregate_laws.unit x)
held-fits g j (s ∷ ss) x h =
    elim (is_share g j s) as (λ b. x.count + (fold_by empty_aggregate merged (λ (z : Share). z.part) (cond b (s ∷ filter (is_share g j) ss) (filter (is_share g j) ss))).count ≤ 2 ^ 62
    → held_at g j ss (cond b (merged_within s.part x) x) ≡ merged x (fold_by empty_aggregate merged (λ (z : Share). z.part) (cond b (s ∷ filter (is_share g j) ss) (filter (is_share g j) ss)))) [
      | true ↦ λ k.
          let t : Aggregate = total_at g j ss in
          let few : x.count + s.part.count ≤ 2 ^ 62 = omega arith in
          ap (held_at g j ss) (merged_within-fits s.part x few) ∙ held-fits g j ss (merged x s.part) (omega arith) ∙ aggregate_laws.assoc x s.part t
      | false ↦ λ k. held-fits g j ss x k
    ] h

-- ---- which groups are there

pub found-after : (n : ℕ) (g : List Text) (ss : List Share) (t : Table) → is_some (find group_cmp g (with_shares n ss t)) ≡ (list_any (λ s. same_group g s.group) ss || is_some (find group_cmp g t))
found-after n g [] t = refl
found-after n g (s ∷ ss) t =
    found-after n g ss (with_cell_part n s.group s.row_index s.part t)
    ∙ ap (λ o. list_any (λ s. same_group g s.group) ss || is_some o) (find-put group_cmp groups_total g s.group (with_part s.row_index s.part (rows_for n s.group t)) t)
    ∙ swapped (same_group g s.group) (list_any (λ s. same_group g s.group) ss) (with_part s.row_index s.part (rows_for n s.group t)) (find group_cmp g t)
  where
    swapped : (b c : Bool) (r : List Aggregate) (o : Option (List Aggregate)) → (c || is_some (cond b (Some r) o)) ≡ ((b || c) || is_some o)
    swapped true true r o = refl
    swapped true false r o = refl
    swapped false true r o = refl
    swapped false false r o = refl

-- ---- an index past the last row

far_part : (i : ℕ) (a : Aggregate) (rows : List Aggregate) → length rows ≤ i → with_part i a rows ≡ rows
far_part i a [] l = refl
far_part zero a (x ∷ rows) l = absurd (omega arith)
far_part (suc i) a (x ∷ rows) l = ap (λ xs. x ∷ xs) (far_part i a rows (omega arith))

pub part-saturated : (p : ℕ) (a : Aggregate) (rows : List Aggregate) → length rows ≤ 18446744073709551615 → with_part (min p 18446744073709551615) a rows ≡ with_part p a rows
part-saturated p a rows l =
    ⊎_elim {C = with_part (min p 18446744073709551615) a rows ≡ with_part p a rows}
    (λ (low : p < 18446744073709551615). let e : min p 18446744073709551615 ≡ p = omega arith in ap (λ i. with_part i a rows) e)
    (λ (high : 18446744073709551615 ≤ p). let e : min p 18446744073709551615 ≡ 18446744073709551615 = omega arith in ap (λ i. with_part i a rows) e ∙ far_part 18446744073709551615 a rows l ∙ sym (far_part p a rows (omega arith)))
    (cases_lt p 18446744073709551615)
