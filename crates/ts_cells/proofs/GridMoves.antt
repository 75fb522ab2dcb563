-- The effect of a change in one row on the finite map.
use Rattle.std.proofs.Common.{◌≡◌, ℕ, ℤ, zero, suc, ◌<◌, ◌≤◌, ◌+◌, Bool, true, false, cond, List, [], ◌∷◌, length, get_or, set, insert, refl, sym, ◌∙◌, ap, ap₂, subst, Option, Some, None, is_eq, arith, Less, Equal, Greater, ◌==◌, ◌&&◌, option_map, max}
use Rattle.std.specs.Ordering.{int_cmp, eq_by_cmp}
use Rattle.std.specs.Cmp.{int_cmp_total}
use Rattle.std.specs.FinMap.{FinMap, find, put, get, from_entries, get-insert}
use Rattle.std.specs.FinMap.Entries.{is_sorted-put, find-put}
use Rattle.std.specs.List.{AllByRecursion}
use Rattle.std.specs.List.Sorted.{IsPartitionPoint}
use Rattle.std.proofs.lemmas.Cmp.{tied_itself}
use Rattle.std.proofs.lemmas.Map.Lookups.{exact_signed}
use Rattle.std.proofs.lemmas.Bool.{and_parts}
use Rattle.ts_core.specs.lists.Members.{Among, AllDistinct}
use Rattle.ts_core.specs.store.Cells.{Cell, cell_cmp, same_cell}
use Rattle.ts_core.proofs.facts.Ids.{equal_of}
use Rattle.ts_core.proofs.plans.PieceCells.{cells_total, same_cell-eq, same_cell-refl}
use Rattle.ts_core.proofs.lists.Places.{put_at, put_between, found_at}
use Rattle.ts_core.proofs.lists.Comparisons.{same_bool}
use Rattle.ts_core.specs.lists.Changes.{or_else, changed, with_change}
use Rattle.ts_cells.specs.CellChanges.{inserted_if_absent, inserted_unless}
use Rattle.ts_cells.specs.Grids.{RollupSeries, no_rollup_series, rollup_series_of, cell_in, RowOf, held, entries_of, RowsRise, cells_of_bucket}
use Rattle.ts_cells.proofs.Searches.{missing}
use Rattle.ts_cells.proofs.GridLemmas.{get_among, get_none, get_at, same_grid}

-- ---- maps

module _ {X : Type 0} where
  pub get-changed : (m : FinMap cell_cmp X) (k : Cell) (f : X → X) (q : Cell) → get (changed m k f) q ≡ cond (same_cell q k) (option_map f (get m k)) (get m q)
  get-changed m k f q =
      elim (get m k) as (λ o. get m k ≡ o → get (with_change m k f o) q ≡ cond (same_cell q k) (option_map f o) (get m q)) [
        | None ↦ λ e. elim (same_cell q k) as (λ b. same_cell q k ≡ b → get m q ≡ cond b None (get m q)) [
          | true ↦ λ h. ap (get m) (same_cell-eq q k h) ∙ e
          | false ↦ λ h. refl
        ] refl
        | Some x ↦ λ e. get-insert cells_total m k (f x) q
      ] refl

  pub get-inserted_if_absent : (m : FinMap cell_cmp X) (k : Cell) (x : X) (q : Cell) → get (inserted_if_absent m k x) q ≡ cond (same_cell q k) (Some (or_else x (get m k))) (get m q)
  get-inserted_if_absent m k x q =
      elim (get m k) as (λ o. get m k ≡ o → get (inserted_unless m k x o) q ≡ cond (same_cell q k) (Some (or_else x o)) (get m q)) [
        | None ↦ λ e. get-insert cells_total m k x q
        | Some y ↦ λ e. elim (same_cell q k) as (λ b. same_cell q k ≡ b → get m q ≡ cond b (Some y) (get m q)) [
          | true ↦ λ h. ap (get m) (same_cell-eq q k h) ∙ e
          | false ↦ λ h. refl
        ] refl
      ] refl

-- ---- lists

pub all_set : {X : Type 0} (Q : X → Type 0) (xs : List X) (n : ℕ) (x : X) → AllByRecursion Q xs → Q x → AllByRecursion Q (set xs n x)
all_set Q [] n x a q = tt
all_set Q (y ∷ ys) zero x a q = (q, a.1)
all_set Q (y ∷ ys) (suc n) x a q = (a.0, all_set Q ys n x a.1 q)

pub all_insert : {X : Type 0} (Q : X → Type 0) (xs : List X) (n : ℕ) (x : X) → n ≤ length xs → AllByRecursion Q xs → Q x → AllByRecursion Q (insert xs n x)
all_insert Q xs zero x h a q = (q, a)
all_insert Q [] (suc n) x h a q = absurd (omega arith)
all_insert Q (y ∷ ys) (suc n) x h a q = (a.0, all_insert Q ys n x (omega arith) a.1 q)

pub all_at : {X : Type 0} (Q : X → Type 0) (xs : List X) (n : ℕ) (d : X) → n < length xs → AllByRecursion Q xs → Q (get_or xs n d)
all_at Q [] n d h a = absurd (omega arith)
all_at Q (y ∷ ys) zero d h a = a.0
all_at Q (y ∷ ys) (suc n) d h a = all_at Q ys n d (omega arith) a.1

-- ---- rows

module _ {P : Type 0} where
  or_cond : (b : Bool) (x : List (Option P)) (o : Option (List (Option P))) → or_else [] (cond b (Some x) o) ≡ cond b x (or_else [] o)
  or_cond true x o = refl
  or_cond false x o = refl

  -- rows after one was put
  pub record RowPut (rows after : List (RowOf P)) (i : ℤ) (cs : List (Option P)) : Type 0 where
    pub rising : RowsRise after
    pub cells : (q : ℤ) → cells_of_bucket after q ≡ cond (eq_by_cmp int_cmp q i) cs (cells_of_bucket rows q)

  pub row_put : (rows : List (RowOf P)) (i : ℤ) (cs : List (Option P)) → RowsRise rows → RowPut rows (put int_cmp i cs rows) i cs
  row_put rows i cs s = record {
    rising = is_sorted-put int_cmp int_cmp_total i cs rows s;
    cells = λ q. ap (or_else []) (find-put int_cmp int_cmp_total q i cs rows) ∙ or_cond (eq_by_cmp int_cmp q i) cs (find int_cmp q rows);
  }

  pub row_set : (rows : List (RowOf P)) (i : ℤ) (at : ℕ) (r d : RowOf P) → RowsRise rows → at < length rows → int_cmp (get_or rows at d).0 i ≡ Equal → r.0 ≡ (get_or rows at d).0 → RowPut rows (set rows at r) i r.1
  row_set rows i at r d s h e same =
      subst (λ rs. RowPut rows rs i r.1) (put_at int_cmp_total rows s i r.1 at d h e ∙ ap (λ x. set rows at (x, r.1)) (sym same)) (row_put rows i r.1 s)

  pub row_new : (rows : List (RowOf P)) (i : ℤ) (at : ℕ) (cs : List (Option P)) → RowsRise rows → at ≤ length rows
      → IsPartitionPoint (λ (r : RowOf P). int_cmp r.0 i ≡ Less) (λ (r : RowOf P). int_cmp r.0 i ≡ Greater) rows at → RowPut rows (insert rows at (i, cs)) i cs
  row_new rows i at cs s h p = subst (λ rs. RowPut rows rs i cs) (put_between int_cmp_total rows i cs at h p) (row_put rows i cs s)

  -- the cells of a row that is there
  pub cells_here : (rows : List (RowOf P)) (i : ℤ) (at : ℕ) (d : RowOf P) → RowsRise rows → at < length rows → int_cmp (get_or rows at d).0 i ≡ Equal → (get_or rows at d).1 ≡ cells_of_bucket rows i
  cells_here rows i at d s h e = sym (ap (or_else []) (found_at int_cmp_total rows s i at d h e))

  pub cells_missing : (rows : List (RowOf P)) (i : ℤ) (at : ℕ) → at ≤ length rows → IsPartitionPoint (λ (r : RowOf P). int_cmp r.0 i ≡ Less) (λ (r : RowOf P). int_cmp r.0 i ≡ Greater) rows at → cells_of_bucket rows i ≡ []
  cells_missing rows i at h p = ap (or_else []) (missing int_cmp_total rows i at h p)

-- ---- cells of different buckets or rollup series differ

distinct_at : (ls : List RollupSeries) (j k : ℕ) → AllDistinct ls → j < length ls → k < length ls → get_or ls j no_rollup_series ≡ get_or ls k no_rollup_series → j ≡ k
distinct_at [] j k d h i e = absurd (omega arith)
distinct_at (l ∷ ls) zero zero d h i e = refl
distinct_at (l ∷ ls) zero (suc k) d h i e = absurd (d.0 (subst (λ x. Among x ls) (sym e) (get_among ls k (omega arith))))
distinct_at (l ∷ ls) (suc j) zero d h i e = absurd (d.0 (subst (λ x. Among x ls) e (get_among ls j (omega arith))))
distinct_at (l ∷ ls) (suc j) (suc k) d h i e = ap suc (distinct_at ls j k d.1 (omega arith) (omega arith) e)

eqb_true : (j k : ℕ) → j ≡ k → (j == k) ≡ true
eqb_true j k e = grind arith

eqb_from : (j k : ℕ) → (j == k) ≡ true → j ≡ k
eqb_from j k e = grind arith

pub same_in : (ls : List RollupSeries) (p i : ℤ) (q j : ℕ) → AllDistinct ls → q < length ls → j < length ls → same_cell (cell_in ls p q) (cell_in ls i j) ≡ eq_by_cmp int_cmp p i && (q == j)
same_in ls p i q j d h k =
    same_bool (same_cell (cell_in ls p q) (cell_in ls i j)) (eq_by_cmp int_cmp p i && (q == j))
    (λ e. let c : cell_in ls p q ≡ cell_in ls i j = same_cell-eq (cell_in ls p q) (cell_in ls i j) e in
    ap₂ (λ x y. x && y) (ap (λ x. eq_by_cmp int_cmp x i) (ap (λ (z : Cell). z.index) c) ∙ ap is_eq (tied_itself int_cmp_total i)) (eqb_true q j (distinct_at ls q j d h k (ap rollup_series_of c))))
    (λ e. let b = and_parts (eq_by_cmp int_cmp p i) (q == j) e in
    ap (λ z. same_cell z (cell_in ls i j)) (ap₂ (cell_in ls) (exact_signed p i (equal_of (int_cmp p i) b.0)) (eqb_from q j b.1)) ∙ same_cell-refl (cell_in ls i j))

pub false_none : (ls : List RollupSeries) (i : ℤ) (j : ℕ) (k : Cell) → j < length ls → (Among (rollup_series_of k) ls → ⊥) → same_cell k (cell_in ls i j) ≡ false
false_none ls i j k h n =
    elim (same_cell k (cell_in ls i j)) as (λ b. same_cell k (cell_in ls i j) ≡ b → b ≡ false) [
      | true ↦ λ e. absurd (n (subst (λ l. Among l ls) (sym (ap rollup_series_of (same_cell-eq k (cell_in ls i j) e))) (get_among ls j h)))
      | false ↦ λ e. refl
    ] refl

-- one rollup series' cell put in one row
pub grid_put : {P : Type 0} (ls : List RollupSeries) (rows after : List (RowOf P)) (i : ℤ) (j : ℕ) (cs : List (Option P)) (v : Option P) (m : FinMap cell_cmp P) → AllDistinct ls → RowsRise rows → j < length ls → RowPut rows after i cs
    → ((q : ℕ) → held cs q ≡ cond (q == j) v (held (cells_of_bucket rows i) q)) → ((k : Cell) → get m k ≡ cond (same_cell k (cell_in ls i j)) v (get (from_entries {R = cell_cmp} (entries_of ls rows)) k))
    → from_entries {R = cell_cmp} (entries_of ls after) ≡ m
grid_put ls rows after i j cs v m d s h moved here law =
    same_grid ls after m d moved.rising
    (λ p q l. law (cell_in ls p q) ∙ ap₂ (λ b o. cond b v o) (same_in ls p i q j d l h) (get_at ls rows p q d s l)
    ∙ elim (eq_by_cmp int_cmp p i) as (λ b. eq_by_cmp int_cmp p i ≡ b → cond (b && (q == j)) v (held (cells_of_bucket rows p) q) ≡ held (cells_of_bucket after p) q) [
      | true ↦ λ e. let same : p ≡ i = exact_signed p i (equal_of (int_cmp p i) e) in
          ap (λ x. cond (q == j) v (held (cells_of_bucket rows x) q)) same ∙ sym (here q) ∙ sym (ap (λ x. held x q) (moved.cells p ∙ ap (λ b. cond b cs (cells_of_bucket rows p)) e))
      | false ↦ λ e. sym (ap (λ x. held x q) (moved.cells p ∙ ap (λ b. cond b cs (cells_of_bucket rows p)) e))
    ] refl)
    (λ k n. law k ∙ ap₂ (λ b o. cond b v o) (false_none ls i j k h n) (get_none k ls rows n))

-- the same rows again, or an empty one more
pub grid_kept : {P : Type 0} (ls : List RollupSeries) (rows after : List (RowOf P)) → AllDistinct ls → RowsRise rows → RowsRise after → ((i : ℤ) (j : ℕ) → held (cells_of_bucket after i) j ≡ held (cells_of_bucket rows i) j)
    → from_entries {R = cell_cmp} (entries_of ls after) ≡ from_entries {R = cell_cmp} (entries_of ls rows)
grid_kept ls rows after d s t same = same_grid ls after (from_entries {R = cell_cmp} (entries_of ls rows)) d t (λ i j l. get_at ls rows i j d s l ∙ sym (same i j)) (λ k n. get_none k ls rows n)

-- a row without cells, where there was none
pub row_unseen : {P : Type 0} (rows after : List (RowOf P)) (i : ℤ) → cells_of_bucket rows i ≡ [] → RowPut rows after i [] → (q : ℤ) → cells_of_bucket after q ≡ cells_of_bucket rows q
row_unseen rows after i none moved q =
    moved.cells q
    ∙ elim (eq_by_cmp int_cmp q i) as (λ b. eq_by_cmp int_cmp q i ≡ b → cond b [] (cells_of_bucket rows q) ≡ cells_of_bucket rows q) [
      | true ↦ λ e. sym (ap (cells_of_bucket rows) (exact_signed q i (equal_of (int_cmp q i) e)) ∙ none)
      | false ↦ λ e. refl
    ] refl

-- rows with the same cells at each bucket, but for empty rollup series
pub grid_same : {P : Type 0} (ls : List RollupSeries) (rows after : List (RowOf P)) → AllDistinct ls → RowsRise rows → RowsRise after → ((i : ℤ) → cells_of_bucket after i ≡ cells_of_bucket rows i)
    → from_entries {R = cell_cmp} (entries_of ls after) ≡ from_entries {R = cell_cmp} (entries_of ls rows)
grid_same ls rows after d s t same = grid_kept ls rows after d s t (λ i j. ap (λ cs. held cs j) (same i))

-- a row put with the cells that it had
pub row_kept : {P : Type 0} (rows after : List (RowOf P)) (i : ℤ) (cs : List (Option P)) → RowPut rows after i cs → ((j : ℕ) → held cs j ≡ held (cells_of_bucket rows i) j) → (q : ℤ) (j : ℕ) → held (cells_of_bucket after q) j ≡ held (cells_of_bucket rows q) j
row_kept rows after i cs moved same q j =
    ap (λ x. held x j) (moved.cells q)
    ∙ elim (eq_by_cmp int_cmp q i) as (λ b. eq_by_cmp int_cmp q i ≡ b → held (cond b cs (cells_of_bucket rows q)) j ≡ held (cells_of_bucket rows q) j) [
      | true ↦ λ e. same j ∙ ap (λ x. held (cells_of_bucket rows x) j) (sym (exact_signed q i (equal_of (int_cmp q i) e)))
      | false ↦ λ e. refl
    ] refl

pub least_of : (len before series n : ℕ) → len ≤ max before (series + 1) → before ≤ n → series < n → len ≤ n
least_of len before series n h b w = omega arith
