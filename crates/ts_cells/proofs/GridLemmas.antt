-- The value of a finite map over rows and rollup series at a cell.
use Rattle.std.proofs.Common.{◌≡◌, ℕ, ℤ, zero, suc, ◌<◌, Bool, true, false, cond, T, List, [], ◌∷◌, ◌++◌, length, get_or, refl, sym, ◌∙◌, ap, ap₂, subst, Option, Some, None, inl, inr, ◌⊎◌, ⊎_elim, is_eq, arith, true≢false}
use Rattle.std.specs.Ordering.{int_cmp, eq_by_cmp}
use Rattle.std.specs.Cmp.{int_cmp_total}
use Rattle.std.specs.FinMap.{FinMap, find, get, from_entries, get-from_entries, same_map}
use Rattle.std.specs.FinMap.Entries.{below_all}
use Rattle.std.proofs.lemmas.Map.Lookups.{exact_signed}
use Rattle.ts_core.specs.lists.Members.{Among, AllDistinct}
use Rattle.ts_core.specs.store.Cells.{Cell, cell_cmp, same_cell}
use Rattle.ts_core.proofs.plans.PieceCells.{cells_total, exact_cells, same_cell-eq, same_cell-refl}
use Rattle.ts_core.proofs.lists.Places.{both_of}
use Rattle.ts_core.proofs.facts.Ids.{equal_of}
use Rattle.std.proofs.lemmas.Cmp.{tied_itself}
use Rattle.std.proofs.Common.{pos}
use Rattle.ts_core.specs.lists.Changes.{or_else}
use Rattle.ts_cells.proofs.Searches.{find_below}
use Rattle.ts_cells.specs.Grids.{RollupSeries, no_rollup_series, rollup_series_of, cell_at, cell_in, RowOf, held, row_entries, entries_of, RowsRise, cells_of_bucket}

-- the first answer, else the second
abbrev pub first_of : {X : Type 0} → Option X → Option X → Option X
first_of None y = y
first_of (Some x) y = Some x

pub find-both : {X : Type 0} (k : Cell) (xs ys : List (Cell × X)) → find cell_cmp k (xs ++ ys) ≡ first_of (find cell_cmp k xs) (find cell_cmp k ys)
find-both k [] ys = refl
find-both k (x ∷ xs) ys =
    elim (is_eq (cell_cmp k x.0)) as (λ b. cond b (Some x.1) (find cell_cmp k (xs ++ ys)) ≡ first_of (cond b (Some x.1) (find cell_cmp k xs)) (find cell_cmp k ys)) [
      | true ↦ refl
      | false ↦ find-both k xs ys
    ]

pub get_among : (ls : List RollupSeries) (j : ℕ) → j < length ls → Among (get_or ls j no_rollup_series) ls
get_among [] j h = absurd (omega arith)
get_among (l ∷ ls) zero h = inl refl
get_among (l ∷ ls) (suc j) h = inr (get_among ls j (omega arith))

pub first_none : {X : Type 0} (o : Option X) → first_of o None ≡ o
first_none None = refl
first_none (Some x) = refl

module _ {P : Type 0} where
  -- a cell of another bucket, or of no rollup series, is not in a row
  pub row_none : (k : Cell) (i : ℤ) (ls : List RollupSeries) (cs : List (Option P)) → (k.index ≡ i → Among (rollup_series_of k) ls → ⊥) → find cell_cmp k (row_entries i ls cs) ≡ None
  row_none k i [] cs h = refl
  row_none k i (l ∷ ls) [] h = refl
  row_none k i (l ∷ ls) (None ∷ cs) h = row_none k i ls cs (λ e a. h e (inr a))
  row_none k i (l ∷ ls) (Some p ∷ cs) h =
      elim (same_cell k (cell_at i l)) as (λ b. same_cell k (cell_at i l) ≡ b → cond b (Some p) (find cell_cmp k (row_entries i ls cs)) ≡ None) [
        | true ↦ λ e. let q : k ≡ cell_at i l = same_cell-eq k (cell_at i l) e in absurd (h (ap (λ (x : Cell). x.index) q) (inl (ap rollup_series_of q)))
        | false ↦ λ e. row_none k i ls cs (λ e a. h e (inr a))
      ] refl

  -- a cell of the bucket is in its row
  row_at : (i : ℤ) (ls : List RollupSeries) (cs : List (Option P)) (j : ℕ) → AllDistinct ls → j < length ls → find cell_cmp (cell_in ls i j) (row_entries i ls cs) ≡ held cs j
  row_at i [] cs j d h = absurd (omega arith)
  row_at i (l ∷ ls) [] j d h = refl
  row_at i (l ∷ ls) (None ∷ cs) zero d h = row_none (cell_at i l) i ls cs (λ e a. d.0 a)
  row_at i (l ∷ ls) (None ∷ cs) (suc j) d h = row_at i ls cs j d.1 (omega arith)
  row_at i (l ∷ ls) (Some p ∷ cs) zero d h = ap (λ b. cond b (Some p) (find cell_cmp (cell_at i l) (row_entries i ls cs))) (same_cell-refl (cell_at i l))
  row_at i (l ∷ ls) (Some p ∷ cs) (suc j) d h =
      let k : Cell = cell_in ls i j in
      elim (same_cell k (cell_at i l)) as (λ b. same_cell k (cell_at i l) ≡ b → cond b (Some p) (find cell_cmp k (row_entries i ls cs)) ≡ held cs j) [
        | true ↦ λ e. absurd (d.0 (subst (λ x. Among x ls) (ap rollup_series_of (same_cell-eq k (cell_at i l) e)) (get_among ls j (omega arith))))
        | false ↦ λ e. row_at i ls cs j d.1 (omega arith)
      ] refl

  pub entries_none : (k : Cell) (ls : List RollupSeries) (rows : List (RowOf P)) → (Among (rollup_series_of k) ls → ⊥) → find cell_cmp k (entries_of ls rows) ≡ None
  entries_none k ls [] h = refl
  entries_none k ls (r ∷ rs) h =
      find-both k (row_entries r.0 ls r.1) (entries_of ls rs) ∙ ap₂ first_of (row_none k r.0 ls r.1 (λ e a. h a)) (entries_none k ls rs h)

  -- a cell is in the row of its bucket
  pub entries_at : (ls : List RollupSeries) (rows : List (RowOf P)) (i : ℤ) (j : ℕ) → AllDistinct ls → RowsRise rows → j < length ls → find cell_cmp (cell_in ls i j) (entries_of ls rows) ≡ held (cells_of_bucket rows i) j
  entries_at ls [] i j d s h = refl
  entries_at ls (r ∷ rs) i j d s h =
      let k : Cell = cell_in ls i j in
      let rest = entries_at ls rs i j d (both_of _ _ s).1 h in
      find-both k (row_entries r.0 ls r.1) (entries_of ls rs)
      ∙ elim (eq_by_cmp int_cmp i r.0) as (λ b. eq_by_cmp int_cmp i r.0 ≡ b → first_of (find cell_cmp k (row_entries r.0 ls r.1)) (find cell_cmp k (entries_of ls rs)) ≡ held (or_else [] (cond b (Some r.1) (find int_cmp i rs))) j) [
        | true ↦ λ e.
            let same : i ≡ r.0 = exact_signed i r.0 (equal_of (int_cmp i r.0) e) in
            let none : find cell_cmp k (entries_of ls rs) ≡ None = rest ∙ ap (λ o. held (or_else [] o) j) (find_below int_cmp i rs (subst (λ x. T (below_all int_cmp x rs)) (sym same) (both_of _ _ s).0)) in
            ap (first_of (find cell_cmp k (row_entries r.0 ls r.1))) none ∙ first_none (find cell_cmp k (row_entries r.0 ls r.1))
            ∙ subst (λ x. find cell_cmp (cell_in ls x j) (row_entries r.0 ls r.1) ≡ held r.1 j) (sym same) (row_at r.0 ls r.1 j d h)
        | false ↦ λ e.
            ap (λ o. first_of o (find cell_cmp k (entries_of ls rs))) (row_none k r.0 ls r.1 (λ q a. true≢false (sym (ap (λ x. eq_by_cmp int_cmp x r.0) q ∙ ap is_eq (tied_itself int_cmp_total r.0)) ∙ e))) ∙ rest
      ] refl

  pub get_at : (ls : List RollupSeries) (rows : List (RowOf P)) (i : ℤ) (j : ℕ) → AllDistinct ls → RowsRise rows → j < length ls → get (from_entries {R = cell_cmp} (entries_of ls rows)) (cell_in ls i j) ≡ held (cells_of_bucket rows i) j
  get_at ls rows i j d s h = get-from_entries cells_total (entries_of ls rows) (cell_in ls i j) ∙ entries_at ls rows i j d s h

  pub get_none : (k : Cell) (ls : List RollupSeries) (rows : List (RowOf P)) → (Among (rollup_series_of k) ls → ⊥) → get (from_entries {R = cell_cmp} (entries_of ls rows)) k ≡ None
  get_none k ls rows h = get-from_entries cells_total (entries_of ls rows) k ∙ entries_none k ls rows h

-- ---- a rollup series is one of the list, or not

abbrev same_rollup_series : RollupSeries → RollupSeries → Bool
same_rollup_series a b = same_cell (cell_at (pos 0) a) (cell_at (pos 0) b)

pub has_rollup_series : (l : RollupSeries) (ls : List RollupSeries) → ((j : ℕ) × (j < length ls) × (get_or ls j no_rollup_series ≡ l)) ⊎ (Among l ls → ⊥)
has_rollup_series l [] = inr (λ a. a)
has_rollup_series l (m ∷ ms) =
    elim (same_rollup_series l m) as (λ b. same_rollup_series l m ≡ b → ((j : ℕ) × (j < length (m ∷ ms)) × (get_or (m ∷ ms) j no_rollup_series ≡ l)) ⊎ (Among l (m ∷ ms) → ⊥)) [
      | true ↦ λ e. inl (0, omega arith, sym (ap rollup_series_of (same_cell-eq (cell_at (pos 0) l) (cell_at (pos 0) m) e)))
      | false ↦ λ e.
          ⊎_elim {C = ((j : ℕ) × (j < length (m ∷ ms)) × (get_or (m ∷ ms) j no_rollup_series ≡ l)) ⊎ (Among l (m ∷ ms) → ⊥)}
          (λ p. inl (suc p.0, (let h = p.1 in omega arith), p.2))
          (λ n. inr (λ a. ⊎_elim {C = ⊥} (λ q. true≢false (sym (ap (same_rollup_series l) (sym q) ∙ same_cell-refl (cell_at (pos 0) l)) ∙ e)) n a))
          (has_rollup_series l ms)
    ] refl

-- two maps with the same cells in every bucket and rollup series, and none elsewhere
module _ {P : Type 0} where
  pub same_grid : (ls : List RollupSeries) (rows : List (RowOf P)) (m : FinMap cell_cmp P) → AllDistinct ls → RowsRise rows
      → ((i : ℤ) (j : ℕ) → j < length ls → get m (cell_in ls i j) ≡ held (cells_of_bucket rows i) j) → ((k : Cell) → (Among (rollup_series_of k) ls → ⊥) → get m k ≡ None)
      → from_entries {R = cell_cmp} (entries_of ls rows) ≡ m
  same_grid ls rows m d s there none =
      same_map cells_total exact_cells (from_entries {R = cell_cmp} (entries_of ls rows)) m (λ k.
      ⊎_elim {C = get (from_entries {R = cell_cmp} (entries_of ls rows)) k ≡ get m k}
      (λ p. subst (λ (l : RollupSeries). get (from_entries {R = cell_cmp} (entries_of ls rows)) (cell_at k.index l) ≡ get m (cell_at k.index l)) p.2
      (get_at ls rows k.index p.0 d s p.1 ∙ sym (there k.index p.0 p.1)))
      (λ n. get_none k ls rows n ∙ sym (none k n)) (has_rollup_series (rollup_series_of k) ls))
