-- The entries of a walk: those of the finite map, in its order.
use Rattle.std.proofs.Common.{◌≡◌, ℕ, ℤ, zero, suc, ◌<◌, ◌≤◌, ◌+◌, ◌-◌, length, drop, arith, Bool, true, false, cond, ◌&&◌, T, List, [], ◌∷◌, ◌++◌, get_or, map, filter, refl, sym, ◌∙◌, ap, ap₂, subst, Option, Some, None, is_eq, is_lt, true≢false, Less}
use Rattle.std.specs.Ordering.{int_cmp, eq_by_cmp, ordering_then}
use Rattle.std.specs.Cmp.{int_cmp_total}
use Rattle.std.specs.List.{AllByRecursion}
use Rattle.std.specs.FinMap as finmap
use Rattle.std.specs.FinMap.{find, is_sorted, from_entries, get-from_entries, get-entries, entries_sorted}
use Rattle.std.specs.FinMap.Entries.{below_all, same_entries}
use Rattle.std.proofs.lemmas.Cmp.{tied_itself}
use Rattle.std.proofs.lemmas.Map.Lookups.{exact_signed}
use Rattle.std.proofs.lemmas.List.{map-append}
use Rattle.std.proofs.lemmas.List.Elements.{filter-append}
use Rattle.std.proofs.lemmas.Option.{slice_get-get_or}
use Rattle.ts_core.specs.lists.Members.{Among, AllDistinct}
use Rattle.ts_core.specs.facts.Facts.{is_within}
use Rattle.ts_core.specs.store.Cells.{Cell, cell_cmp, same_cell}
use Rattle.ts_core.specs.lists.Changes.{or_else}
use Rattle.ts_core.proofs.facts.Ids.{equal_of}
use Rattle.ts_core.proofs.plans.PieceCells.{cells_total, exact_cells, same_cell-eq}
use Rattle.ts_core.proofs.lists.Places.{both_of, less_of}
use Rattle.ts_core.specs.lists.Numbered.{IsAt}
use Rattle.ts_cells.specs.Grids.{RollupSeries, no_rollup_series, rollup_series_of, cell_at, cell_in, RowOf, held, entries_of, RowsRise, cells_of_bucket}
use Rattle.ts_cells.specs.RollupSeriesTable.{rollup_series_cmp, series_numbered, AreInside, IsOrdered}
use Rattle.ts_cells.specs.Walks.{CellWithPart, entry_of, with_entry, row_left, walk_left, entries_within}
use Rattle.ts_cells.proofs.Searches.{find_below}
use Rattle.ts_cells.proofs.GridLemmas.{first_of, first_none, find-both, get_among, same_grid}
use Rattle.ts_cells.proofs.RollupSeriesOrder.{exact_rollup_series}

together : (a b : Bool) → T a → T b → T (a && b)
together true b p q = q
together false b p q = p

-- cells of one bucket are in the order of their rollup series
same_bucket : (i : ℤ) (a b : RollupSeries) → cell_cmp (cell_at i a) (cell_at i b) ≡ rollup_series_cmp a b
same_bucket i a b = ap (λ o. ordering_then o (rollup_series_cmp a b)) (tied_itself int_cmp_total i)

earlier_bucket : (i j : ℤ) (a b : RollupSeries) → int_cmp i j ≡ Less → cell_cmp (cell_at i a) (cell_at j b) ≡ Less
earlier_bucket i j a b h = ap (λ o. ordering_then o (rollup_series_cmp a b)) h

-- a rollup series that isn't there has no number
absent_rollup_series : (ls : List RollupSeries) (l : RollupSeries) (order : List ℕ) → AreInside ls order → (Among l ls → ⊥) → find rollup_series_cmp l (series_numbered ls order) ≡ None
absent_rollup_series ls l [] a n = refl
absent_rollup_series ls l (m ∷ ms) a n =
    elim (eq_by_cmp rollup_series_cmp l (get_or ls m no_rollup_series)) as (λ b. eq_by_cmp rollup_series_cmp l (get_or ls m no_rollup_series) ≡ b → cond b (Some m) (find rollup_series_cmp l (series_numbered ls ms)) ≡ None) [
      | true ↦ λ e. absurd (n (subst (λ (x : RollupSeries). Among x ls) (sym (exact_rollup_series l (get_or ls m no_rollup_series) (equal_of (rollup_series_cmp l (get_or ls m no_rollup_series)) e))) (get_among ls m a.0)))
      | false ↦ λ e. absent_rollup_series ls l ms a.1 n
    ] refl

module _ {P : Type 0} where
  -- the part of a rollup series, where it has a number
  abbrev then_held : Option ℕ → List (Option P) → Option P
  then_held None cs = None
  then_held (Some n) cs = held cs n

  then_none : (o : Option ℕ) → then_held o [] ≡ None
  then_none None = refl
  then_none (Some n) = refl

module _ {P : Type 0} (ls : List RollupSeries) where
  -- ---- the found cell

  row_find : (i : ℤ) (l : RollupSeries) (cs : List (Option P)) (order : List ℕ) → T (is_sorted rollup_series_cmp (series_numbered ls order))
      → find cell_cmp (cell_at i l) (map entry_of (row_left ls i cs order)) ≡ then_held (find rollup_series_cmp l (series_numbered ls order)) cs
  row_find i l cs [] s = refl
  row_find i l cs (n ∷ ns) s =
      let m : RollupSeries = get_or ls n no_rollup_series in
      let p = both_of _ _ s in
      let rest = row_find i l cs ns p.1 in
      let left : List (CellWithPart P) = row_left ls i cs ns in
      elim (eq_by_cmp rollup_series_cmp l m) as (λ b. eq_by_cmp rollup_series_cmp l m ≡ b → find cell_cmp (cell_at i l) (map entry_of (with_entry (held cs n) n (cell_at i m) left)) ≡ then_held (cond b (Some n) (find rollup_series_cmp l (series_numbered ls ns))) cs) [
        | true ↦ λ e.
            let same : l ≡ m = exact_rollup_series l m (equal_of (rollup_series_cmp l m) e) in
            let none : find rollup_series_cmp l (series_numbered ls ns) ≡ None = find_below rollup_series_cmp l (series_numbered ls ns) (subst (λ (x : RollupSeries). T (below_all rollup_series_cmp x (series_numbered ls ns))) (sym same) p.0) in
            elim (held cs n) as (λ o. find cell_cmp (cell_at i l) (map entry_of (with_entry o n (cell_at i m) left)) ≡ o) [
              | None ↦ rest ∙ ap (λ o. then_held o cs) none
              | Some x ↦ ap (λ b. cond b (Some x) (find cell_cmp (cell_at i l) (map entry_of left))) (ap is_eq (same_bucket i l m) ∙ e)
            ]
        | false ↦ λ e.
            elim (held cs n) as (λ o. find cell_cmp (cell_at i l) (map entry_of (with_entry o n (cell_at i m) left)) ≡ then_held (find rollup_series_cmp l (series_numbered ls ns)) cs) [
              | None ↦ rest
              | Some x ↦ ap (λ b. cond b (Some x) (find cell_cmp (cell_at i l) (map entry_of left))) (ap is_eq (same_bucket i l m) ∙ e) ∙ rest
            ]
      ] refl

  -- a cell of another bucket isn't there
  row_other : (k : Cell) (i : ℤ) (cs : List (Option P)) (order : List ℕ) → (k.index ≡ i → ⊥) → find cell_cmp k (map entry_of (row_left ls i cs order)) ≡ None
  row_other k i cs [] h = refl
  row_other k i cs (n ∷ ns) h =
      let left : List (CellWithPart P) = row_left ls i cs ns in
      elim (held cs n) as (λ o. find cell_cmp k (map entry_of (with_entry o n (cell_in ls i n) left)) ≡ None) [
        | None ↦ row_other k i cs ns h
        | Some x ↦ elim (same_cell k (cell_in ls i n)) as (λ b. same_cell k (cell_in ls i n) ≡ b → cond b (Some x) (find cell_cmp k (map entry_of left)) ≡ None) [
          | true ↦ λ e. absurd (h (ap (λ (c : Cell). c.index) (same_cell-eq k (cell_in ls i n) e)))
          | false ↦ λ e. row_other k i cs ns h
        ] refl
      ]

  walk_find : (k : Cell) (order : List ℕ) (rows : List (RowOf P)) → T (is_sorted rollup_series_cmp (series_numbered ls order)) → RowsRise rows
      → find cell_cmp k (map entry_of (walk_left ls order rows order)) ≡ then_held (find rollup_series_cmp (rollup_series_of k) (series_numbered ls order)) (cells_of_bucket rows k.index)
  walk_find k order [] s t = sym (then_none (find rollup_series_cmp (rollup_series_of k) (series_numbered ls order)))
  walk_find k order (r ∷ rs) s t =
      let row : List (CellWithPart P) = row_left ls r.0 r.1 order in
      let left : List (CellWithPart P) = walk_left ls order rs order in
      let number : Option ℕ = find rollup_series_cmp (rollup_series_of k) (series_numbered ls order) in
      let rest : find cell_cmp k (map entry_of left) ≡ then_held number (cells_of_bucket rs k.index) = walk_find k order rs s (both_of _ _ t).1 in
      ap (find cell_cmp k) (map-append entry_of row left) ∙ find-both k (map entry_of row) (map entry_of left)
      ∙ elim (eq_by_cmp int_cmp k.index r.0) as (λ b. eq_by_cmp int_cmp k.index r.0 ≡ b → first_of (find cell_cmp k (map entry_of row)) (find cell_cmp k (map entry_of left)) ≡ then_held number (or_else [] (cond b (Some r.1) (find int_cmp k.index rs)))) [
        | true ↦ λ e.
            let same : k.index ≡ r.0 = exact_signed k.index r.0 (equal_of (int_cmp k.index r.0) e) in
            let gone : find int_cmp k.index rs ≡ None = find_below int_cmp k.index rs (subst (λ x. T (below_all int_cmp x rs)) (sym same) (both_of _ _ t).0) in
            let none : find cell_cmp k (map entry_of left) ≡ None = rest ∙ ap (λ o. then_held number (or_else [] o)) gone ∙ then_none number in
            ap (first_of (find cell_cmp k (map entry_of row))) none ∙ first_none (find cell_cmp k (map entry_of row))
            ∙ subst (λ i. find cell_cmp (cell_at i (rollup_series_of k)) (map entry_of row) ≡ then_held number r.1) (sym same) (row_find r.0 (rollup_series_of k) r.1 order s)
        | false ↦ λ e.
            ap (λ o. first_of o (find cell_cmp k (map entry_of left))) (row_other k r.0 r.1 order (λ q. true≢false (sym (ap (λ x. eq_by_cmp int_cmp x r.0) q ∙ ap is_eq (tied_itself int_cmp_total r.0)) ∙ e))) ∙ rest
      ] refl

  -- ---- the order

  row_below : (i : ℤ) (l : RollupSeries) (cs : List (Option P)) (order : List ℕ) (ys : List (Cell × P)) → T (below_all rollup_series_cmp l (series_numbered ls order)) → T (below_all cell_cmp (cell_at i l) ys)
      → T (below_all cell_cmp (cell_at i l) (map entry_of (row_left ls i cs order) ++ ys))
  row_below i l cs [] ys h k = k
  row_below i l cs (n ∷ ns) ys h k =
      let b = both_of _ _ h in
      let rest = row_below i l cs ns ys b.1 k in
      elim (held cs n) as (λ o. T (below_all cell_cmp (cell_at i l) (map entry_of (with_entry o n (cell_in ls i n) (row_left ls i cs ns)) ++ ys))) [
        | None ↦ rest
        | Some x ↦ together _ _ (subst (λ o. T (is_lt o)) (sym (same_bucket i l (get_or ls n no_rollup_series))) b.0) rest
      ]

  later_below : (i j : ℤ) (l : RollupSeries) (cs : List (Option P)) (order : List ℕ) (ys : List (Cell × P)) → int_cmp i j ≡ Less → T (below_all cell_cmp (cell_at i l) ys)
      → T (below_all cell_cmp (cell_at i l) (map entry_of (row_left ls j cs order) ++ ys))
  later_below i j l cs [] ys h k = k
  later_below i j l cs (n ∷ ns) ys h k =
      let rest = later_below i j l cs ns ys h k in
      elim (held cs n) as (λ o. T (below_all cell_cmp (cell_at i l) (map entry_of (with_entry o n (cell_in ls j n) (row_left ls j cs ns)) ++ ys))) [
        | None ↦ rest
        | Some x ↦ together _ _ (subst (λ o. T (is_lt o)) (sym (earlier_bucket i j l (get_or ls n no_rollup_series) h)) tt) rest
      ]

  rows_below : (i : ℤ) (l : RollupSeries) (order : List ℕ) (rows : List (RowOf P)) → T (below_all int_cmp i rows) → T (below_all cell_cmp (cell_at i l) (map entry_of (walk_left ls order rows order)))
  rows_below i l order [] h = tt
  rows_below i l order (r ∷ rs) h =
      let b = both_of _ _ h in
      subst (λ es. T (below_all cell_cmp (cell_at i l) es)) (sym (map-append entry_of (row_left ls r.0 r.1 order) (walk_left ls order rs order)))
      (later_below i r.0 l r.1 order (map entry_of (walk_left ls order rs order)) (less_of _ b.0) (rows_below i l order rs b.1))

  row_sorted : (i : ℤ) (cs : List (Option P)) (order : List ℕ) (ys : List (Cell × P)) → T (is_sorted rollup_series_cmp (series_numbered ls order)) → T (is_sorted cell_cmp ys) → ((l : RollupSeries) → T (below_all cell_cmp (cell_at i l) ys))
      → T (is_sorted cell_cmp (map entry_of (row_left ls i cs order) ++ ys))
  row_sorted i cs [] ys s t b = t
  row_sorted i cs (n ∷ ns) ys s t b =
      let p = both_of _ _ s in
      let rest = row_sorted i cs ns ys p.1 t b in
      elim (held cs n) as (λ o. T (is_sorted cell_cmp (map entry_of (with_entry o n (cell_in ls i n) (row_left ls i cs ns)) ++ ys))) [
        | None ↦ rest
        | Some x ↦ together _ _ (row_below i (get_or ls n no_rollup_series) cs ns ys p.0 (b (get_or ls n no_rollup_series))) rest
      ]

  walk_sorted : (order : List ℕ) (rows : List (RowOf P)) → T (is_sorted rollup_series_cmp (series_numbered ls order)) → RowsRise rows → T (is_sorted cell_cmp (map entry_of (walk_left ls order rows order)))
  walk_sorted order [] s t = tt
  walk_sorted order (r ∷ rs) s t =
      let p = both_of _ _ t in
      subst (λ es. T (is_sorted cell_cmp es)) (sym (map-append entry_of (row_left ls r.0 r.1 order) (walk_left ls order rs order)))
      (row_sorted r.0 r.1 order (map entry_of (walk_left ls order rs order)) s (walk_sorted order rs s p.1) (λ l. rows_below r.0 l order rs p.0))

  -- ---- a range of buckets

  row_passes : (q : ℤ → Bool) (i : ℤ) (cs : List (Option P)) (order : List ℕ) → q i ≡ true → filter (λ (e : Cell × P). q e.0.index) (map entry_of (row_left ls i cs order)) ≡ map entry_of (row_left ls i cs order)
  row_passes q i cs [] h = refl
  row_passes q i cs (n ∷ ns) h =
      let left : List (CellWithPart P) = row_left ls i cs ns in
      let rest = row_passes q i cs ns h in
      elim (held cs n) as (λ o. filter (λ (e : Cell × P). q e.0.index) (map entry_of (with_entry o n (cell_in ls i n) left)) ≡ map entry_of (with_entry o n (cell_in ls i n) left)) [
        | None ↦ rest
        | Some x ↦
            ap (λ b. cond b ((cell_in ls i n, x) ∷ filter (λ (e : Cell × P). q e.0.index) (map entry_of left)) (filter (λ (e : Cell × P). q e.0.index) (map entry_of left))) h
            ∙ ap (λ es. (cell_in ls i n, x) ∷ es) rest
      ]

  row_fails : (q : ℤ → Bool) (i : ℤ) (cs : List (Option P)) (order : List ℕ) → q i ≡ false → filter (λ (e : Cell × P). q e.0.index) (map entry_of (row_left ls i cs order)) ≡ []
  row_fails q i cs [] h = refl
  row_fails q i cs (n ∷ ns) h =
      let left : List (CellWithPart P) = row_left ls i cs ns in
      let rest = row_fails q i cs ns h in
      elim (held cs n) as (λ o. filter (λ (e : Cell × P). q e.0.index) (map entry_of (with_entry o n (cell_in ls i n) left)) ≡ []) [
        | None ↦ rest
        | Some x ↦
            ap (λ b. cond b ((cell_in ls i n, x) ∷ filter (λ (e : Cell × P). q e.0.index) (map entry_of left)) (filter (λ (e : Cell × P). q e.0.index) (map entry_of left))) h ∙ rest
      ]

  walk_within : (q : ℤ → Bool) (order : List ℕ) (rows : List (RowOf P))
      → filter (λ (e : Cell × P). q e.0.index) (map entry_of (walk_left ls order rows order)) ≡ map entry_of (walk_left ls order (filter (λ (r : RowOf P). q r.0) rows) order)
  walk_within q order [] = refl
  walk_within q order (r ∷ rs) =
      let row : List (CellWithPart P) = row_left ls r.0 r.1 order in
      let left : List (CellWithPart P) = walk_left ls order rs order in
      let kept : List (RowOf P) = filter (λ (x : RowOf P). q x.0) rs in
      let rest = walk_within q order rs in
      ap (filter (λ (e : Cell × P). q e.0.index)) (map-append entry_of row left)
      ∙ filter-append (λ (e : Cell × P). q e.0.index) (map entry_of row) (map entry_of left)
      ∙ elim (q r.0) as (λ b. q r.0 ≡ b → filter (λ (e : Cell × P). q e.0.index) (map entry_of row) ++ filter (λ (e : Cell × P). q e.0.index) (map entry_of left) ≡ map entry_of (walk_left ls order (cond b (r ∷ kept) kept) order)) [
        | true ↦ λ e. ap₂ (λ xs ys. xs ++ ys) (row_passes q r.0 r.1 order e) rest ∙ sym (map-append entry_of row (walk_left ls order kept order))
        | false ↦ λ e. ap₂ (λ xs ys. xs ++ ys) (row_fails q r.0 r.1 order e) rest
      ] refl

  -- ---- rollup series

  row_series : (i : ℤ) (cs : List (Option P)) (order : List ℕ) (ys : List (CellWithPart P)) → AreInside ls order → AllByRecursion (λ (k : CellWithPart P). IsAt ls k.series (rollup_series_of k.cell)) ys
      → AllByRecursion (λ (k : CellWithPart P). IsAt ls k.series (rollup_series_of k.cell)) (row_left ls i cs order ++ ys)
  row_series i cs [] ys a h = h
  row_series i cs (n ∷ ns) ys a h =
      let rest = row_series i cs ns ys a.1 h in
      elim (held cs n) as (λ o. AllByRecursion (λ (k : CellWithPart P). IsAt ls k.series (rollup_series_of k.cell)) (with_entry o n (cell_in ls i n) (row_left ls i cs ns) ++ ys)) [
        | None ↦ rest
        | Some x ↦ (slice_get-get_or ls n no_rollup_series a.0, rest)
      ]

  pub walk_series : (order : List ℕ) (rows : List (RowOf P)) → AreInside ls order → AllByRecursion (λ (k : CellWithPart P). IsAt ls k.series (rollup_series_of k.cell)) (walk_left ls order rows order)
  walk_series order [] a = tt
  walk_series order (r ∷ rs) a = row_series r.0 r.1 order (walk_left ls order rs order) a (walk_series order rs a)

module _ {P : Type 0} (ls : List RollupSeries) (order : List ℕ) (rows : List (RowOf P)) (d : AllDistinct ls) (t : RowsRise rows) (is : IsOrdered ls order) where
  walk_map : from_entries {R = cell_cmp} (entries_of ls rows) ≡ from_entries {R = cell_cmp} (map entry_of (walk_left ls order rows order))
  walk_map =
      let es : List (Cell × P) = map entry_of (walk_left ls order rows order) in
      same_grid ls rows (from_entries {R = cell_cmp} es) d t
      (λ i j h. get-from_entries cells_total es (cell_in ls i j) ∙ walk_find ls (cell_in ls i j) order rows is.rising t ∙ ap (λ o. then_held o (cells_of_bucket rows i)) (is.all j h))
      (λ k n. get-from_entries cells_total es k ∙ walk_find ls k order rows is.rising t ∙ ap (λ o. then_held o (cells_of_bucket rows k.index)) (absent_rollup_series ls (rollup_series_of k) order is.inside n))

  walk_whole : finmap.entries (from_entries {R = cell_cmp} (entries_of ls rows)) ≡ map entry_of (walk_left ls order rows order)
  walk_whole =
      let es : List (Cell × P) = map entry_of (walk_left ls order rows order) in
      ap finmap.entries walk_map
      ∙ same_entries cell_cmp cells_total exact_cells (finmap.entries (from_entries {R = cell_cmp} es)) es (entries_sorted (from_entries {R = cell_cmp} es)) (walk_sorted ls order rows is.rising t)
      (λ k. sym (get-entries (from_entries {R = cell_cmp} es) k) ∙ get-from_entries cells_total es k)

  -- the walk over the rows of a range
  pub walk_entries : (from to : ℤ) → map entry_of (walk_left ls order (filter (λ (r : RowOf P). is_within from to r.0) rows) order) ≡ entries_within from to (from_entries {R = cell_cmp} (entries_of ls rows))
  walk_entries from to = sym (ap (filter (λ (e : Cell × P). is_within from to e.0.index)) walk_whole ∙ walk_within ls (is_within from to) order rows)

-- ---- steps of a walk

module _ {P : Type 0} (ls : List RollupSeries) (i : ℤ) (cs : List (Option P)) where
  -- a rollup series without a cell
  pub skip_one : (order : List ℕ) (at : ℕ) → at < length order → held cs (get_or order at 0) ≡ None → row_left ls i cs (drop (suc at) order) ≡ row_left ls i cs (drop at order)
  skip_one [] at h e = absurd (omega arith)
  skip_one (n ∷ ns) zero h e = sym (ap (λ (o : Option P). with_entry o n (cell_in ls i n) (row_left ls i cs ns)) e)
  skip_one (n ∷ ns) (suc at) h e = skip_one ns at (omega arith) e

  skip_many : (order : List ℕ) (at k : ℕ) → at + k ≤ length order → ((p : ℕ) → at ≤ p → p < at + k → held cs (get_or order p 0) ≡ None) → row_left ls i cs (drop (at + k) order) ≡ row_left ls i cs (drop at order)
  skip_many order at zero h f = ap (λ n. row_left ls i cs (drop n order)) (omega arith)
  skip_many order at (suc k) h f =
      ap (λ n. row_left ls i cs (drop n order)) (let e : at + suc k ≡ suc (at + k) = omega arith in e)
      ∙ skip_one order (at + k) (omega arith) (f (at + k) (omega arith) (omega arith)) ∙ skip_many order at k (omega arith) (λ p a b. f p a (omega arith))

  -- several without cells
  pub skip_to : (order : List ℕ) (at to : ℕ) → at ≤ to → to ≤ length order → ((p : ℕ) → at ≤ p → p < to → held cs (get_or order p 0) ≡ None) → row_left ls i cs (drop to order) ≡ row_left ls i cs (drop at order)
  skip_to order at to l h f =
      let e : at + (to - at) ≡ to = omega arith in
      ap (λ n. row_left ls i cs (drop n order)) (sym e) ∙ skip_many order at (to - at) (omega arith) (λ p a b. f p a (omega arith))

  -- none from the end on
  pub past_end : (order : List ℕ) (at : ℕ) → length order ≤ at → row_left ls i cs (drop at order) ≡ []
  past_end [] zero h = refl
  past_end [] (suc at) h = refl
  past_end (n ∷ ns) zero h = absurd (omega arith)
  past_end (n ∷ ns) (suc at) h = past_end ns at (omega arith)
