-- The number of cells with frozen facts, after each change of the finite map of cells.
use Rattle.std.proofs.Common.{◌≡◌, ℕ, ℤ, suc, ◌+◌, ◌-◌, ◌*◌, ◌^◌, ◌<◌, ◌≤◌, Bool, true, false, cond, not, ◌&&◌, T, List, [], ◌∷◌, length, length-append, refl, sym, ◌∙◌, ap, Option, Some, None, option_map, filter, is_eq, arith, Less, Equal, Greater, mul-le-mul, suc-mul}
use Rattle.std.specs.FinMap as finmap
use Rattle.std.specs.FinMap.{FinMap, find, put, is_sorted, get, insert, remove, empty, from_entries, len, contains_key, get-entries, len-entries, len-empty, len-insert, get-insert, get-remove, entries-insert, same_map}
use Rattle.std.specs.FinMap.Entries.{below_all, by_order}
use Rattle.ts_core.specs.store.Cells.{Cell, cell_cmp, same_cell}
use Rattle.ts_core.specs.store.TwoParts.{PartsOf}
use Rattle.ts_core.specs.lists.Changes.{changed, with_change}
use Rattle.ts_core.proofs.lists.Places.{both_of, less_of}
use Rattle.ts_core.proofs.lists.ListSteps.{length-filter}
use Rattle.ts_core.proofs.plans.PieceCells.{cells_total, exact_cells, same_cell-eq, same_cell-refl}
use Rattle.ts_cells.specs.Grids.{RollupSeries, RowOf, row_entries, entries_of, grid_of}
use Rattle.ts_cells.specs.CellChanges.{inserted_if_absent, inserted_unless}
use Rattle.ts_cells.specs.FrozenCounts.{has_frozen_facts, frozen_one, frozen_at, frozen_cell_count}

-- ---- lists

-- the elements with p, and those without it
pub count_split : {X : Type 0} (p q : X → Bool) (es : List X) → length (filter (λ (e : X). p e && q e) es) + length (filter (λ (e : X). not (p e) && q e) es) ≡ length (filter q es)
count_split p q [] = refl
count_split {X} p q (e ∷ es) =
    let with_p : List X = filter (λ (e : X). p e && q e) es in
    let without_p : List X = filter (λ (e : X). not (p e) && q e) es in
    let h : length with_p + length without_p ≡ length (filter q es) = count_split p q es in
    elim (p e) as (λ a. length (cond (a && q e) (e ∷ with_p) with_p) + length (cond (not a && q e) (e ∷ without_p) without_p) ≡ length (cond (q e) (e ∷ filter q es) (filter q es))) [
      | true ↦ elim (q e) as (λ b. length (cond b (e ∷ with_p) with_p) + length without_p ≡ length (cond b (e ∷ filter q es) (filter q es))) [ true ↦ omega arith | false ↦ h ]
      | false ↦ elim (q e) as (λ b. length with_p + length (cond b (e ∷ without_p) without_p) ≡ length (cond b (e ∷ filter q es) (filter q es))) [ true ↦ omega arith | false ↦ h ]
    ]

added_one : (b : Bool) (n m : ℕ) → n ≤ m → cond b n (n + 1) ≤ suc m
added_one true n m h = omega arith
added_one false n m h = omega arith

module _ {P : Type 0} where
  row_length : (i : ℤ) (ls : List RollupSeries) (cs : List (Option P)) → length (row_entries i ls cs) ≤ length ls
  row_length i [] cs = omega arith
  row_length i (l ∷ ls) [] = omega arith
  row_length i (l ∷ ls) (None ∷ cs) = let h = row_length i ls cs in omega arith
  row_length i (l ∷ ls) (Some p ∷ cs) = let h = row_length i ls cs in omega arith

  entries_length : (ls : List RollupSeries) (rows : List (RowOf P)) → length (entries_of ls rows) ≤ length rows * length ls
  entries_length ls [] = omega arith
  entries_length ls (r ∷ rs) = omega (arith, length-append (row_entries r.0 ls r.1) (entries_of ls rs), row_length r.0 ls r.1, entries_length ls rs, suc-mul (length rs) (length ls))

  map_length : (es : List (Cell × P)) → len (from_entries {R = cell_cmp} es) ≤ length es
  map_length [] = let h = len-empty cell_cmp P in omega arith
  map_length (e ∷ es) =
      let m : FinMap cell_cmp P = from_entries es in
      let h = len-insert cells_total m e.0 e.1 in
      let k = added_one (contains_key m e.0) (len m) (length es) (map_length es) in
      omega arith

module _ {P : Type 0} (size : P → ℕ) where
  abbrev count : List (Cell × PartsOf P) → ℕ
  count es = length (filter (λ (e : Cell × PartsOf P). has_frozen_facts size e.1) es)

  count_first : (e : Cell × PartsOf P) (es : List (Cell × PartsOf P)) → count (e ∷ es) ≡ frozen_one size e.1 + count es
  count_first e es =
      let rest : List (Cell × PartsOf P) = filter (λ (e : Cell × PartsOf P). has_frozen_facts size e.1) es in
      elim (has_frozen_facts size e.1) as (λ b. length (cond b (e ∷ rest) rest) ≡ cond b 1 0 + length rest) [ true ↦ omega arith | false ↦ omega arith ]

  -- a cell below all others is not found
  find_before : (k x : Cell) (es : List (Cell × PartsOf P)) → T (below_all cell_cmp x es) → cell_cmp k x ≡ Less → find cell_cmp k es ≡ None
  find_before k x [] b l = refl
  find_before k x (e ∷ es) b l =
      let h = both_of _ _ b in
      ap (λ r. cond (is_eq r) (Some e.1) (find cell_cmp k es)) (cells_total.trans k x e.0 l (less_of _ h.0)) ∙ find_before k x es h.1 l

  -- the new parts count, and the old ones no longer
  count_put : (k : Cell) (v : PartsOf P) (es : List (Cell × PartsOf P)) → T (is_sorted cell_cmp es) → count (put cell_cmp k v es) + frozen_at size (find cell_cmp k es) ≡ count es + frozen_one size v
  count_put k v [] s = let h = count_first (k, v) [] in omega arith
  count_put k v (e ∷ es) s =
      let parts : T (below_all cell_cmp e.0 es) × T (is_sorted cell_cmp es) = both_of _ _ s in
      let here = count_first e es in
      elim (cell_cmp k e.0) as (λ r. cell_cmp k e.0 ≡ r → count (by_order r ((k, v) ∷ e ∷ es) ((e.0, v) ∷ es) (e ∷ put cell_cmp k v es)) + frozen_at size (cond (is_eq r) (Some e.1) (find cell_cmp k es)) ≡ count (e ∷ es) + frozen_one size v) [
        | Less ↦ λ q. let none = ap (frozen_at size) (find_before k e.0 es parts.0 q) in let new = count_first (k, v) (e ∷ es) in omega arith
        | Equal ↦ λ q. let new = count_first (e.0, v) es in omega arith
        | Greater ↦ λ q. let rest = count_put k v es parts.1 in let new = count_first e (put cell_cmp k v es) in omega arith
      ] refl

  -- ---- maps

  -- a cell that was removed and put back
  back_at : (m : FinMap cell_cmp (PartsOf P)) (k : Cell) (x : PartsOf P) → get m k ≡ Some x → (q : Cell) → cond (same_cell q k) (Some x) (cond (same_cell q k) None (get m q)) ≡ get m q
  back_at m k x e q =
      elim (same_cell q k) as (λ b. same_cell q k ≡ b → cond b (Some x) (cond b None (get m q)) ≡ get m q) [
        | true ↦ λ h. sym (ap (get m) (same_cell-eq q k h) ∙ e)
        | false ↦ λ h. refl
      ] refl

  insert_count : (m : FinMap cell_cmp (PartsOf P)) (k : Cell) (v : PartsOf P) (o : Option (PartsOf P)) → get m k ≡ o → frozen_cell_count size (insert m k v) + frozen_at size o ≡ frozen_cell_count size m + frozen_one size v
  insert_count m k v o e =
      let new = ap count (entries-insert cells_total m k v) in
      let old = ap (frozen_at size) (sym (get-entries m k) ∙ e) in
      let h = count_put k v (finmap.entries m) (finmap.entries_sorted m) in
      omega arith

  -- at most one cell of each row and rollup series has frozen facts
  pub frozen_bound : (ls : List RollupSeries) (rows : List (RowOf (PartsOf P))) → frozen_cell_count size (grid_of ls rows).cells ≤ length rows * length ls
  frozen_bound ls rows =
      let m : FinMap cell_cmp (PartsOf P) = from_entries (entries_of ls rows) in
      let a : count (finmap.entries m) ≤ length (finmap.entries m) = length-filter _ (finmap.entries m) in
      let b = len-entries m in
      let c = map_length (entries_of ls rows) in
      let d = entries_length ls rows in
      omega arith

  -- a changed cell counts by its new parts
  pub frozen_changed : (m : FinMap cell_cmp (PartsOf P)) (k : Cell) (f : PartsOf P → PartsOf P) → frozen_cell_count size (changed m k f) + frozen_at size (get m k) ≡ frozen_cell_count size m + frozen_at size (option_map f (get m k))
  frozen_changed m k f =
      elim (get m k) as (λ o. get m k ≡ o → frozen_cell_count size (with_change m k f o) + frozen_at size o ≡ frozen_cell_count size m + frozen_at size (option_map f o)) [
        | None ↦ λ e. refl
        | Some x ↦ λ e. insert_count m k (f x) (Some x) e
      ] refl

  -- a new cell without frozen facts does not count
  pub frozen_created : (m : FinMap cell_cmp (PartsOf P)) (k : Cell) (x : PartsOf P) → has_frozen_facts size x ≡ false → frozen_cell_count size (inserted_if_absent m k x) ≡ frozen_cell_count size m
  frozen_created m k x none =
      elim (get m k) as (λ o. get m k ≡ o → frozen_cell_count size (inserted_unless m k x o) ≡ frozen_cell_count size m) [
        | None ↦ λ e. let h = insert_count m k x None e in let z : frozen_one size x ≡ 0 = ap (λ b. cond b 1 0) none in omega arith
        | Some y ↦ λ e. refl
      ] refl

  -- a removed cell no longer counts
  pub frozen_removed : (m : FinMap cell_cmp (PartsOf P)) (k : Cell) (x : PartsOf P) → get m k ≡ Some x → frozen_cell_count size (remove m k) + frozen_one size x ≡ frozen_cell_count size m
  frozen_removed m k x e =
      let left : FinMap cell_cmp (PartsOf P) = remove m k in
      let none : get left k ≡ None = get-remove cells_total m k k ∙ ap (λ b. cond b None (get m k)) (same_cell-refl k) in
      let back : insert left k x ≡ m = same_map cells_total exact_cells (insert left k x) m (λ q. get-insert cells_total left k x q ∙ ap (cond (same_cell q k) (Some x)) (get-remove cells_total m k q) ∙ back_at m k x e q) in
      let h = insert_count left k x None none in
      let same = ap (frozen_cell_count size) back in
      omega arith

  -- the empty map has no cells
  pub frozen_none : frozen_cell_count size (empty {X = PartsOf P} {R = cell_cmp}) ≡ 0
  frozen_none =
      let m : FinMap cell_cmp (PartsOf P) = empty in
      let a : count (finmap.entries m) ≤ length (finmap.entries m) = length-filter _ (finmap.entries m) in
      let b = len-entries m in
      let c = len-empty cell_cmp (PartsOf P) in
      omega arith

-- a number of at most a * b fits 128 bits, if a and b fit 64
pub frozen_fits : (n a b : ℕ) → n ≤ a * b → a < 2 ^ 64 → b < 2 ^ 64 → n < 2 ^ 128
frozen_fits n a b h x y =
    let k : a ≤ 2 ^ 64 - 1 = omega arith in
    let l : b ≤ 2 ^ 64 - 1 = omega arith in
    let p : a * b ≤ (2 ^ 64 - 1) * (2 ^ 64 - 1) = mul-le-mul k l in
    omega arith
