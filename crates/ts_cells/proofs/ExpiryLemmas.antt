-- One cell fewer.
use Rattle.std.proofs.Common.{◌≡◌, ◌≢◌, ℕ, ℤ, zero, suc, ◌<◌, ◌≤◌, ◌<ℤ◌, ◌≤ℤ◌, Bool, true, false, cond, T, List, [], ◌∷◌, length, get_or, set, drop, length-set, ◌+◌, refl, sym, ◌∙◌, ap, ap₂, subst, Option, Some, None, ⊎_elim, arith, Less, Equal, ◌==◌, ◌&&◌, int_lt}
use Rattle.std.proofs.lemmas.Int.{ints}
use Rattle.std.specs.Ordering.{int_cmp, eq_by_cmp}
use Rattle.std.specs.List.{AllByRecursion}
use Rattle.std.specs.FinMap as finmap
use Rattle.std.specs.FinMap.{FinMap, find, from_entries, get-remove}
use Rattle.std.specs.FinMap.Entries.{below_all}
use Rattle.std.proofs.lemmas.Map.Lookups.{exact_signed}
use Rattle.std.proofs.lemmas.List.{get_or-set_other, set-get_or}
use Rattle.std.proofs.lemmas.Cmp.{tied_itself}
use Rattle.std.proofs.lemmas.Option.{none-some}
use Rattle.std.specs.Cmp.{int_cmp_total}
use Rattle.std.proofs.lemmas.Grind.{get_or-set_at}
use Rattle.std.proofs.Math.Nat.{eq-or-lt_of_le}
use Rattle.ts_core.specs.lists.Members.{AllDistinct}
use Rattle.ts_core.specs.store.Cells.{Cell, cell_cmp}
use Rattle.ts_core.specs.store.TwoParts.{PartsOf}
use Rattle.ts_core.proofs.facts.Ids.{equal_of}
use Rattle.ts_core.proofs.plans.PieceCells.{cells_total}
use Rattle.ts_core.proofs.lists.Comparisons.{lt_not}
use Rattle.ts_core.proofs.lists.Places.{both_of, less_of}
use Rattle.ts_core.specs.lists.Changes.{or_else}
use Rattle.std.specs.Bool.{OnTrue, OnFalse}
use Rattle.ts_cells.specs.Grids.{RollupSeries, rollup_series_of, cell_at, RowOf, held, cell_in, entries_of, RowsRise, cells_of_bucket, HasLost}
use Rattle.ts_cells.specs.Expiry.{HasEmptyFront, LosesOne, RemovesOne, IsAbove}
use Rattle.ts_cells.specs.FrozenCounts.{frozen_one, frozen_cell_count}
use Rattle.ts_cells.specs.RowChanges.{NoWider}
use Rattle.ts_cells.proofs.Searches.{find_below}
use Rattle.ts_cells.proofs.FrozenLemmas.{frozen_removed}
use Rattle.ts_cells.proofs.GridLemmas.{get_at, get_none, same_grid, has_rollup_series}
use Rattle.ts_cells.proofs.GridMoves.{RowPut, same_in, false_none, row_set, cells_here, all_at, all_set}

int_less : (x y : ℤ) → int_cmp x y ≡ Less → x <ℤ y
int_less x y h = grind (arith, ints)

module _ {P : Type 0} where
  found_above : (x : ℤ) (rs : List (RowOf P)) (i : ℤ) (j : ℕ) → T (below_all int_cmp x rs) → held (or_else [] (find int_cmp i rs)) j ≢ None → x <ℤ i
  found_above x [] i j b n = absurd (n refl)
  found_above x (r ∷ rs) i j b n =
      let p = both_of _ _ b in
      elim (eq_by_cmp int_cmp i r.0) as (λ e. eq_by_cmp int_cmp i r.0 ≡ e → held (or_else [] (cond e (Some r.1) (find int_cmp i rs))) j ≢ None → x <ℤ i) [
        | true ↦ λ e k. subst (λ z. x <ℤ z) (sym (exact_signed i r.0 (equal_of (int_cmp i r.0) e))) (int_less x r.0 (less_of _ p.0))
        | false ↦ λ e k. found_above x rs i j p.1 k
      ] refl n

  above : (low : ℤ) (r : RowOf P) (rs : List (RowOf P)) → T (below_all int_cmp r.0 rs) → int_lt r.0 low ≡ false → (i : ℤ) (j : ℕ) → held (cells_of_bucket (r ∷ rs) i) j ≢ None → low ≤ℤ i
  above low r rs b e i j n =
      let least : low ≤ℤ r.0 = lt_not r.0 low e in
      elim (eq_by_cmp int_cmp i r.0) as (λ q. eq_by_cmp int_cmp i r.0 ≡ q → held (or_else [] (cond q (Some r.1) (find int_cmp i rs))) j ≢ None → low ≤ℤ i) [
        | true ↦ λ q k. subst (λ z. low ≤ℤ z) (sym (exact_signed i r.0 (equal_of (int_cmp i r.0) q))) least
        | false ↦ λ q k. let m = found_above r.0 rs i j b k in omega (arith, ints)
      ] refl n

  -- a first row without cells may go
  cells_rest : (r : RowOf P) (rs : List (RowOf P)) → RowsRise (r ∷ rs) → ((j : ℕ) → held r.1 j ≡ None) → (i : ℤ) (j : ℕ) → held (cells_of_bucket rs i) j ≡ held (cells_of_bucket (r ∷ rs) i) j
  cells_rest r rs s none i j =
      elim (eq_by_cmp int_cmp i r.0) as (λ b. eq_by_cmp int_cmp i r.0 ≡ b → held (or_else [] (find int_cmp i rs)) j ≡ held (or_else [] (cond b (Some r.1) (find int_cmp i rs))) j) [
        | true ↦ λ e.
            let same : i ≡ r.0 = exact_signed i r.0 (equal_of (int_cmp i r.0) e) in
            ap (λ o. held (or_else [] o) j) (find_below int_cmp i rs (subst (λ x. T (below_all int_cmp x rs)) (sym same) (both_of _ _ s).0)) ∙ sym (none j)
        | false ↦ λ e. refl
      ] refl

  pub rising_drop : (n : ℕ) (rows : List (RowOf P)) → RowsRise rows → RowsRise (drop n rows)
  rising_drop zero rows s = s
  rising_drop (suc n) [] s = s
  rising_drop (suc n) (r ∷ rs) s = rising_drop n rs (both_of _ _ s).1

  pub all_drop : (Q : RowOf P → Type 0) (n : ℕ) (rows : List (RowOf P)) → AllByRecursion Q rows → AllByRecursion Q (drop n rows)
  all_drop Q zero rows a = a
  all_drop Q (suc n) [] a = tt
  all_drop Q (suc n) (r ∷ rs) a = all_drop Q n rs a.1

  -- nor does any number of them
  pub cells_drop : (n : ℕ) (rows : List (RowOf P)) → RowsRise rows → HasEmptyFront n rows → (i : ℤ) (j : ℕ) → held (cells_of_bucket (drop n rows) i) j ≡ held (cells_of_bucket rows i) j
  cells_drop zero rows s f i j = refl
  cells_drop (suc n) [] s f i j = refl
  cells_drop (suc n) (r ∷ rs) s f i j =
      let l = f.bound in
      let rest : HasEmptyFront n rs = record { bound = omega arith; empty = λ k d a b. f.empty (suc k) d (omega arith) (omega arith) } in
      cells_drop n rs (both_of _ _ s).1 rest i j ∙ cells_rest r rs s (f.empty 0 r (omega arith) (omega arith)) i j

  pub no_front : (rows : List (RowOf P)) → HasEmptyFront 0 rows
  no_front rows = record { bound = omega arith; empty = λ k d a b. absurd (omega arith) }

  -- the row after the empty ones changes
  pub front_stays : (n : ℕ) (rows : List (RowOf P)) (r : RowOf P) → HasEmptyFront n rows → HasEmptyFront n (set rows n r)
  front_stays n rows r f = record {
    bound = let l = f.bound in omega (arith, length-set rows n r);
    empty = λ k d a b j. ap (λ (x : RowOf P). held x.1 j) (get_or-set_other rows n k r d (λ e. absurd (omega arith))) ∙ f.empty k d a b j;
  }

  -- and is empty too
  pub front_grows : (n : ℕ) (rows : List (RowOf P)) (r : RowOf P) → HasEmptyFront n rows → n < length rows → ((j : ℕ) → held r.1 j ≡ None) → HasEmptyFront (n + 1) (set rows n r)
  front_grows n rows r f h none = record {
    bound = omega (arith, length-set rows n r);
    empty = λ k d a b j.
        ⊎_elim {C = held (get_or (set rows n r) k d).1 j ≡ None}
        (λ (e : k ≡ n). ap (λ (x : RowOf P). held x.1 j) (get_or-set_at rows n k r d e h) ∙ none j)
        (λ (l : k < n). (front_stays n rows r f).empty k d a l j)
        (eq-or-lt_of_le (let m : k ≤ n = omega arith in m));
  }

  first_of : (n : ℕ) (rows : List (RowOf P)) (d : RowOf P) → n < length rows → (0 < length (drop n rows)) × (get_or (drop n rows) 0 d ≡ get_or rows n d)
  first_of n [] d h = absurd (omega arith)
  first_of zero (r ∷ rs) d h = (h, refl)
  first_of (suc n) (r ∷ rs) d h = first_of n rs d (omega arith)

  least_of_rows : (low : ℤ) (rows : List (RowOf P)) (d : RowOf P) → 0 < length rows → RowsRise rows → int_lt (get_or rows 0 d).0 low ≡ false → (i : ℤ) (j : ℕ) → held (cells_of_bucket rows i) j ≢ None → low ≤ℤ i
  least_of_rows low [] d h s e i j n = absurd (omega arith)
  least_of_rows low (r ∷ rs) d h s e i j n = above low r rs (both_of _ _ s).0 e i j n

  -- all cells are above the index where the row after the empty ones isn't below it
  pub all_above : (low : ℤ) (n : ℕ) (rows : List (RowOf P)) (d : RowOf P) → HasEmptyFront n rows → n < length rows → RowsRise rows → int_lt (get_or rows n d).0 low ≡ false → (i : ℤ) (j : ℕ) → held (cells_of_bucket rows i) j ≢ None → low ≤ℤ i
  all_above low n rows d f h s e i j some =
      let first = first_of n rows d h in
      least_of_rows low (drop n rows) d first.0 (rising_drop n rows s) (ap (λ (r : RowOf P). int_lt r.0 low) first.1 ∙ e) i j (λ none. some (sym (cells_drop n rows s f i j) ∙ none))

  gone : (n : ℕ) (rows : List (RowOf P)) → length rows ≤ n → drop n rows ≡ []
  gone zero [] h = refl
  gone zero (r ∷ rs) h = absurd (omega arith)
  gone (suc n) [] h = refl
  gone (suc n) (r ∷ rs) h = gone n rs (omega arith)

  -- and where all rows are empty
  pub none_left : (low : ℤ) (n : ℕ) (rows : List (RowOf P)) → HasEmptyFront n rows → length rows ≤ n → RowsRise rows → (i : ℤ) (j : ℕ) → held (cells_of_bucket rows i) j ≢ None → low ≤ℤ i
  none_left low n rows f h s i j some = absurd (some (sym (cells_drop n rows s f i j) ∙ ap (λ (rs : List (RowOf P)). held (cells_of_bucket rs i) j) (gone n rows h)))

-- a row that is looked at, and left as it is
pub unchanged : {X : Type 0} (xs : List X) (n : ℕ) (x : X) → x ≡ get_or xs n x → set xs n x ≡ xs
unchanged xs n x e = ap (set xs n) e ∙ set-get_or xs n x

-- a row instead of one of the same bucket
module _ {P : Type 0} (rows : List (RowOf P)) (n : ℕ) (d r : RowOf P) (s : RowsRise rows) (h : n < length rows) (e : d ≡ get_or rows n d) where
  its_tie : int_cmp (get_or rows n d).0 d.0 ≡ Equal
  its_tie = ap (λ (x : RowOf P). int_cmp x.0 d.0) (sym e) ∙ tied_itself int_cmp_total d.0

  pub put_here : r.0 ≡ d.0 → RowPut rows (set rows n r) d.0 r.1
  put_here same = row_set rows d.0 n r d s h its_tie (same ∙ ap (λ (x : RowOf P). x.0) e)

  pub was_here : d.1 ≡ cells_of_bucket rows d.0
  was_here = ap (λ (x : RowOf P). x.1) e ∙ cells_here rows d.0 n d s h its_tie

  pub no_wider : length r.1 ≤ length d.1 → NoWider rows (set rows n r)
  no_wider l m a =
      let Narrow : RowOf P → Type 0 = λ x. length x.1 ≤ m in
      let before : length d.1 ≤ m = subst Narrow (sym e) (all_at Narrow rows n d h a) in
      all_set Narrow rows n r a (omega (arith, l, before))

-- a row that lost a cell
pub loses : {P : Type 0} (low : ℤ) (part : P) (rows before after : List (RowOf P)) (i : ℤ) (cs : List (Option P)) → ((p : ℤ) (q : ℕ) → held (cells_of_bucket before p) q ≡ held (cells_of_bucket rows p) q) → i <ℤ low → RowPut before after i cs → HasLost part (cells_of_bucket before i) cs → LosesOne low part rows after
loses low part rows before after i cs same b moved l = record {
  index = i;
  series = l.series;
  below = b;
  was = sym (same i l.series) ∙ l.was;
  cells = λ p q.
      ap (λ xs. held xs q) (moved.cells p)
      ∙ elim (eq_by_cmp int_cmp p i) as (λ x. eq_by_cmp int_cmp p i ≡ x → held (cond x cs (cells_of_bucket before p)) q ≡ cond (x && (q == l.series)) None (held (cells_of_bucket rows p) q)) [
        | true ↦ λ e. let h : p ≡ i = exact_signed p i (equal_of (int_cmp p i) e) in l.cells q ∙ ap (λ z. cond (q == l.series) None z) (ap (λ z. held (cells_of_bucket before z) q) (sym h) ∙ same p q)
        | false ↦ λ e. same p q
      ] refl;
}

is_held : {P : Type 0} {o : Option P} (part : P) → o ≡ Some part → o ≢ None
is_held part e none = none-some part (sym none ∙ e)

-- so the map lost that cell
pub removes : {P : Type 0} (low : ℤ) (ls : List RollupSeries) (rows after : List (RowOf P)) (part : P) → AllDistinct ls → RowsRise rows → RowsRise after → ((i : ℤ) (j : ℕ) → held (cells_of_bucket rows i) j ≢ None → j < length ls) → LosesOne low part rows after
    → RemovesOne low (from_entries {R = cell_cmp} (entries_of ls rows)) (from_entries {R = cell_cmp} (entries_of ls after))
removes low ls rows after part d s t inside l =
    let k : Cell = cell_in ls l.index l.series in
    let within : l.series < length ls = inside l.index l.series (is_held part l.was) in (
      k,
      l.below,
      is_held part (get_at ls rows l.index l.series d s within ∙ l.was),
      same_grid ls after (finmap.remove (from_entries {R = cell_cmp} (entries_of ls rows)) k) d t
          (λ i j h. get-remove cells_total (from_entries (entries_of ls rows)) k (cell_in ls i j) ∙ ap₂ (λ b o. cond b None o) (same_in ls i l.index j l.series d h within) (get_at ls rows i j d s h) ∙ sym (l.cells i j))
          (λ q n. get-remove cells_total (from_entries (entries_of ls rows)) k q ∙ ap₂ (λ b o. cond b None o) (false_none ls l.index l.series q within n) (get_none q ls rows n)),
    )

-- and counts it no longer
pub removes_frozen : {P : Type 0} (size : P → ℕ) (low : ℤ) (ls : List RollupSeries) (rows after : List (RowOf (PartsOf P))) (part : PartsOf P) → AllDistinct ls → RowsRise rows → RowsRise after → ((i : ℤ) (j : ℕ) → held (cells_of_bucket rows i) j ≢ None → j < length ls) → LosesOne low part rows after
    → frozen_cell_count size (from_entries {R = cell_cmp} (entries_of ls after)) + frozen_one size part ≡ frozen_cell_count size (from_entries {R = cell_cmp} (entries_of ls rows))
unfolding removes
removes_frozen size low ls rows after part d s t inside l =
    let m : FinMap cell_cmp (PartsOf _) = from_entries {R = cell_cmp} (entries_of ls rows) in
    let is = removes low ls rows after part d s t inside l in
    ap (λ (n : FinMap cell_cmp (PartsOf _)). frozen_cell_count size n + frozen_one size part) is.3
    ∙ frozen_removed size m is.0 part (get_at ls rows l.index l.series d s (inside l.index l.series (is_held part l.was)) ∙ l.was)

held_within : {P : Type 0} (cs : List (Option P)) (j : ℕ) → held cs j ≢ None → j < length cs
held_within [] j h = absurd (h refl)
held_within (c ∷ cs) zero h = omega arith
held_within (c ∷ cs) (suc j) h = let w = held_within cs j h in omega arith

pub inside_of : {P : Type 0} (n : ℕ) (rows : List (RowOf P)) → AllByRecursion (λ (r : RowOf P). length r.1 ≤ n) rows → (i : ℤ) (j : ℕ) → held (cells_of_bucket rows i) j ≢ None → j < n
inside_of n [] a i j h = absurd (h refl)
inside_of n (r ∷ rs) a i j h =
    elim (eq_by_cmp int_cmp i r.0) as (λ b. held (or_else [] (cond b (Some r.1) (find int_cmp i rs))) j ≢ None → j < n) [
      | true ↦ λ k. let w : j < length r.1 = held_within r.1 j k in let m = a.0 in omega arith
      | false ↦ λ k. inside_of n rs a.1 i j k
    ] h

pub on_true : {A B : Type 0} (b : Bool) → (A → B) → OnTrue b A → OnTrue b B
on_true true f a = f a
on_true false f a = tt

pub on_false : {A B : Type 0} (b : Bool) → (A → B) → OnFalse b A → OnFalse b B
on_false true f a = tt
on_false false f a = f a

pub above_all : {P : Type 0} (low : ℤ) (ls : List RollupSeries) (rows : List (RowOf P)) → AllDistinct ls → RowsRise rows → ((i : ℤ) (j : ℕ) → held (cells_of_bucket rows i) j ≢ None → low ≤ℤ i) → IsAbove low (from_entries {R = cell_cmp} (entries_of ls rows))
above_all low ls rows d s h k n =
    ⊎_elim {C = low ≤ℤ k.index}
    (λ p. h k.index p.0 (λ e. n (ap (λ (l : RollupSeries). finmap.get (from_entries {R = cell_cmp} (entries_of ls rows)) (cell_at k.index l)) (sym p.2) ∙ get_at ls rows k.index p.0 d s p.1 ∙ e)))
    (λ q. absurd (n (get_none k ls rows q))) (has_rollup_series (rollup_series_of k) ls)
