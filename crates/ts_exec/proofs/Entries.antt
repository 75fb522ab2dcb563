-- A table: its groups in order, each with its rows; and rows as an answer has them.
use Rattle.std.proofs.Common.{◌≡◌, ℕ, suc, ◌<◌, ℤ, pos, ◌+ℤ◌, ◌*ℤ◌, T, List, [], ◌∷◌, map, length, get_or, refl, sym, ◌∙◌, ap, ap₂, subst, Option, Some, None, is_some, true, false, cond, is_lt, ◌||◌, ◌&&◌, arith}
use Rattle.std.proofs.lemmas.Int.{ints}
use Rattle.std.specs.List.{list_any}
use Rattle.std.specs.FinMap.{find, is_sorted}
use Rattle.std.specs.FinMap.Entries.{below_all, same_entries}
use Rattle.ts_core.specs.facts.Facts.{Text}
use Rattle.ts_core.specs.aggregates.Aggregates.{Aggregate, empty_aggregate}
use Rattle.ts_core.specs.queries.Answers.{Row, group_cmp, same_group, numbers_from, all_groups}
use Rattle.ts_core.proofs.queries.GroupsInOrder.{groups_total, exact_groups, same_group-eq, all_groups-among, entries, AreInOrder, all_groups-in_order, any_among, among_any}
use Rattle.ts_core.proofs.lists.Comparisons.{same_bool}
use Rattle.ts_exec.specs.RowParts.{BucketGrid}
use Rattle.ts_exec.specs.GroupTables.{Table, IsGroupTable, rows_or, rows_for, rows_from}

all_sorted : (gs : List (List Text)) → T (is_sorted group_cmp (entries (all_groups gs)))
unfolding AreInOrder
all_sorted gs = all_groups-in_order gs

-- ---- the entries that some rows make of groups

module _ (rows : List Text → List Aggregate) where
  abbrev pub entries_with : List (List Text) → Table
  entries_with gs = map (λ g. (g, rows g)) gs

  below_with : (x : List Text) (gs : List (List Text)) → below_all group_cmp x (entries_with gs) ≡ below_all group_cmp x (entries gs)
  below_with x [] = refl
  below_with x (g ∷ gs) = ap (λ b. is_lt (group_cmp x g) && b) (below_with x gs)

  sorted_with : (gs : List (List Text)) → is_sorted group_cmp (entries_with gs) ≡ is_sorted group_cmp (entries gs)
  sorted_with [] = refl
  sorted_with (g ∷ gs) = ap₂ (λ b c. b && c) (below_with g gs) (sorted_with gs)

  find_with : (q : List Text) (gs : List (List Text)) → find group_cmp q (entries_with gs) ≡ cond (list_any (same_group q) gs) (Some (rows q)) None
  find_with q [] = refl
  find_with q (g ∷ gs) =
      elim (same_group q g) as (λ b. same_group q g ≡ b → cond b (Some (rows g)) (find group_cmp q (entries_with gs)) ≡ cond (b || list_any (same_group q) gs) (Some (rows q)) None) [
        | true ↦ λ e. ap (λ k. Some (rows k)) (sym (same_group-eq q g e))
        | false ↦ λ e. find_with q gs
      ] refl

same_any : (g : List Text) (gs : List (List Text)) → list_any (same_group g) (all_groups gs) ≡ list_any (same_group g) gs
same_any g gs =
    same_bool (list_any (same_group g) (all_groups gs)) (list_any (same_group g) gs)
    (λ t. among_any g gs ((all_groups-among g gs).0 (any_among g (all_groups gs) t)))
    (λ t. among_any g (all_groups gs) ((all_groups-among g gs).1 (any_among g gs t)))

pub shown_some : (n : ℕ) (o : Option (List Aggregate)) → o ≡ cond (is_some o) (Some (rows_or n o)) None
shown_some n (Some rows) = refl
shown_some n None = refl

-- a table whose groups are those
pub table-entries : (n : ℕ) (t : Table) (gs : List (List Text)) → IsGroupTable t → ((g : List Text) → is_some (find group_cmp g t) ≡ list_any (same_group g) gs)
    → t ≡ map (λ g. (g, rows_for n g t)) (all_groups gs)
table-entries n t gs h there =
    same_entries group_cmp groups_total exact_groups t (entries_with (λ g. rows_for n g t) (all_groups gs)) h
    (subst T (sym (sorted_with (λ g. rows_for n g t) (all_groups gs))) (all_sorted gs))
    (λ q.
    shown_some n (find group_cmp q t)
    ∙ ap (λ b. cond b (Some (rows_for n q t)) None) (there q ∙ sym (same_any q gs))
    ∙ sym (find_with (λ g. rows_for n g t) q (all_groups gs)))

-- ---- rows

pub rows-numbered : (grid : BucketGrid) (row : ℤ → Row) (k : ℤ) (rows : List Aggregate)
    → ((j : ℕ) → j < length rows → row (k +ℤ pos j) ≡ record { start = ((k +ℤ pos j) *ℤ grid.interval) +ℤ grid.offset; aggregate = get_or rows j empty_aggregate })
    → rows_from grid k rows ≡ map row (numbers_from k (length rows))
rows-numbered grid row k [] h = refl
rows-numbered grid row k (a ∷ rows) h =
    let first : k +ℤ pos 0 ≡ k = omega (arith, ints) in
    let now : row k ≡ record { start = (k *ℤ grid.interval) +ℤ grid.offset; aggregate = a } =
    subst (λ z. row z ≡ record { start = (z *ℤ grid.interval) +ℤ grid.offset; aggregate = a }) first (h 0 (omega arith)) in
    let later : (j : ℕ) → j < length rows → row ((k +ℤ pos 1) +ℤ pos j) ≡ record { start = (((k +ℤ pos 1) +ℤ pos j) *ℤ grid.interval) +ℤ grid.offset; aggregate = get_or rows j empty_aggregate } = λ j l.
    let e : k +ℤ pos (suc j) ≡ (k +ℤ pos 1) +ℤ pos j = omega (arith, ints) in
    subst (λ z. row z ≡ record { start = (z *ℤ grid.interval) +ℤ grid.offset; aggregate = get_or rows j empty_aggregate }) e (h (suc j) (omega arith)) in
    ap₂ (λ x xs. x ∷ xs) (sym now) (rows-numbered grid row (k +ℤ pos 1) rows later)
