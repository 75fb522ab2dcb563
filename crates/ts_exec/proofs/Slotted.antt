-- Slots of groups in order: the result of a search, an edit at that slot, and the slots that have data.
use Rattle.std.proofs.Common.{◌≡◌, ℕ, ◌<◌, ◌≤◌, T, List, [], ◌∷◌, length, get_or, set, insert, refl, sym, ◌∙◌, ap, subst, Option, Some, None, ◌-◌, Result, Ok, Err, Ordering, Less, Equal, Greater, Bool, true, false, cond, is_eq, is_lt, ◌&&◌, zero, suc, arith}
use Rattle.std.specs.Ordering.{ordering_index, ordering_reverse}
use Rattle.std.specs.List.{AllWithin}
use Rattle.std.proofs.lemmas.List.{get_or_default}
use Rattle.std.proofs.lemmas.List.Edits.{length-insert, get_or-insert_at}
use Rattle.std.proofs.lemmas.Cmp.{tied_itself}
use Rattle.std.specs.FinMap.{find, put, is_sorted}
use Rattle.std.specs.FinMap.Entries.{below_all, is_sorted-put, find-put, same_entries}
use Rattle.std.specs.List.Sorted.{IsBinarySearchResult, IsPartitionPoint}
use Rattle.ts_core.specs.facts.Facts.{Text}
use Rattle.ts_core.specs.aggregates.Aggregates.{Aggregate}
use Rattle.ts_core.specs.queries.Answers.{group_cmp, same_group}
use Rattle.ts_core.proofs.lists.Places.{both_of, less_of, rises, found_at, put_at, put_between}
use Rattle.ts_core.proofs.queries.GroupsInOrder.{groups_total, exact_groups, same_group-eq}
use Rattle.ts_exec.specs.GroupTables.{IsGroupTable, rows_or, rows_for}
use Rattle.ts_exec.specs.Slots.{Slots, AreSlots, with_made, made}
use Rattle.ts_exec.specs.Searches.{IsSlotOfGroup, HoldsGroup}

abbrev Slot : Type 0
Slot = List Text × Option (List Aggregate)

-- ---- what a search finds

pub found_slot : (slots : Slots) → AreSlots slots → (g : List Text) (r : Result ℕ ℕ) → IsBinarySearchResult (λ (e : Slot). group_cmp e.0 g) slots r → IsSlotOfGroup g slots r
found_slot slots s g (Ok i) h = h
found_slot slots s g (Err i) h = h (rises groups_total slots s g)

index_less : (o : Ordering) → ordering_index o ≤ 0 → o ≡ Less
index_less Less h = refl
index_less Equal h = absurd (omega arith)
index_less Greater h = absurd (omega arith)

-- where the last one is less than the group, all are
pub behind_all : (slots : Slots) → AreSlots slots → (g : List Text) (last : Slot) → 0 < length slots → get_or slots (length slots - 1) last ≡ last → group_cmp last.0 g ≡ Less → IsSlotOfGroup g slots (Err (length slots))
behind_all slots s g last some is less = (
  λ j d a b.
      let end : get_or slots (length slots - 1) d ≡ last = get_or_default slots (length slots - 1) d last (omega arith) ∙ is in
      let none : ordering_index (group_cmp (get_or slots (length slots - 1) d).0 g) ≡ 0 = ap (λ (e : Slot). ordering_index (group_cmp e.0 g)) end ∙ ap ordering_index less in
      let rising = rises groups_total slots s g j (length slots - 1) d (omega arith) (omega arith) in
      index_less _ (omega (arith, none, rising)),
  λ j d a b. absurd (omega arith),
)

pub behind_none : (slots : Slots) (g : List Text) → length slots ≡ 0 → IsSlotOfGroup g slots (Err (length slots))
behind_none slots g none = (λ j d a b. absurd (omega arith), λ j d a b. absurd (omega arith))

other : (x : Slot) (g : List Text) (a : Ordering) → group_cmp x.0 g ≡ a → is_eq (ordering_reverse a) ≡ false → same_group g x.0 ≡ false
other x g a e n = ap is_eq (groups_total.antisymm g x.0 ∙ ap ordering_reverse e) ∙ n

none_after : (slots : Slots) (g : List Text) → AllWithin (λ (e : Slot). group_cmp e.0 g ≡ Greater) slots 0 (length slots) → find group_cmp g slots ≡ None
none_after [] g p = refl
none_after (x ∷ slots) g p =
    ap (λ b. cond b (Some x.1) (find group_cmp g slots)) (other x g Greater (p 0 x (omega arith) (omega arith)) refl)
    ∙ none_after slots g (λ j d a b. p (suc j) d (omega arith) (omega arith))

not_found : (slots : Slots) (i : ℕ) (g : List Text) → i ≤ length slots → IsPartitionPoint (λ (e : Slot). group_cmp e.0 g ≡ Less) (λ (e : Slot). group_cmp e.0 g ≡ Greater) slots i → find group_cmp g slots ≡ None
not_found slots zero g l p = none_after slots g p.1
not_found [] (suc i) g l p = refl
not_found (x ∷ slots) (suc i) g l p =
    ap (λ b. cond b (Some x.1) (find group_cmp g slots)) (other x g Less (p.0 0 x (omega arith) (omega arith)) refl)
    ∙ not_found slots i g (omega arith) (λ j d a b. p.0 (suc j) d (omega arith) (omega arith), λ j d a b. p.1 (suc j) d (omega arith) (omega arith))

-- ---- those that have data

both_from : (a b : Bool) → T a → T b → T (a && b)
both_from true b h k = k
both_from false b h k = absurd h

below_made : (x : List Text) (slots : Slots) → T (below_all group_cmp x slots) → T (below_all group_cmp x (made slots))
below_made x [] h = tt
below_made x (e ∷ slots) h =
    let p = both_of (is_lt (group_cmp x e.0)) (below_all group_cmp x slots) h in
    let rest = below_made x slots p.1 in
    elim e.1 as (λ o. T (below_all group_cmp x (with_made e.0 o (made slots)))) [
      | None ↦ rest
      | Some rows ↦ both_from (is_lt (group_cmp x e.0)) (below_all group_cmp x (made slots)) p.0 rest
    ]

pub made-table : (slots : Slots) → AreSlots slots → IsGroupTable (made slots)
made-table [] h = tt
made-table (e ∷ slots) h =
    let p = both_of (below_all group_cmp e.0 slots) (is_sorted group_cmp slots) h in
    let rest = made-table slots p.1 in
    elim e.1 as (λ o. IsGroupTable (with_made e.0 o (made slots))) [
      | None ↦ rest
      | Some rows ↦ both_from (below_all group_cmp e.0 (made slots)) (is_sorted group_cmp (made slots)) (below_made e.0 slots p.0) rest
    ]

find_below : (g : List Text) (slots : Slots) → T (below_all group_cmp g slots) → find group_cmp g slots ≡ None
find_below g [] h = refl
find_below g (x ∷ slots) h =
    let p = both_of (is_lt (group_cmp g x.0)) (below_all group_cmp g slots) h in
    ap (λ r. cond (is_eq r) (Some x.1) (find group_cmp g slots)) (less_of (group_cmp g x.0) p.0) ∙ find_below g slots p.1

-- the rows of a group that is expected, if it has any
abbrev held : Option (Option (List Aggregate)) → Option (List Aggregate)
held None = None
held (Some rows) = rows

find_made : (g : List Text) (slots : Slots) → AreSlots slots → find group_cmp g (made slots) ≡ held (find group_cmp g slots)
find_made g [] s = refl
find_made g (e ∷ slots) s =
    let p = both_of (below_all group_cmp e.0 slots) (is_sorted group_cmp slots) s in
    let rest = find_made g slots p.1 in
    elim e.1 as (λ o. find group_cmp g (with_made e.0 o (made slots)) ≡ held (cond (same_group g e.0) (Some o) (find group_cmp g slots))) [
      | None ↦
          elim (same_group g e.0) as (λ b. same_group g e.0 ≡ b → find group_cmp g (made slots) ≡ held (cond b (Some None) (find group_cmp g slots))) [
            | true ↦ λ k. rest ∙ ap held (find_below g slots (subst (λ x. T (below_all group_cmp x slots)) (sym (same_group-eq g e.0 k)) p.0))
            | false ↦ λ k. rest
          ] refl
      | Some rows ↦
          elim (same_group g e.0) as (λ b. cond b (Some rows) (find group_cmp g (made slots)) ≡ held (cond b (Some (Some rows)) (find group_cmp g slots))) [
            | true ↦ refl
            | false ↦ rest
          ]
    ]

held_put : (b : Bool) (rows : List Aggregate) (o : Option (Option (List Aggregate))) → held (cond b (Some (Some rows)) o) ≡ cond b (Some rows) (held o)
held_put true rows o = refl
held_put false rows o = refl

made_put : (slots : Slots) → AreSlots slots → (g : List Text) (rows : List Aggregate) → made (put group_cmp g (Some rows) slots) ≡ put group_cmp g rows (made slots)
made_put slots s g rows =
    let new : AreSlots (put group_cmp g (Some rows) slots) = is_sorted-put group_cmp groups_total g (Some rows) slots s in
    same_entries group_cmp groups_total exact_groups (made (put group_cmp g (Some rows) slots)) (put group_cmp g rows (made slots)) (made-table (put group_cmp g (Some rows) slots) new)
    (is_sorted-put group_cmp groups_total g rows (made slots) (made-table slots s)) (λ q.
    find_made q (put group_cmp g (Some rows) slots) new
    ∙ ap held (find-put group_cmp groups_total q g (Some rows) slots)
    ∙ held_put (same_group q g) rows (find group_cmp q slots)
    ∙ ap (cond (same_group q g) (Some rows)) (sym (find_made q slots s))
    ∙ sym (find-put group_cmp groups_total q g rows (made slots)))

-- a group that is only expected has no data
made_expected : (slots : Slots) → AreSlots slots → (g : List Text) → find group_cmp g slots ≡ None → made (put group_cmp g None slots) ≡ made slots
made_expected slots s g none =
    let new : AreSlots (put group_cmp g None slots) = is_sorted-put group_cmp groups_total g None slots s in
    same_entries group_cmp groups_total exact_groups (made (put group_cmp g None slots)) (made slots) (made-table (put group_cmp g None slots) new) (made-table slots s) (λ q.
    find_made q (put group_cmp g None slots) new
    ∙ ap held (find-put group_cmp groups_total q g None slots)
    ∙ (elim (same_group q g) as (λ b. same_group q g ≡ b → held (cond b (Some None) (find group_cmp q slots)) ≡ held (find group_cmp q slots)) [
      | true ↦ λ k. sym (ap held (ap (λ x. find group_cmp x slots) (same_group-eq q g k) ∙ none))
      | false ↦ λ k. refl
    ] refl)
    ∙ sym (find_made q slots s))

-- ---- edits

-- a new group, where it belongs
module _ (slots : Slots) (s : AreSlots slots) (g : List Text) (i : ℕ) (l : i ≤ length slots) (p : IsSlotOfGroup g slots (Err i)) where
  inserted : insert slots i (g, None) ≡ put group_cmp g None slots
  inserted = sym (put_between groups_total slots g None i l p)

  pub expected-slots : AreSlots (insert slots i (g, None))
  expected-slots = subst AreSlots (sym inserted) (is_sorted-put group_cmp groups_total g None slots s)

  pub expected-made : made (insert slots i (g, None)) ≡ made slots
  expected-made = ap made inserted ∙ made_expected slots s g (not_found slots i g l p)

  pub expected-holds : HoldsGroup g (insert slots i (g, None)) i
  expected-holds = record {
    within = subst (λ m. i < m) (sym (length-insert slots i (g, None) l)) (omega arith);
    is = λ d. ap (λ (e : Slot). group_cmp e.0 g) (get_or-insert_at slots i (g, None) d l) ∙ tied_itself groups_total g;
  }

-- the slot of a group is written
module _ (slots : Slots) (s : AreSlots slots) (g : List Text) (i : ℕ) (h : HoldsGroup g slots i) (old new : Slot) (is : old ≡ get_or slots i old) (key : new.0 ≡ old.0) where
  written : set slots i new ≡ put group_cmp g new.1 slots
  written =
      ap (λ (x : List Text). set slots i (x, new.1)) (key ∙ ap (λ (x : Slot). x.0) is)
      ∙ sym (put_at groups_total slots s g new.1 i old h.within (h.is old))

  pub written-slots : AreSlots (set slots i new)
  written-slots = subst AreSlots (sym written) (is_sorted-put group_cmp groups_total g new.1 slots s)

  pub written-made : (F : List Aggregate → List Aggregate) (n : ℕ) → new.1 ≡ Some (F (rows_or n old.1)) → made (set slots i new) ≡ put group_cmp g (F (rows_for n g (made slots))) (made slots)
  written-made F n e =
      let rows : rows_or n old.1 ≡ rows_for n g (made slots) =
      ap (rows_or n) (ap (λ (x : Slot). x.1) is ∙ sym (ap held (found_at groups_total slots s g i old h.within (h.is old))) ∙ sym (find_made g slots s)) in
      ap made (written ∙ ap (λ o. put group_cmp g o slots) e) ∙ made_put slots s g (F (rows_or n old.1)) ∙ ap (λ r. put group_cmp g (F r) (made slots)) rows
