-- Positions of cells, sorted by rollup series: one found, one written, and a table of them.
use Rattle.std.proofs.Common.{◌≡◌, ℕ, zero, suc, ◌<◌, ◌≤◌, ◌+◌, ◌==◌, max, Bool, true, false, cond, List, [], ◌∷◌, length, get_or, set, insert, refl, ◌∙◌, ap, subst, Option, Some, None, ◌-◌, Ordering, Less, Equal, Greater, arith}
use Rattle.std.specs.Ordering.{nat_cmp, eq_by_cmp, ordering_index}
use Rattle.std.specs.Cmp.{unsigned_tied}
use Rattle.std.specs.FinMap.{find, put}
use Rattle.std.specs.FinMap.Entries.{find-put, is_sorted-put, by_order}
use Rattle.std.specs.List.Sorted.{IsPartitionPoint}
use Rattle.std.proofs.lemmas.Cmp.{nat_cmp_total}
use Rattle.ts_core.specs.lists.Changes.{or_else}
use Rattle.ts_core.proofs.lists.Places.{put_at, put_between, found_at, rises}
use Rattle.ts_cells.specs.Rows.{AreSortedSlots, no_slot, slot_of, slots_width, table}
use Rattle.ts_cells.proofs.Searches.{missing}

or_cond : (b : Bool) (x : ℕ) (o : Option ℕ) → or_else no_slot (cond b (Some x) o) ≡ cond b x (or_else no_slot o)
or_cond true x o = refl
or_cond false x o = refl

slot_put : (es : List (ℕ × ℕ)) (k v j : ℕ) → slot_of (put nat_cmp k v es) j ≡ cond (j == k) v (slot_of es j)
slot_put es k v j =
    ap (or_else no_slot) (find-put nat_cmp nat_cmp_total j k v es) ∙ or_cond (eq_by_cmp nat_cmp j k) v (find nat_cmp j es) ∙ ap (λ b. cond b v (slot_of es j)) (unsigned_tied j k)

width_put : (es : List (ℕ × ℕ)) (k v : ℕ) → slots_width (put nat_cmp k v es) ≤ max (slots_width es) (k + 1)
width_put [] k v = omega arith
width_put (e ∷ es) k v =
    let ih = width_put es k v in
    elim (nat_cmp k e.0) as (λ r. slots_width (by_order r ((k, v) ∷ e ∷ es) ((e.0, v) ∷ es) (e ∷ put nat_cmp k v es)) ≤ max (max (e.0 + 1) (slots_width es)) (k + 1)) [
      | Less ↦ omega arith
      | Equal ↦ omega arith
      | Greater ↦ omega arith
    ]

-- slots after that of one rollup series was written
pub record SlotPut (slots after : List (ℕ × ℕ)) (series slot : ℕ) : Type 0 where
  pub sorted : AreSortedSlots after
  pub put : (j : ℕ) → slot_of after j ≡ cond (j == series) slot (slot_of slots j)
  pub narrow : slots_width after ≤ max (slots_width slots) (series + 1)

slots_put : (es : List (ℕ × ℕ)) (k v : ℕ) → AreSortedSlots es → SlotPut es (put nat_cmp k v es) k v
slots_put es k v s = record {
  sorted = is_sorted-put nat_cmp nat_cmp_total k v es s;
  put = slot_put es k v;
  narrow = width_put es k v;
}

-- written where the rollup series has an entry
pub slots_set : (es : List (ℕ × ℕ)) (k v at : ℕ) (d : ℕ × ℕ) → AreSortedSlots es → at < length es → nat_cmp (get_or es at d).0 k ≡ Equal → SlotPut es (set es at ((get_or es at d).0, v)) k v
slots_set es k v at d s h e = subst (λ xs. SlotPut es xs k v) (put_at nat_cmp_total es s k v at d h e) (slots_put es k v s)

-- and where it has none
pub slots_new : (es : List (ℕ × ℕ)) (k v at : ℕ) → AreSortedSlots es → at ≤ length es → IsPartitionPoint (λ (e : ℕ × ℕ). nat_cmp e.0 k ≡ Less) (λ (e : ℕ × ℕ). nat_cmp e.0 k ≡ Greater) es at → SlotPut es (insert es at (k, v)) k v
slots_new es k v at s h p = subst (λ xs. SlotPut es xs k v) (put_between nat_cmp_total es k v at h p) (slots_put es k v s)

pub slot_here : (es : List (ℕ × ℕ)) (k at : ℕ) (d : ℕ × ℕ) → AreSortedSlots es → at < length es → nat_cmp (get_or es at d).0 k ≡ Equal → slot_of es k ≡ (get_or es at d).1
slot_here es k at d s h e = ap (or_else no_slot) (found_at nat_cmp_total es s k at d h e)

pub slot_missing : (es : List (ℕ × ℕ)) (k at : ℕ) → at ≤ length es → IsPartitionPoint (λ (e : ℕ × ℕ). nat_cmp e.0 k ≡ Less) (λ (e : ℕ × ℕ). nat_cmp e.0 k ≡ Greater) es at → slot_of es k ≡ no_slot
slot_missing es k at h p = ap (or_else no_slot) (missing nat_cmp_total es k at h p)

width_set : (es : List (ℕ × ℕ)) (at v : ℕ) (d : ℕ × ℕ) → slots_width (set es at ((get_or es at d).0, v)) ≡ slots_width es
width_set [] at v d = refl
width_set (e ∷ es) zero v d = refl
width_set (e ∷ es) (suc at) v d = ap (max (e.0 + 1)) (width_set es at v d)

pub set_narrow : (es : List (ℕ × ℕ)) (at v : ℕ) (d : ℕ × ℕ) → slots_width (set es at ((get_or es at d).0, v)) ≤ slots_width es
set_narrow es at v d = let e = width_set es at v d in omega arith

-- ---- tables

module _ {X : Type 0} where
  pub length-table : (f : ℕ → X) (n : ℕ) → length (table f n) ≡ n
  length-table f zero = refl
  length-table f (suc n) = ap suc (length-table (λ j. f (suc j)) n)

  pub table_at : (f : ℕ → X) (n j : ℕ) (d : X) → j < n → get_or (table f n) j d ≡ f j
  table_at f zero j d h = absurd (omega arith)
  table_at f (suc n) zero d h = refl
  table_at f (suc n) (suc j) d h = table_at (λ i. f (suc i)) n j d (omega arith)

  pub table_past : (f : ℕ → X) (n j : ℕ) (d : X) → n ≤ j → get_or (table f n) j d ≡ d
  table_past f zero j d h = refl
  table_past f (suc n) zero d h = absurd (omega arith)
  table_past f (suc n) (suc j) d h = table_past (λ i. f (suc i)) n j d (omega arith)

unequal : (j k : ℕ) → k < j → (j == k) ≡ false
unequal j k h = grind arith

find_past : (es : List (ℕ × ℕ)) (j : ℕ) → slots_width es ≤ j → find nat_cmp j es ≡ None
find_past [] j h = refl
find_past (e ∷ es) j h =
    ap (λ b. cond b (Some e.1) (find nat_cmp j es)) (unsigned_tied j e.0 ∙ unequal j e.0 (omega arith)) ∙ find_past es j (omega arith)

-- no slot from the width on
pub slot_past : (es : List (ℕ × ℕ)) (j : ℕ) → slots_width es ≤ j → slot_of es j ≡ no_slot
slot_past es j h = ap (or_else no_slot) (find_past es j h)

-- ---- the end

less_of_index : (o : Ordering) → ordering_index o ≤ 0 → o ≡ Less
less_of_index Less h = refl
less_of_index Equal h = absurd (omega arith)
less_of_index Greater h = absurd (omega arith)

-- past the last entry
pub past_last : (es : List (ℕ × ℕ)) (k : ℕ) (last : ℕ × ℕ) → AreSortedSlots es → ((d : ℕ × ℕ) → get_or es (length es - 1) d ≡ last) → nat_cmp last.0 k ≡ Less
    → IsPartitionPoint (λ (e : ℕ × ℕ). nat_cmp e.0 k ≡ Less) (λ (e : ℕ × ℕ). nat_cmp e.0 k ≡ Greater) es (length es)
past_last es k last s l h = (
  λ j d a b. less_of_index (nat_cmp (get_or es j d).0 k)
      (let up = rises nat_cmp_total es s k j (length es - 1) d (omega arith) (omega arith) in
      let e : ordering_index (nat_cmp (get_or es (length es - 1) d).0 k) ≡ 0 = ap (λ (x : ℕ × ℕ). ordering_index (nat_cmp x.0 k)) (l d) ∙ ap ordering_index h in omega arith),
  λ j d a b. absurd (omega arith),
)
