-- Cells in creation order, by the positions of their rollup series.
use Rattle.std.proofs.Common.{◌≡◌, ◌≢◌, ℕ, zero, suc, ◌<◌, ◌≤◌, ◌+◌, ◌==◌, true, false, cond, List, [], ◌∷◌, ◌++◌, length, length-append, get_or, set, take, refl, sym, ◌∙◌, ap, subst, Option, Some, None, option_map, ⊎_elim, true≢false, arith}
use Rattle.std.specs.List.{slice_get}
use Rattle.std.proofs.lemmas.Option.{slice_get_past, slice_get-get_or}
use Rattle.std.proofs.lemmas.List.{length-set, length-take-le, get_or_append_left}
use Rattle.std.proofs.lemmas.Bool.{cases_lt}
use Rattle.std.proofs.Math.Seq.{get_or-append_seam}
use Rattle.ts_core.specs.lists.Changes.{or_else}
use Rattle.ts_cells.specs.Grids.{held, HasLost}
use Rattle.ts_cells.specs.Rows.{no_slot, slot_of, slots_width, by_series, IsSlotMap}
use Rattle.ts_cells.proofs.SlotLemmas.{length-table, table_at, table_past, slot_past}

pub same_number : (j k : ℕ) → (j == k) ≡ true → j ≡ k
same_number j k e = grind arith

number_itself : (j k : ℕ) → j ≡ k → (j == k) ≡ true
number_itself j k e = grind arith

other_number : (j k : ℕ) → (j == k) ≡ false → j ≢ k
other_number j k h e = true≢false (sym (number_itself j k e) ∙ h)

-- ---- parts

module _ {P : Type 0} where
  this_part : (xs : List P) (i : ℕ) (x : P) → i < length xs → slice_get (set xs i x) i ≡ Some x
  this_part [] i x h = absurd (omega arith)
  this_part (y ∷ ys) zero x h = refl
  this_part (y ∷ ys) (suc i) x h = this_part ys i x (omega arith)

  other_part : (xs : List P) (i q : ℕ) (x : P) → q ≢ i → slice_get (set xs i x) q ≡ slice_get xs q
  other_part [] i q x n = refl
  other_part (y ∷ ys) zero zero x n = absurd (n refl)
  other_part (y ∷ ys) zero (suc q) x n = refl
  other_part (y ∷ ys) (suc i) zero x n = refl
  other_part (y ∷ ys) (suc i) (suc q) x n = other_part ys i q x (λ e. n (ap suc e))

  part_before : (xs ys : List P) (q : ℕ) → q < length xs → slice_get (xs ++ ys) q ≡ slice_get xs q
  part_before [] ys q h = absurd (omega arith)
  part_before (x ∷ xs) ys zero h = refl
  part_before (x ∷ xs) ys (suc q) h = part_before xs ys q (omega arith)

  pub last_part : (xs : List P) (x : P) → slice_get (xs ++ x ∷ []) (length xs) ≡ Some x
  last_part [] x = refl
  last_part (y ∷ xs) x = last_part xs x

  part_kept : (xs : List P) (n q : ℕ) → q < n → slice_get (take n xs) q ≡ slice_get xs q
  part_kept xs zero q h = absurd (omega arith)
  part_kept [] (suc n) q h = refl
  part_kept (x ∷ xs) (suc n) zero h = refl
  part_kept (x ∷ xs) (suc n) (suc q) h = part_kept xs n q (omega arith)

  -- the part of a rollup series is at its slot
  pub held_at : (parts : List P) (slots : List (ℕ × ℕ)) (j : ℕ) → length parts ≤ no_slot → held (by_series parts slots) j ≡ slice_get parts (slot_of slots j)
  held_at parts slots j h =
      ⊎_elim {C = held (by_series parts slots) j ≡ slice_get parts (slot_of slots j)}
      (λ (l : j < slots_width slots). table_at (λ i. slice_get parts (slot_of slots i)) (slots_width slots) j None l)
      (λ (g : slots_width slots ≤ j). table_past (λ i. slice_get parts (slot_of slots i)) (slots_width slots) j None g ∙ sym (ap (slice_get parts) (slot_past slots j g) ∙ slice_get_past parts no_slot h))
      (cases_lt j (slots_width slots))

  pub length-by_series : (parts : List P) (slots : List (ℕ × ℕ)) → length (by_series parts slots) ≡ slots_width slots
  length-by_series parts slots = length-table (λ i. slice_get parts (slot_of slots i)) (slots_width slots)

-- ---- slots

-- a rollup series more, that had no cell
module _ (slots : List (ℕ × ℕ)) (series_of_slot : List ℕ) (after : List (ℕ × ℕ)) (series count : ℕ) (is : IsSlotMap slots series_of_slot count) (absent : count ≤ slot_of slots series) (spare : count < no_slot) (put : (j : ℕ) → slot_of after j ≡ cond (j == series) count (slot_of slots j)) where
  made_there : (n : ℕ) → n < count + 1 → slot_of after (get_or (series_of_slot ++ series ∷ []) n 0) ≡ n
  made_there n h =
      ⊎_elim {C = slot_of after (get_or (series_of_slot ++ series ∷ []) n 0) ≡ n}
      (λ (l : n < count).
      let old : slot_of slots (get_or series_of_slot n 0) ≡ n = is.there n l in
      let at : get_or (series_of_slot ++ series ∷ []) n 0 ≡ get_or series_of_slot n 0 = get_or_append_left series_of_slot (series ∷ []) 0 n (let m = is.as_many in omega arith) in
      ap (slot_of after) at
      ∙ put (get_or series_of_slot n 0)
      ∙ elim (get_or series_of_slot n 0 == series) as (λ b. (get_or series_of_slot n 0 == series) ≡ b → cond b count (slot_of slots (get_or series_of_slot n 0)) ≡ n) [
        | true ↦ λ e. absurd (let q : slot_of slots series ≡ n = sym (ap (slot_of slots) (same_number (get_or series_of_slot n 0) series e)) ∙ old in omega arith)
        | false ↦ λ e. old
      ] refl)
      (λ (g : count ≤ n).
      let here : n ≡ length series_of_slot = let m = is.as_many in omega arith in
      let at : get_or (series_of_slot ++ series ∷ []) n 0 ≡ series = ap (λ k. get_or (series_of_slot ++ series ∷ []) k 0) here ∙ get_or-append_seam series_of_slot series [] 0 in
      ap (slot_of after) at ∙ put series ∙ ap (λ b. cond b count (slot_of slots series)) (number_itself series series refl) ∙ sym is.as_many ∙ sym here)
      (cases_lt n count)

  made_back : (j : ℕ) → slot_of after j < count + 1 → get_or (series_of_slot ++ series ∷ []) (slot_of after j) 0 ≡ j
  made_back j h =
      elim (j == series) as (λ b. (j == series) ≡ b → get_or (series_of_slot ++ series ∷ []) (slot_of after j) 0 ≡ j) [
        | true ↦ λ e. ap (λ k. get_or (series_of_slot ++ series ∷ []) k 0) (put j ∙ ap (λ b. cond b count (slot_of slots j)) e ∙ sym is.as_many) ∙ get_or-append_seam series_of_slot series [] 0 ∙ sym (same_number j series e)
        | false ↦ λ e.
            let at : slot_of after j ≡ slot_of slots j = put j ∙ ap (λ b. cond b count (slot_of slots j)) e in
            let few : slot_of slots j < count =
            ⊎_elim {C = slot_of slots j < count} (λ l. l) (λ (g : count ≤ slot_of slots j). let n = is.none j g in absurd (omega arith)) (cases_lt (slot_of slots j) count) in
            ap (λ k. get_or (series_of_slot ++ series ∷ []) k 0) at ∙ get_or_append_left series_of_slot (series ∷ []) 0 (slot_of slots j) (let m = is.as_many in omega arith) ∙ is.back j few
      ] refl

  made_none : (j : ℕ) → count + 1 ≤ slot_of after j → slot_of after j ≡ no_slot
  made_none j h =
      elim (j == series) as (λ b. (j == series) ≡ b → slot_of after j ≡ no_slot) [
        | true ↦ λ e. absurd (let at : slot_of after j ≡ count = put j ∙ ap (λ b. cond b count (slot_of slots j)) e in omega arith)
        | false ↦ λ e.
            let at : slot_of after j ≡ slot_of slots j = put j ∙ ap (λ b. cond b count (slot_of slots j)) e in
            at ∙ is.none j (omega arith)
      ] refl

  pub made_mapped : IsSlotMap after (series_of_slot ++ series ∷ []) (count + 1)
  made_mapped = record {
    few = omega arith;
    as_many = length-append series_of_slot (series ∷ []) ∙ ap (λ n. n + 1) is.as_many;
    there = made_there;
    back = made_back;
    none = made_none;
  }

-- the rollup series of the last cell, without it
module _ (slots : List (ℕ × ℕ)) (series_of_slot front : List ℕ) (series count : ℕ) (is : IsSlotMap slots series_of_slot count) (last : series_of_slot ≡ front ++ series ∷ []) where
  one_more : count ≡ length front + 1
  one_more = sym is.as_many ∙ ap length last ∙ length-append front (series ∷ [])

  last_slot : slot_of slots series ≡ length front
  last_slot = ap (slot_of slots) (sym (ap (λ ls. get_or ls (length front) 0) last ∙ get_or-append_seam front series [] 0)) ∙ is.there (length front) (let m = one_more in omega arith)

  -- no other rollup series has that slot
  last_alone : (j : ℕ) → slot_of slots j ≡ length front → j ≡ series
  last_alone j e =
      sym (is.back j (let m = one_more in omega arith)) ∙ ap (λ k. get_or series_of_slot k 0) e ∙ ap (λ ls. get_or ls (length front) 0) last ∙ get_or-append_seam front series [] 0

  pub gone_few : (j : ℕ) → (j == series) ≡ false → slot_of slots j < count → slot_of slots j < length front
  gone_few j e h =
      ⊎_elim {C = slot_of slots j < length front} (λ l. l)
      (λ (g : length front ≤ slot_of slots j). absurd (other_number j series e (last_alone j (let m = one_more in omega arith)))) (cases_lt (slot_of slots j) (length front))

  module _ (after : List (ℕ × ℕ)) (gone : (j : ℕ) → slot_of after j ≡ cond (j == series) no_slot (slot_of slots j)) where
    gone_there : (n : ℕ) → n < length front → slot_of after (get_or front n 0) ≡ n
    gone_there n h =
        let at : get_or series_of_slot n 0 ≡ get_or front n 0 = ap (λ ls. get_or ls n 0) last ∙ get_or_append_left front (series ∷ []) 0 n h in
        let old : slot_of slots (get_or front n 0) ≡ n = ap (slot_of slots) (sym at) ∙ is.there n (let m = one_more in omega arith) in
        gone (get_or front n 0)
        ∙ elim (get_or front n 0 == series) as (λ b. (get_or front n 0 == series) ≡ b → cond b no_slot (slot_of slots (get_or front n 0)) ≡ n) [
          | true ↦ λ e. absurd (let q : slot_of slots series ≡ n = sym (ap (slot_of slots) (same_number (get_or front n 0) series e)) ∙ old in let p = last_slot in omega arith)
          | false ↦ λ e. old
        ] refl

    gone_back : (j : ℕ) → slot_of after j < length front → get_or front (slot_of after j) 0 ≡ j
    gone_back j h =
        elim (j == series) as (λ b. (j == series) ≡ b → get_or front (slot_of after j) 0 ≡ j) [
          | true ↦ λ e. absurd (let at : slot_of after j ≡ no_slot = gone j ∙ ap (λ b. cond b no_slot (slot_of slots j)) e in let f = is.few in let m = one_more in omega arith)
          | false ↦ λ e.
              let at : slot_of after j ≡ slot_of slots j = gone j ∙ ap (λ b. cond b no_slot (slot_of slots j)) e in
              let few : slot_of slots j < length front = omega arith in
              ap (λ k. get_or front k 0) at ∙ sym (ap (λ ls. get_or ls (slot_of slots j) 0) last ∙ get_or_append_left front (series ∷ []) 0 (slot_of slots j) few) ∙ is.back j (let m = one_more in omega arith)
        ] refl

    gone_none : (j : ℕ) → length front ≤ slot_of after j → slot_of after j ≡ no_slot
    gone_none j h =
        elim (j == series) as (λ b. (j == series) ≡ b → slot_of after j ≡ no_slot) [
          | true ↦ λ e. gone j ∙ ap (λ b. cond b no_slot (slot_of slots j)) e
          | false ↦ λ e.
              let at : slot_of after j ≡ slot_of slots j = gone j ∙ ap (λ b. cond b no_slot (slot_of slots j)) e in
              at ∙ ⊎_elim {C = slot_of slots j ≡ no_slot} (λ (l : slot_of slots j < count). absurd (let g = gone_few j e l in omega arith)) (λ g. is.none j g) (cases_lt (slot_of slots j) count)
        ] refl

    pub gone_mapped : (n : ℕ) → n + 1 ≡ count → IsSlotMap after front n
    gone_mapped n e =
        let m : n ≡ length front = let o = one_more in omega arith in
        subst (IsSlotMap after front) (sym m) (record {
          few = let f = is.few in let o = one_more in omega arith;
          as_many = refl;
          there = gone_there;
          back = gone_back;
          none = gone_none;
        })

-- ---- the parts afterwards

module _ {P : Type 0} where
  -- a rollup series without a slot has no cell
  pub none_held : (parts : List P) (slots : List (ℕ × ℕ)) (series : ℕ) → length parts ≤ no_slot → length parts ≤ slot_of slots series → held (by_series parts slots) series ≡ None
  none_held parts slots series f h = held_at parts slots series f ∙ slice_get_past parts (slot_of slots series) h

  -- nothing changes where there is no cell
  pub none_put : (cs : List (Option P)) (series j : ℕ) (f : P → P) → held cs series ≡ None → held cs j ≡ cond (j == series) (option_map f (held cs series)) (held cs j)
  none_put cs series j f h =
      elim (j == series) as (λ b. (j == series) ≡ b → held cs j ≡ cond b (option_map f (held cs series)) (held cs j)) [
        | true ↦ λ e. ap (held cs) (same_number j series e) ∙ h ∙ ap (option_map f) (sym h)
        | false ↦ λ e. refl
      ] refl

  stays : (cs : List (Option P)) (series j : ℕ) (x y : P) → held cs series ≡ Some y → held cs j ≡ cond (j == series) (Some (or_else x (held cs series))) (held cs j)
  stays cs series j x y h =
      elim (j == series) as (λ b. (j == series) ≡ b → held cs j ≡ cond b (Some (or_else x (held cs series))) (held cs j)) [
        | true ↦ λ e. ap (held cs) (same_number j series e) ∙ h ∙ ap (λ o. Some (or_else x o)) (sym h)
        | false ↦ λ e. refl
      ] refl

  -- a cell that exists stays when capacity is reserved
  pub some_kept : (parts : List P) (slots : List (ℕ × ℕ)) (series j : ℕ) (x : P) → length parts ≤ no_slot → slot_of slots series < length parts
      → held (by_series parts slots) j ≡ cond (j == series) (Some (or_else x (held (by_series parts slots) series))) (held (by_series parts slots) j)
  some_kept parts slots series j x f h =
      stays (by_series parts slots) series j x (get_or parts (slot_of slots series) x) (held_at parts slots series f ∙ slice_get-get_or parts (slot_of slots series) x h)

  -- the same slots, for more rollup series
  pub same_held : (parts : List P) (slots after : List (ℕ × ℕ)) (j : ℕ) → length parts ≤ no_slot → ((j : ℕ) → slot_of after j ≡ slot_of slots j) → held (by_series parts after) j ≡ held (by_series parts slots) j
  same_held parts slots after j f same = held_at parts after j f ∙ ap (slice_get parts) (same j) ∙ sym (held_at parts slots j f)

  -- one cell has another part
  pub part_put : (parts : List P) (slots : List (ℕ × ℕ)) (series_of_slot : List ℕ) (series p : ℕ) (v : P) → IsSlotMap slots series_of_slot (length parts) → p ≡ slot_of slots series → p < length parts → (j : ℕ)
      → held (by_series (set parts p v) slots) j ≡ cond (j == series) (Some v) (held (by_series parts slots) j)
  part_put parts slots series_of_slot series p v is at h j =
      held_at (set parts p v) slots j (let f = is.few in let l = length-set parts p v in omega arith)
      ∙ elim (j == series) as (λ b. (j == series) ≡ b → slice_get (set parts p v) (slot_of slots j) ≡ cond b (Some v) (held (by_series parts slots) j)) [
        | true ↦ λ e. ap (slice_get (set parts p v)) (ap (slot_of slots) (same_number j series e) ∙ sym at) ∙ this_part parts p v h
        | false ↦ λ e.
            other_part parts p (slot_of slots j) v (λ q. other_number j series e (sym (is.back j (omega arith)) ∙ ap (λ k. get_or series_of_slot k 0) (q ∙ at) ∙ is.back series (omega arith)))
            ∙ sym (held_at parts slots j is.few)
      ] refl

  -- one cell is created
  pub part_made : (parts : List P) (slots : List (ℕ × ℕ)) (series_of_slot : List ℕ) (after : List (ℕ × ℕ)) (series : ℕ) (x : P) → IsSlotMap slots series_of_slot (length parts) → length parts ≤ slot_of slots series → length parts < no_slot
      → ((j : ℕ) → slot_of after j ≡ cond (j == series) (length parts) (slot_of slots j)) → (j : ℕ) → held (by_series (parts ++ x ∷ []) after) j ≡ cond (j == series) (Some x) (held (by_series parts slots) j)
  part_made parts slots series_of_slot after series x is absent spare put j =
      let long : length (parts ++ x ∷ []) ≡ length parts + 1 = length-append parts (x ∷ []) in
      held_at (parts ++ x ∷ []) after j (omega arith)
      ∙ ap (slice_get (parts ++ x ∷ [])) (put j)
      ∙ elim (j == series) as (λ b. slice_get (parts ++ x ∷ []) (cond b (length parts) (slot_of slots j)) ≡ cond b (Some x) (held (by_series parts slots) j)) [
        | true ↦ last_part parts x
        | false ↦
            ⊎_elim {C = slice_get (parts ++ x ∷ []) (slot_of slots j) ≡ held (by_series parts slots) j}
            (λ (l : slot_of slots j < length parts). part_before parts (x ∷ []) (slot_of slots j) l ∙ sym (held_at parts slots j is.few))
            (λ (g : length parts ≤ slot_of slots j). slice_get_past (parts ++ x ∷ []) (slot_of slots j) (let n = is.none j g in omega arith) ∙ sym (none_held parts slots j is.few g))
            (cases_lt (slot_of slots j) (length parts))
      ]

  -- the last cell is removed
  pub part_lost : (parts : List P) (slots : List (ℕ × ℕ)) (series_of_slot front : List ℕ) (after : List (ℕ × ℕ)) (series n : ℕ) (x : P) → IsSlotMap slots series_of_slot (length parts) → series_of_slot ≡ front ++ series ∷ [] → n + 1 ≡ length parts → slice_get parts n ≡ Some x
      → ((j : ℕ) → slot_of after j ≡ cond (j == series) no_slot (slot_of slots j)) → HasLost x (by_series parts slots) (by_series (take n parts) after)
  part_lost parts slots series_of_slot front after series n x is last e last_is gone =
      let many : length parts ≡ length front + 1 = one_more slots series_of_slot front series (length parts) is last in
      let short : length (take n parts) ≡ n = length-take-le n parts (omega arith) in
      record {
        series = series;
        was =
            let here : slot_of slots series ≡ length front = last_slot slots series_of_slot front series (length parts) is last in
            held_at parts slots series is.few ∙ ap (slice_get parts) (let at : slot_of slots series ≡ n = omega arith in at) ∙ last_is;
        cells = λ j.
            held_at (take n parts) after j (let f = is.few in omega arith)
            ∙ ap (slice_get (take n parts)) (gone j)
            ∙ elim (j == series) as (λ b. (j == series) ≡ b → slice_get (take n parts) (cond b no_slot (slot_of slots j)) ≡ cond b None (held (by_series parts slots) j)) [
              | true ↦ λ h. slice_get_past (take n parts) no_slot (let f = is.few in omega arith)
              | false ↦ λ h.
                  ⊎_elim {C = slice_get (take n parts) (slot_of slots j) ≡ held (by_series parts slots) j}
                  (λ (l : slot_of slots j < length parts). part_kept parts n (slot_of slots j) (let g = gone_few slots series_of_slot front series (length parts) is last j h l in omega arith) ∙ sym (held_at parts slots j is.few))
                  (λ (g : length parts ≤ slot_of slots j). slice_get_past (take n parts) (slot_of slots j) (omega arith) ∙ sym (none_held parts slots j is.few g))
                  (cases_lt (slot_of slots j) (length parts))
            ] refl;
      }
