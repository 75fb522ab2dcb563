-- Rollups of a rule: the columns of each rollup series, when a rollup series or a column is created.
use Rattle.std.proofs.Common.{◌≡◌, ℕ, zero, suc, ◌+◌, ◌<◌, ◌≤◌, ◌==◌, Bool, true, false, cond, List, [], ◌∷◌, ◌++◌, length, map, set, get_or, replicate, Option, Some, None, refl, sym, ◌∙◌, ap, subst, ⊎_elim, arith}
use Rattle.std.specs.List.{slice_get}
use Rattle.std.specs.Prelude.{nat_lt}
use Rattle.std.proofs.Math.Seq.{map-set_same}
use Rattle.std.proofs.lemmas.Bool.{eqb-true, eqb-false}
use Rattle.std.proofs.lemmas.List.{append-nil, map-append, map-set, length-set, length_push, length-map, get_or-map, get_or-set_same, get_or-set_other}
use Rattle.ts_core.specs.lists.Members.{Among, AllDistinct}
use Rattle.ts_core.specs.store.StoreStates.{CellParts}
use Rattle.ts_cells.specs.Grids.{RollupSeries, Grid}
use Rattle.ts_core.specs.lists.Numbered.{Gains, numbers_where}
use Rattle.ts_raw.proofs.NumbersLaws.{numbers_there}
use Rattle.ts_core.proofs.lists.NumberedLemmas.{numbers_where-push, once_more}
use Rattle.ts_store.specs.rollup.ColumnLists.{ColumnList, lists_in, capacities_in, HasCapacityAt}
use Rattle.ts_store.specs.rollup.Rollups.{is_of_rollup_series, HasSpares, IsRollup, Extends, KeepsLists}

same_number : (n : ℕ) → (n == n) ≡ true
same_number n = grind arith

-- ---- lists of columns

-- only a list that is there has members
members_within : (ms : List (List ℕ)) (l n : ℕ) → Among n (get_or ms l []) → l < length ms
members_within [] l n a = absurd a
members_within (m ∷ ms) zero n a = omega arith
members_within (m ∷ ms) (suc l) n a = let w = members_within ms l n a in omega (arith, w)

-- a list without members changes none
list_made : {X : Type 0} (ms : List (List X)) (l : ℕ) → get_or (ms ++ [] ∷ []) l [] ≡ get_or ms l []
list_made [] zero = refl
list_made (m ∷ ms) (suc l) = list_made ms l
list_made _ _ = refl

-- a number is added after those of a list
grown_list : (ms : List (List ℕ)) (n k : ℕ) → n < length ms → (l : ℕ) (b : Bool) → (n == l) ≡ b → get_or (set ms n (get_or ms n [] ++ k ∷ [])) l [] ≡ get_or ms l [] ++ cond b (k ∷ []) []
grown_list ms n k within l true e =
    subst (λ m. get_or (set ms n (get_or ms n [] ++ k ∷ [])) m [] ≡ get_or ms m [] ++ k ∷ []) (eqb-true n l e) (get_or-set_same ms n (get_or ms n [] ++ k ∷ []) [] within)
grown_list ms n k within l false e =
    get_or-set_other ms n l (get_or ms n [] ++ k ∷ []) [] (λ q. eqb-false n l e (sym q)) ∙ sym (append-nil (get_or ms l []))

true_within : (bs : List Bool) (n : ℕ) → get_or bs n false ≡ true → n < length bs
true_within [] n e = cc
true_within (b ∷ bs) zero e = omega arith
true_within (b ∷ bs) (suc n) e = let w = true_within bs n e in omega (arith, w)

-- a rollup series without columns is created
pub rollup_series_made : (ls : List ColumnList) (new : ColumnList) → new.items ≡ [] → (l : ℕ) → get_or (lists_in (ls ++ new ∷ [])) l [] ≡ get_or (lists_in ls) l []
rollup_series_made ls new e l =
    ap (λ (xs : List (List ℕ)). get_or xs l []) (map-append (λ (w : ColumnList). w.items) ls (new ∷ [])) ∙ ap (λ (xs : List ℕ). get_or (lists_in ls ++ xs ∷ []) l []) e
    ∙ list_made (lists_in ls) l

-- the columns of a rollup series are replaced
module _ (ls : List ColumnList) (i : ℕ) (old new : ColumnList) (is : old ≡ get_or ls i old) where
  lists_same : new.items ≡ old.items → lists_in (set ls i new) ≡ lists_in ls
  lists_same e = map-set_same (λ (v : ColumnList). v.items) ls i new old (e ∙ ap (λ (v : ColumnList). v.items) is)

  -- no list changes where its columns stay
  pub list_roomed : (before after : Grid CellParts) (lists : List ColumnList) → new.items ≡ old.items → KeepsLists before lists after ls → KeepsLists before lists after (set ls i new)
  list_roomed before after lists e k = record {
    each = length-set ls i new ∙ k.each;
    made = k.made;
    once = k.once;
    columns = λ l. ap (λ (xs : List (List ℕ)). get_or xs l []) (lists_same e) ∙ k.columns l;
    cells = k.cells;
  }

  pub lists_more : (n : ℕ) → i < length ls → new.items ≡ old.items ++ n ∷ [] → lists_in (set ls i new) ≡ set (lists_in ls) i (get_or (lists_in ls) i [] ++ n ∷ [])
  lists_more n l e =
      map-set (λ (v : ColumnList). v.items) ls i new
      ∙ ap (λ xs. set (lists_in ls) i xs)
      (e ∙ ap (λ xs. xs ++ n ∷ []) (ap (λ (v : ColumnList). v.items) is ∙ sym (get_or-map (λ (v : ColumnList). v.items) ls i old [] l)))

module _ (ls : List ColumnList) (n : ℕ) where
  pub place_within : HasCapacityAt ls n → n < length ls
  place_within h = let w = true_within (capacities_in ls) n h in let e = length-map ls (λ (v : ColumnList). v.has_capacity) in omega (arith, w, e)

  -- columns with capacity for one more
  pub place_at : (v : ColumnList) → v ≡ get_or ls n v → HasCapacityAt ls n → v.has_capacity ≡ true
  place_at v is h = ap (λ (w : ColumnList). w.has_capacity) is ∙ sym (get_or-map (λ (w : ColumnList). w.has_capacity) ls n v false (place_within h)) ∙ h

  -- capacity was reserved
  pub place_taken : (v : ColumnList) → n < length ls → v.has_capacity ≡ true → HasCapacityAt (set ls n v) n
  place_taken v within capacity =
      ap (λ bs. get_or bs n false) (map-set (λ (w : ColumnList). w.has_capacity) ls n v)
      ∙ get_or-set_same (capacities_in ls) n v.has_capacity false (let e = length-map ls (λ (w : ColumnList). w.has_capacity) in omega (arith, within, e))
      ∙ capacity

pub room_in : (l : ℕ) (next : Option (Option ℕ)) (spare : Bool) (spares : List Bool) → next ≡ Some (Some l) → HasSpares next spare spares → get_or spares l false ≡ true
room_in l next spare spares e h = (subst (λ (o : Option (Option ℕ)). HasSpares o spare spares) e h).1

pub map_map : {X Y Z : Type 0} (f : X → Y) (h : Y → Z) (xs : List X) → map (λ x. h (f x)) xs ≡ map h (map f xs)
map_map f h [] = refl
map_map f h (x ∷ xs) = ap (λ ys. h (f x) ∷ ys) (map_map f h xs)

pub gains-length : {X : Type 0} (before after : List X) (x : X) → Gains before after x → (length before ≤ length after) × (length after ≤ length before + 1)
gains-length before after x h =
    ⊎_elim {C = (length before ≤ length after) × (length after ≤ length before + 1)} (λ a. let e = ap length a.1 in (omega (arith, e), omega (arith, e))) (λ b. let e = ap length b.1 ∙ length_push before x in (omega (arith, e), omega (arith, e))) h

pub gains-extends : (before after : List RollupSeries) (series : RollupSeries) → Gains before after series → Extends before after
gains-extends before after series h = ⊎_elim {C = Extends before after} (λ a. ([], a.1 ∙ sym (append-nil before))) (λ b. (series ∷ [], b.1)) h

pub gains-distinct : {X : Type 0} (before after : List X) (x : X) → Gains before after x → AllDistinct before → AllDistinct after
gains-distinct before after x h d =
    ⊎_elim {C = AllDistinct after} (λ a. subst AllDistinct (sym a.1) d) (λ b. subst AllDistinct (sym b.1) (once_more before x d b.0)) h

pub replicate_push : {X : Type 0} (n : ℕ) (x : X) → replicate n x ++ x ∷ [] ≡ replicate (n + 1) x
replicate_push zero x = refl
replicate_push (suc n) x = ap (λ xs. x ∷ xs) (replicate_push n x) ∙ ap (λ k. replicate k x) (let e : suc (n + 1) ≡ suc n + 1 = omega arith in e)

-- ---- the invariant

module _ (rollup_series : List RollupSeries) (os : List (Option ℕ)) (ms : List (List ℕ)) (next : Option (Option ℕ)) (spare : Bool) (spares : List Bool) (kept : IsRollup rollup_series os ms next spare spares) where
  -- the rollup series of a column is there
  pub rollup_series_inside : (n l : ℕ) → slice_get os n ≡ Some (Some l) → l < length rollup_series
  rollup_series_inside n l at =
      let there : Among n (get_or ms l []) = subst (Among n) (sym (kept.grouped l)) (numbers_there (is_of_rollup_series l) os n (Some l) at (same_number l)) in
      let w = members_within ms l n there in
      omega (arith, w, kept.each)

  -- a column of no rollup series is created
  pub made_apart : (os' : List (Option ℕ)) (next' : Option (Option ℕ)) (spare' : Bool) (spares' : List Bool) → os' ≡ os ++ None ∷ [] → next' ≡ None → IsRollup rollup_series os' ms next' spare' spares'
  made_apart os' next' spare' spares' e none = record {
    once = kept.once;
    each = kept.each;
    grouped = λ l. kept.grouped l ∙ sym (append-nil (numbers_where (is_of_rollup_series l) os)) ∙ sym (numbers_where-push (is_of_rollup_series l) os None) ∙ ap (numbers_where (is_of_rollup_series l)) (sym e);
    capacity = subst (λ (o : Option (Option ℕ)). HasSpares o spare' spares') (sym none) tt;
  }

  -- one of a rollup series is
  pub made_in : (n : ℕ) → n < length ms → (os' : List (Option ℕ)) (ms' : List (List ℕ)) (next' : Option (Option ℕ)) (spare' : Bool) (spares' : List Bool) → os' ≡ os ++ Some n ∷ []
      → ms' ≡ set ms n (get_or ms n [] ++ length os ∷ []) → next' ≡ None → IsRollup rollup_series os' ms' next' spare' spares'
  made_in n within os' ms' next' spare' spares' e f none = record {
    once = kept.once;
    each = ap length f ∙ length-set ms n (get_or ms n [] ++ length os ∷ []) ∙ kept.each;
    grouped = λ l. ap (λ (xs : List (List ℕ)). get_or xs l []) f ∙ grown_list ms n (length os) within l (n == l) refl
        ∙ ap (λ ns. ns ++ cond (n == l) (length os ∷ []) []) (kept.grouped l) ∙ sym (numbers_where-push (is_of_rollup_series l) os (Some n)) ∙ ap (numbers_where (is_of_rollup_series l)) (sym e);
    capacity = subst (λ (o : Option (Option ℕ)). HasSpares o spare' spares') (sym none) tt;
  }

-- ---- a column is prepared, or none is

pub columns_kept : (ls : List RollupSeries) (os os' : List (Option ℕ)) (ms : List (List ℕ)) (next next' : Option (Option ℕ)) (spare spare' : Bool) (spares spares' : List Bool) → IsRollup ls os ms next spare spares → os' ≡ os → HasSpares next' spare' spares'
    → IsRollup ls os' ms next' spare' spares'
columns_kept ls os os' ms next next' spare spare' spares spares' r e capacity = record { once = r.once; each = r.each; grouped = λ l. r.grouped l ∙ ap (numbers_where (is_of_rollup_series l)) (sym e); capacity = capacity }

-- a rollup series may have been created
pub lists_kept : (before after : Grid CellParts) (lists lists' : List ColumnList) (os os' : List (Option ℕ)) (next next' : Option (Option ℕ)) (spare spare' : Bool) (spares : List Bool) → IsRollup before.rollup_series os (lists_in lists) next spare spares → os' ≡ os
    → KeepsLists before lists after lists' → HasSpares next' spare' (capacities_in lists') → IsRollup after.rollup_series os' (lists_in lists') next' spare' (capacities_in lists')
lists_kept before after lists lists' os os' next next' spare spare' spares r e k capacity = record {
  once = k.once r.once;
  each = length-map lists' (λ (l : ColumnList). l.items) ∙ k.each;
  grouped = λ l. k.columns l ∙ r.grouped l ∙ ap (numbers_where (is_of_rollup_series l)) (sym e);
  capacity = capacity;
}

pub spare_from : (len capacity : ℕ) → len + 1 ≤ capacity → nat_lt len capacity ≡ true
spare_from len capacity room = grind arith
