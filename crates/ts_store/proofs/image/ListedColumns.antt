-- Lists in the order of distinct keys, and lists of the columns of series: appending a column to the list of its
-- series, and sorting each list.
use Rattle.std.proofs.Common.{◌≡◌, ◌≢◌, suc, ◌+◌, Bool, true, false, List, [], ◌∷◌, map, get_or, refl, sym, ◌∙◌, ap, subst, inl, inr, arith, true≢false, Ordering, Less, Equal, Greater, is_lt, is_eq, ◌⊎◌, ⊎_elim, ℕ, zero, ◌<◌, ◌≤◌, ◌++◌, length, take, drop, set, IsPermutation}
use Rattle.std.specs.Prelude.{IsPermutation, String}
use Rattle.std.specs.Ordering.{ordering_reverse, ordering_then}
use Rattle.std.specs.Cmp.Lexicographic.{slice_cmp}
use Rattle.std.specs.String.{string_cmp}
use Rattle.std.specs.List.{AllByRecursion, IsDistinct}
use Rattle.std.specs.List.Sorted.{IsSortedBy, IsSortedByKey}
use Rattle.std.specs.Cmp.{IsTotalOrder, IsStrictWeakOrder}
use Rattle.std.specs.Fn.{Called, ComparesAs}
use Rattle.std.proofs.lemmas.Cmp.{eq_by_cmp_equiv, nat_list_cmp_total}
use Rattle.std.proofs.lemmas.Fn.{always_returns_same}
use Rattle.std.proofs.lemmas.List.Sorted.{IsPermutation-map, ranks_by, IsPermutation-sym}
use Rattle.std.proofs.lemmas.Map.Keys.{IsDistinct-head, IsDistinct-tail, IsDistinct-cons, IsDistinct-IsPermutation}
use Rattle.std.proofs.lemmas.Map.Lookups.{CmpEqualImpliesEq, exact_bytes}
use denote.Param.Members.{Mut}
use denote.Ref.{Bor}
use Rattle.ts_core.specs.lists.Members.{Among, AllDistinct}
use Rattle.ts_core.specs.facts.Facts.{tag_cmp, Series, Column, text_cmp, series_cmp}
use Rattle.ts_core.specs.text.Texts.{owned_pairs}
use Rattle.ts_core.proofs.facts.Ids.{equal_of, series_total, exact_series}
use Rattle.ts_store.specs.image.SavedContent.{AreRising, SavedColumn, SavedSeries, saved_field, saved_key, SavesColumns, SavesSeries}
use Rattle.std.proofs.lemmas.Option.{slice_get-get_or, same_Some, none-some}
use Rattle.std.proofs.Math.Seq.{map-set_same}
use Rattle.std.proofs.lemmas.List.{map-append, take_all}
use Rattle.ts_core.specs.lists.Numbered.{IsAt}
use Rattle.ts_core.proofs.lists.MembersLemmas.{Among-left, Among-right, Among-append, map_back}
use Rattle.ts_core.proofs.lists.NumberedLemmas.{at_within, at_among, same_at, once_more, same_place}
use Rattle.ts_core.proofs.lists.Permutations.{moved_all, moved_among}
use Rattle.ts_cells.proofs.GridMoves.{all_at}
use Rattle.ts_raw.specs.Indexed.{Indexed}
use Rattle.ts_store.specs.image.ColumnsListed.{without_columns, with_saved_column, ListsFirst, ListsColumns}

-- ---- tags in order

-- owned tags are in the order of their texts
pub tags_ordered : {A : Type 0} (xs ys : List (String A × String A)) → slice_cmp (λ x y. ordering_then (string_cmp x.0 y.0) (string_cmp x.1 y.1)) xs ys ≡ slice_cmp tag_cmp (owned_pairs xs) (owned_pairs ys)
tags_ordered [] [] = refl
tags_ordered [] (y ∷ ys) = refl
tags_ordered (x ∷ xs) [] = refl
tags_ordered (x ∷ xs) (y ∷ ys) = ap (ordering_then (ordering_then (string_cmp x.0 y.0) (string_cmp x.1 y.1))) (tags_ordered xs ys)

-- ---- what a sort by keys gives

module _ {K : Type 0} {R : K → K → Ordering} (o : IsTotalOrder R) {X : Type 0} (key : X → K) where
  -- where each call of the closure compares the keys
  pub sorted_by : {F : Type 0} {g : Mut F (Bor X × (Bor X × Unit {0})) Ordering} {f : F} (xs : List X)
      → ((lt : X → X → Bool) → IsStrictWeakOrder lt → ComparesAs g lt f → IsSortedBy lt xs)
      → ((a : Bor X × (Bor X × Unit {0})) (r : Ordering) (f' : F) → Called g f a r f' → (r ≡ R (key a.0.now) (key a.1.0.now)) × (f' ≡ f)) → IsSortedByKey key R xs
  sorted_by {g = g} {f = f} xs up h = up (λ x y. is_lt (R (key x) (key y))) (ranks_by o key)
      (always_returns_same g (λ a r. is_lt r ≡ is_lt (R (key a.0.now) (key a.1.0.now))) f (λ a r f' k. (ap is_lt (h a r f' k).0, (h a r f' k).1)))

module _ {K : Type 0} {R : K → K → Ordering} (o : IsTotalOrder R) (exact : CmpEqualImpliesEq R) where
  apart : (x y : K) → x ≢ y → is_eq (R x y) ≡ false
  apart x y n = elim (is_eq (R x y)) as (λ b. is_eq (R x y) ≡ b → b ≡ false) [ true ↦ λ e. absurd (n (exact x y (equal_of (R x y) e))) | false ↦ λ e. refl ] refl

  all_apart : (x : K) (ys : List K) → (Among x ys → ⊥) → AllByRecursion (λ y. is_eq (R x y) ≡ false) ys
  all_apart x [] n = tt
  all_apart x (y ∷ ys) n = (apart x y (λ e. n (inl e)), all_apart x ys (λ a. n (inr a)))

  to_distinct : (xs : List K) → AllDistinct xs → IsDistinct (λ x y. is_eq (R x y)) xs
  unfolding IsDistinct
  to_distinct [] d = tt
  to_distinct (x ∷ xs) d = IsDistinct-cons (λ x y. is_eq (R x y)) x xs (all_apart x xs d.0) (to_distinct xs d.1)

  -- neighbours that differ, the later of which isn't less
  before : (x y : K) → is_lt (R y x) ≡ false → is_eq (R x y) ≡ false → is_lt (R x y) ≡ true
  before x y l e =
      elim (R x y) as (λ r. R x y ≡ r → is_eq r ≡ false → is_lt r ≡ true) [
        | Less ↦ λ q n. refl
        | Equal ↦ λ q n. absurd (true≢false n)
        | Greater ↦ λ q n. absurd (true≢false (sym (ap is_lt (o.antisymm y x ∙ ap ordering_reverse q)) ∙ l))
      ] refl e

  rising_of : {X : Type 0} (key : X → K) (xs : List X) → IsDistinct (λ x y. is_eq (R x y)) (map key xs) → IsSortedByKey key R xs → AreRising R (map key xs)
  rising_of key [] d s = tt
  rising_of key (x ∷ []) d s = tt
  rising_of key (x ∷ y ∷ ys) d s = (
    before (key x) (key y) (s 0 x (omega arith) (omega arith)) (IsDistinct-head (λ x y. is_eq (R x y)) (key x) (map key (y ∷ ys)) d).0,
    rising_of key (y ∷ ys) (IsDistinct-tail (λ x y. is_eq (R x y)) (key x) (map key (y ∷ ys)) d) (λ k e l h. let m : suc k + 1 ≡ suc (k + 1) = omega arith in subst (λ j. is_lt (R (key (get_or (x ∷ y ∷ ys) j e)) (key (get_or (y ∷ ys) k e))) ≡ false) m (s (suc k) e (omega arith) (omega arith))),
  )

  -- a sorted list whose keys were distinct before
  pub rising_sorted : {X : Type 0} (key : X → K) (xs ys : List X) → AllDistinct (map key xs) → IsPermutation xs ys → IsSortedByKey key R ys → AreRising R (map key ys)
  rising_sorted key xs ys d p s =
      rising_of key ys
      (IsDistinct-IsPermutation (λ x y. is_eq (R x y)) ((eq_by_cmp_equiv o).symm) (map key xs) (map key ys) (IsPermutation-map key xs ys p) (to_distinct (map key xs) d)) s

-- ---- lists without columns

pub keys_bare : (ss : List Series) → map saved_key (map without_columns ss) ≡ ss
keys_bare [] = refl
keys_bare (s ∷ ss) = ap (λ (xs : List Series). s ∷ xs) (keys_bare ss)

pub lists_bare : (columns : List Column) (ss : List Series) → AllByRecursion (ListsFirst columns 0) (map without_columns ss)
lists_bare columns [] = tt
lists_bare columns (s ∷ ss) = (record { once = tt; each = λ x. (λ a. absurd a, λ h. absurd (let l : x.number < 0 = h.0 in omega arith)) }, lists_bare columns ss)

below_or : (k n : ℕ) → k < n + 1 → (k < n) ⊎ (k ≡ n)
below_or k n l = grind arith

-- ---- one more column

-- an item of distinct ones has one index
pub one_index : {X : Type 0} (xs : List X) (i j : ℕ) (x : X) → AllDistinct xs → IsAt xs i x → IsAt xs j x → i ≡ j
one_index xs i j x once a b =
    let l = at_within xs i x a in
    let k = at_within xs j x b in
    same_place xs x i j once l k (same_Some _ x (sym (slice_get-get_or xs i x l) ∙ a) ∙ sym (same_Some _ x (sym (slice_get-get_or xs j x k) ∙ b)))

module _ (columns : List Column) (once : AllDistinct columns) (n : ℕ) (c : Column) (at : IsAt columns n c) where
  abbrev here : SavedColumn
  here = record { field = c.field; number = n }

  -- in its own series
  own_more : (s : SavedSeries) → s.series ≡ c.series → ListsFirst columns n s → ListsFirst columns (n + 1) (with_saved_column s here)
  own_more s e h = record {
    once =
        subst AllDistinct (sym (map-append saved_field s.columns (here ∷ [])))
        (once_more (map saved_field s.columns) c.field h.once
        (λ a.
        let x = map_back saved_field s.columns c.field a in
        let is = (h.each x.0).0 x.1 in
        let same : record { series = s.series; field = x.0.field } ≡ c = λ i. record { series = e i; field = x.2 i } in
        let index_is : x.0.number ≡ n = one_index columns x.0.number n c once (subst (IsAt columns x.0.number) same is.1) at in
        let low = is.0 in
        absurd (omega (arith, index_is, low))));
    each = λ x. (
      λ a. ⊎_elim {C = (x.number < n + 1) × IsAt columns x.number (record { series = s.series; field = x.field })}
          (λ k. let is = (h.each x).0 k in let low = is.0 in (omega (arith, low), is.1))
          (λ k. ⊎_elim {C = (x.number < n + 1) × IsAt columns x.number (record { series = s.series; field = x.field })}
          (λ q.
          let low : x.number < n + 1 = subst (λ (y : SavedColumn). y.number < n + 1) (sym q) (omega arith) in
          let there : IsAt columns n (record { series = s.series; field = c.field }) = subst (IsAt columns n) (λ i. record { series = sym e i; field = c.field }) at in
          (low, subst (λ (y : SavedColumn). IsAt columns y.number (record { series = s.series; field = y.field })) (sym q) there))
          (λ z. absurd z) k)
          (Among-append x s.columns (here ∷ []) a),
      λ k. ⊎_elim {C = Among x (s.columns ++ here ∷ [])}
          (λ l. Among-left x s.columns (here ∷ []) ((h.each x).1 (l, k.1)))
          (λ l.
          let there : IsAt columns n (record { series = s.series; field = x.field }) = subst (λ m. IsAt columns m (record { series = s.series; field = x.field })) l k.1 in
          let same : c ≡ record { series = s.series; field = x.field } = same_at columns n c (record { series = s.series; field = x.field }) at there in
          let is : x ≡ here = λ i. record { field = sym (ap (λ (d : Column). d.field) same) i; number = l i } in
          Among-right x s.columns (here ∷ []) (inl is))
          (below_or x.number n k.0),
    );
  }

  -- in another
  other_more : (s : SavedSeries) → s.series ≢ c.series → ListsFirst columns n s → ListsFirst columns (n + 1) s
  other_more s apart h = record {
    once = h.once;
    each = λ x. (
      λ a. let is = (h.each x).0 a in let low = is.0 in (omega (arith, low), is.1),
      λ k. ⊎_elim {C = Among x s.columns}
          (λ l. (h.each x).1 (l, k.1))
          (λ l.
          let there : IsAt columns n (record { series = s.series; field = x.field }) = subst (λ m. IsAt columns m (record { series = s.series; field = x.field })) l k.1 in
          absurd (apart (sym (ap (λ (d : Column). d.series) (same_at columns n c (record { series = s.series; field = x.field }) at there)))))
          (below_or x.number n k.0),
    );
  }

  others_more : (all : List SavedSeries) → (Among c.series (map saved_key all) → ⊥) → AllByRecursion (ListsFirst columns n) all → AllByRecursion (ListsFirst columns (n + 1)) all
  others_more [] apart h = tt
  others_more (s ∷ all) apart h = (other_more s (λ e. apart (inl (sym e))) h.0, others_more all (λ a. apart (inr a)) h.1)

  pub lists_more : (all : List SavedSeries) (i : ℕ) (s : SavedSeries) → AllDistinct (map saved_key all) → IsAt (map saved_key all) i c.series → s ≡ get_or all i s → AllByRecursion (ListsFirst columns n) all
      → AllByRecursion (ListsFirst columns (n + 1)) (set all i (with_saved_column s here))
  lists_more [] i s d is e h = absurd (none-some c.series is)
  lists_more (x ∷ all) zero s d is e h =
      let key : x.series ≡ c.series = same_Some x.series c.series is in
      (subst (λ y. ListsFirst columns (n + 1) (with_saved_column y here)) (sym e) (own_more x key h.0), others_more all (subst (λ k. Among k (map saved_key all) → ⊥) key d.0) h.1)
  lists_more (x ∷ all) (suc i) s d is e h = (
    other_more x (λ q. d.0 (subst (λ k. Among k (map saved_key all)) (sym q) (at_among (map saved_key all) i c.series is))) h.0,
    lists_more all i s d.1 is e h.1,
  )

-- the keys stay
pub keys_set : (all : List SavedSeries) (i : ℕ) (s t : SavedSeries) → s ≡ get_or all i s → t.series ≡ s.series → map saved_key (set all i t) ≡ map saved_key all
keys_set all i s t e k = map-set_same saved_key all i t s (k ∙ ap saved_key e)

-- the next column of an index
pub list_step : (index : Indexed) (n : ℕ) (all : List SavedSeries) (i id m : ℕ) (s t : SavedSeries) (x : SavedColumn) → AllDistinct index.series → AllDistinct index.columns → n < length index.columns → id ≡ n
    → ((c : Column) → IsAt index.columns id c → IsAt index.series i c.series) → ((c : Column) → IsAt index.columns id c → x.field ≡ c.field) → x.number ≡ id → m ≡ i → s ≡ get_or all m s → t ≡ with_saved_column s x
    → ListsColumns index n all → ListsColumns index (n + 1) (set all m t)
list_step index n all i id m s t x series_once once low e names field number index_is read made h =
    let none : Column = record { series = record { measurement = []; tags = [] }; field = [] } in
    let c : Column = get_or index.columns n none in
    let at : IsAt index.columns n c = slice_get-get_or index.columns n none low in
    let at' : IsAt index.columns id c = subst (λ k. IsAt index.columns k c) (sym e) at in
    let same : x ≡ record { field = c.field; number = n } = λ j. record { field = field c at' j; number = (number ∙ e) j } in
    let made' : t ≡ with_saved_column s (record { field = c.field; number = n }) = made ∙ ap (with_saved_column s) same in
    let there : IsAt (map saved_key all) m c.series = subst (λ ks. IsAt ks m c.series) (sym h.keys) (subst (λ k. IsAt index.series k c.series) (sym index_is) (names c at')) in
    record {
      keys = keys_set all m s t read (ap saved_key made') ∙ h.keys;
      lists =
          subst (λ (u : SavedSeries). AllByRecursion (ListsFirst index.columns (n + 1)) (set all m u)) (sym made')
          (lists_more index.columns once n c at all m s (subst AllDistinct (sym h.keys) series_once) there read h.lists);
    }

-- ---- each list is sorted

-- the list of one series
pub series_sorted : (columns : List Column) (n : ℕ) (s t : SavedSeries) → length columns ≡ n → ListsFirst columns n s → t.series ≡ s.series → IsPermutation s.columns t.columns → IsSortedByKey saved_field text_cmp t.columns → SavesColumns columns t
series_sorted columns n s t len h key p sorted = record {
  rising = rising_sorted nat_list_cmp_total exact_bytes saved_field s.columns t.columns h.once p sorted;
  each = λ x. (
    λ a. subst (λ k. IsAt columns x.number (record { series = k; field = x.field })) (sym key) ((h.each x).0 (moved_among t.columns s.columns x (IsPermutation-sym s.columns t.columns p) a)).1,
    λ k.
        let there : IsAt columns x.number (record { series = s.series; field = x.field }) = subst (λ y. IsAt columns x.number (record { series = y; field = x.field })) key k in
        let low = at_within columns x.number (record { series = s.series; field = x.field }) there in
        moved_among s.columns t.columns x p ((h.each x).1 (omega (arith, low, len), there)),
  );
}

-- the first ones are done, and one more
sorted_next : {X : Type 0} (P : X → Type 0) (xs : List X) (i : ℕ) (x : X) → i < length xs → AllByRecursion P (take i xs) → P x → AllByRecursion P (take (suc i) (set xs i x))
sorted_next P [] i x l h p = absurd (omega (arith, l))
sorted_next P (y ∷ xs) zero x l h p = (p, tt)
sorted_next P (y ∷ xs) (suc i) x l h p = (h.0, sorted_next P xs i x (omega (arith, l)) h.1 p)

pub sorted_more : {X : Type 0} (P : X → Type 0) (xs : List X) (i : ℕ) (x : X) → i < length xs → AllByRecursion P (take i xs) → P x → AllByRecursion P (take (i + 1) (set xs i x))
sorted_more P xs i x l h p = let e : suc i ≡ i + 1 = omega arith in subst (λ n. AllByRecursion P (take n (set xs i x))) e (sorted_next P xs i x l h p)

left_after : {X : Type 0} (P : X → Type 0) (xs : List X) (i : ℕ) (x : X) → AllByRecursion P (drop i xs) → AllByRecursion P (drop (suc i) (set xs i x))
left_after P [] i x h = tt
left_after P (y ∷ xs) zero x h = h.1
left_after P (y ∷ xs) (suc i) x h = left_after P xs i x h

pub left_more : {X : Type 0} (P : X → Type 0) (xs : List X) (i : ℕ) (x : X) → AllByRecursion P (drop i xs) → AllByRecursion P (drop (i + 1) (set xs i x))
left_more P xs i x h = let e : suc i ≡ i + 1 = omega arith in subst (λ n. AllByRecursion P (drop n (set xs i x))) e (left_after P xs i x h)

-- the next one that is left
pub left_next : {X : Type 0} (P : X → Type 0) (xs : List X) (i : ℕ) (x : X) → i < length xs → x ≡ get_or xs i x → AllByRecursion P (drop i xs) → P x
left_next P [] i x l e h = absurd (omega (arith, l))
left_next P (y ∷ xs) zero x l e h = subst P (sym e) h.0
left_next P (y ∷ xs) (suc i) x l e h = left_next P xs i x (omega (arith, l)) e h

-- the item with this index
pub item_has : {X : Type 0} (P : X → Type 0) (xs : List X) (i : ℕ) (x d : X) → i < length xs → x ≡ get_or xs i d → AllByRecursion P xs → P x
item_has P xs i x d l e h = subst P (sym e) (all_at P xs i d l h)

pub all_taken : {X : Type 0} (P : X → Type 0) (xs : List X) (n : ℕ) → length xs ≤ n → AllByRecursion P (take n xs) → AllByRecursion P xs
all_taken P xs n l h = subst (AllByRecursion P) (take_all n xs l) h

-- ---- the whole is sorted

pub series_saved : (series : List Series) (columns : List Column) (xs ys : List SavedSeries) → AllDistinct series → map saved_key xs ≡ series → AllByRecursion (SavesColumns columns) xs → IsPermutation xs ys → IsSortedByKey saved_key series_cmp ys → SavesSeries series columns ys
series_saved series columns xs ys once keys each p sorted =
    let moved : IsPermutation (map saved_key xs) (map saved_key ys) = IsPermutation-map saved_key xs ys p in
    record {
      rising = rising_sorted series_total exact_series saved_key xs ys (subst AllDistinct (sym keys) once) p sorted;
      each = λ s. (
        λ a. subst (λ (ss : List Series). Among s ss) keys (moved_among (map saved_key ys) (map saved_key xs) s (IsPermutation-sym (map saved_key xs) (map saved_key ys) moved) a),
        λ a. moved_among (map saved_key xs) (map saved_key ys) s moved (subst (λ (ss : List Series). Among s ss) (sym keys) a),
      );
      columns = moved_all (SavesColumns columns) xs ys p each;
    }
