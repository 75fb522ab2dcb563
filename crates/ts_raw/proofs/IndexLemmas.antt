-- Parts of an index, and the names that they represent.
use Rattle.std.proofs.Common.{◌≡◌, ℕ, ◌<◌, true, false, nat_eq, List, [], length, map, get_or, refl, sym, ◌∙◌, ap, subst, eq-eqb, eqb-true}
use Rattle.std.proofs.lemmas.Option.{slice_get-get_or, get_or_from_slice_get}
use Rattle.std.specs.Cmp.Derive.{both_true}
use Rattle.std.proofs.lemmas.Bool.{and_parts, false_from_ne_true}
use Rattle.ts_core.specs.lists.Members.{Among}
use Rattle.ts_core.specs.facts.Facts.{Text, Series, Column, is_of, same_text}
use Rattle.ts_core.proofs.facts.Ids.{same_text-eq}
use Rattle.ts_core.proofs.lists.Comparisons.{same_text-from_eq, same_bool}
use Rattle.ts_raw.specs.FieldKeys.{FieldKey, field_key}
use Rattle.ts_raw.specs.ColumnTables.{ColumnNumbers, is_of_field}
use Rattle.ts_raw.specs.Indexed.{IsSoundIndex, no_series, column_in}
use Rattle.ts_raw.specs.IndexParts.{no_field, column_named, HasSeriesAndField, index_by_numbers, IsIndexOfParts}
use Rattle.ts_core.specs.lists.Numbered.{IsAt, numbers_where, numbers_where_from}
use Rattle.ts_core.proofs.lists.MembersLemmas.{Among-map, map_back}
use Rattle.ts_core.proofs.lists.NumberedLemmas.{at_among, among_at, at_within, same_place, AllDistinct-map, numbers_from-map, numbers_from-none}

none_pass : {X : Type 0} (n : ℕ) (xs : List X) → numbers_where_from (λ x. false) n xs ≡ []
none_pass n xs = numbers_from-none (λ x. false) n xs (λ x a. refl)

-- the measurement of a series by its number
pub measurement_of : (series : List Series) (s : ℕ) (key : Series) (m : Text) → IsAt series s key → m ≡ key.measurement → (get_or series s no_series).measurement ≡ m
measurement_of series s key m at e = ap (λ (r : Series). r.measurement) (get_or_from_slice_get series s key no_series at) ∙ sym e

module _ (series : List Series) (fields : List FieldKey) (t : ColumnNumbers) (is : IsIndexOfParts series fields t) where
  pub among_named : (x : ℕ × ℕ) → Among x t.columns → HasSeriesAndField series fields x
  among_named x a = let at = among_at t.columns x a in is.named at.0 x at.1

  -- other numbers are other names
  pub named_apart : (x y : ℕ × ℕ) → HasSeriesAndField series fields x → HasSeriesAndField series fields y → column_named series fields x ≡ column_named series fields y → x ≡ y
  named_apart x y s u e =
      let same_series : get_or series x.0 no_series ≡ get_or series y.0 no_series = ap (λ (c : Column). c.series) e in
      let same_field : (get_or fields x.1 no_field).field ≡ (get_or fields y.1 no_field).field = ap (λ (c : Column). c.field) e in
      let same_measurement : (get_or fields x.1 no_field).measurement ≡ (get_or fields y.1 no_field).measurement =
      sym s.together ∙ ap (λ (r : Series). r.measurement) same_series ∙ u.together in
      let same_key : get_or fields x.1 no_field ≡ get_or fields y.1 no_field = λ i. record { measurement = same_measurement i; field = same_field i } in
      let first : x.0 ≡ y.0 =
      same_place series no_series x.0 y.0 is.series_once s.series_there u.series_there same_series in
      let second : x.1 ≡ y.1 = same_place fields no_field x.1 y.1 is.fields_once s.field_there u.field_there same_key in
      λ i. (first i, second i)

  pub index_sound : IsSoundIndex (index_by_numbers series fields t)
  index_sound = record {
    series_once = is.series_once;
    columns_once = AllDistinct-map (column_named series fields) t.columns is.columns_once (λ x y a b e. named_apart x y (among_named x a) (among_named y b) e);
    registered = λ c a.
        let x = map_back (column_named series fields) t.columns c a in
        let there = (among_named x.0 x.1).series_there in
        subst (λ (d : Column). Among d.series series) x.2 (at_among series x.0.0 (get_or series x.0.0 no_series) (slice_get-get_or series x.0.0 no_series there));
  }

  -- ---- a series and a field by name

  module _ (s : ℕ) (m field : Text) (there : s < length series) (of : (get_or series s no_series).measurement ≡ m) where
    pub name_is : (f : ℕ) → IsAt fields f (field_key m field) → column_named series fields (s, f) ≡ column_in (index_by_numbers series fields t) s field
    name_is f at =
        ap (λ (k : FieldKey). let c : Column = record { series = get_or series s no_series; field = k.field } in c) (get_or_from_slice_get fields f (field_key m field) no_field at)

    pub both_named : (f : ℕ) → IsAt fields f (field_key m field) → HasSeriesAndField series fields (s, f)
    both_named f at = record {
      series_there = there;
      field_there = at_within fields f (field_key m field) at;
      together = of ∙ sym (ap (λ (k : FieldKey). k.measurement) (get_or_from_slice_get fields f (field_key m field) no_field at));
    }

    -- a column of a field that isn't there
    pub no_column_of : (Among (field_key m field) fields → ⊥) → Among (column_in (index_by_numbers series fields t) s field) (map (column_named series fields) t.columns) → ⊥
    no_column_of absent a =
        let x = map_back (column_named series fields) t.columns (column_in (index_by_numbers series fields t) s field) a in
        let named = among_named x.0 x.1 in
        let measurement : (get_or fields x.0.1 no_field).measurement ≡ m = sym named.together ∙ ap (λ (c : Column). c.series.measurement) x.2 ∙ of in
        let name : (get_or fields x.0.1 no_field).field ≡ field = ap (λ (c : Column). c.field) x.2 in
        let key : get_or fields x.0.1 no_field ≡ field_key m field = λ i. record { measurement = measurement i; field = name i } in
        absent (subst (λ (k : FieldKey). Among k fields) key (at_among fields x.0.1 (get_or fields x.0.1 no_field) (slice_get-get_or fields x.0.1 no_field named.field_there)))

    -- a column that isn't among the numbers
    pub no_column_at : (f : ℕ) → IsAt fields f (field_key m field) → (Among (s, f) t.columns → ⊥)
        → Among (column_in (index_by_numbers series fields t) s field) (map (column_named series fields) t.columns) → ⊥
    no_column_at f at absent a =
        let x = map_back (column_named series fields) t.columns (column_in (index_by_numbers series fields t) s field) a in
        absent (subst (λ y. Among y t.columns) (named_apart x.0 (s, f) (among_named x.0 x.1) (both_named f at) (x.2 ∙ sym (name_is f at))) x.1)

    -- and back
    pub no_numbers : (f : ℕ) → IsAt fields f (field_key m field)
        → (Among (column_in (index_by_numbers series fields t) s field) (map (column_named series fields) t.columns) → ⊥) → Among (s, f) t.columns → ⊥
    no_numbers f at absent a =
        absent (subst (λ (c : Column). Among c (map (column_named series fields) t.columns)) (name_is f at) (Among-map (column_named series fields) (s, f) t.columns a))

  -- ---- the columns of a measurement and a field

  pub asked_key : (m field : Text) (x : ℕ × ℕ) → HasSeriesAndField series fields x → is_of m field (column_named series fields x) ≡ true → get_or fields x.1 no_field ≡ field_key m field
  asked_key m field x named h =
      let s = and_parts (same_text (get_or series x.0 no_series).measurement m) (same_text (get_or fields x.1 no_field).field field) h in
      let measurement = sym named.together ∙ same_text-eq (get_or series x.0 no_series).measurement m s.0 in
      let name = same_text-eq (get_or fields x.1 no_field).field field s.1 in
      λ i. record { measurement = measurement i; field = name i }

  pub numbers_of_field : (m field : Text) (f : ℕ) → IsAt fields f (field_key m field)
      → numbers_where (is_of_field f) t.columns ≡ numbers_where (is_of m field) (map (column_named series fields) t.columns)
  numbers_of_field m field f at = sym (numbers_from-map (is_of m field) (column_named series fields) (is_of_field f) 0 t.columns alike)
    where
      alike : (x : ℕ × ℕ) → Among x t.columns → is_of m field (column_named series fields x) ≡ is_of_field f x
      alike x a =
          let named = among_named x a in
          let key : get_or fields f no_field ≡ field_key m field = get_or_from_slice_get fields f (field_key m field) no_field at in
          same_bool (is_of m field (column_named series fields x)) (nat_eq x.1 f)
          (λ h. eq-eqb x.1 f (same_place fields no_field x.1 f is.fields_once named.field_there (at_within fields f (field_key m field) at) (asked_key m field x named h ∙ sym key)))
          (λ h.
          let name : get_or fields x.1 no_field ≡ field_key m field = ap (λ n. get_or fields n no_field) (eqb-true x.1 f h) ∙ key in
          both_true (same_text-from_eq (get_or series x.0 no_series).measurement m (named.together ∙ ap (λ (k : FieldKey). k.measurement) name))
          (same_text-from_eq (get_or fields x.1 no_field).field field (ap (λ (k : FieldKey). k.field) name)))

  pub numbers_of_none : (m field : Text) → (Among (field_key m field) fields → ⊥) → numbers_where (is_of m field) (map (column_named series fields) t.columns) ≡ []
  numbers_of_none m field absent =
      numbers_from-map (is_of m field) (column_named series fields) (λ x. false) 0 t.columns other ∙ none_pass 0 t.columns
    where
      other : (x : ℕ × ℕ) → Among x t.columns → is_of m field (column_named series fields x) ≡ false
      other x a =
          let named = among_named x a in
          false_from_ne_true (is_of m field (column_named series fields x))
          (λ h. absent (subst (λ (k : FieldKey). Among k fields) (asked_key m field x named h) (at_among fields x.1 (get_or fields x.1 no_field) (slice_get-get_or fields x.1 no_field named.field_there))))
