-- Steps of an index: one more series, one more field, one more column.
use Rattle.std.proofs.Common.{◌≡◌, ℕ, ◌+◌, ◌<◌, ◌≤◌, List, [], ◌∷◌, ◌++◌, length, map, get_or, sym, ◌∙◌, ap, subst, ◌⊎◌, ⊎_elim, arith}
use Rattle.std.proofs.lemmas.List.{length_push, length-map, get_or_append_left, map-append}
use Rattle.ts_core.specs.lists.Members.{Among, AllDistinct}
use Rattle.ts_core.specs.facts.Facts.{Text, Series, Column}
use Rattle.ts_core.proofs.lists.MembersLemmas.{Among-append}
use Rattle.ts_raw.specs.FieldKeys.{FieldKey, field_key}
use Rattle.ts_raw.specs.ColumnTables.{ColumnNumbers}
use Rattle.ts_raw.specs.Indexed.{no_series, column_in}
use Rattle.ts_raw.specs.IndexParts.{no_field, column_named, HasSeriesAndField, index_by_numbers, IsIndexOfParts}
use Rattle.ts_core.specs.lists.Numbered.{IsAt, Gains}
use Rattle.ts_raw.proofs.IndexLemmas.{among_named, name_is, both_named, no_numbers}
use Rattle.ts_core.proofs.lists.NumberedLemmas.{at_among, at_end, at_within, once_more, map_alike}

module _ {X : Type 0} (xs ys : List X) (x : X) where
  pub gains_length : Gains xs ys x → (length xs ≤ length ys) × (length ys ≤ length xs + 1)
  gains_length h =
      ⊎_elim {C = (length xs ≤ length ys) × (length ys ≤ length xs + 1)}
      (λ p. subst (λ (zs : List X). (length xs ≤ length zs) × (length zs ≤ length xs + 1)) (sym p.1) (omega arith, omega arith))
      (λ p.
      subst (λ (zs : List X). (length xs ≤ length zs) × (length zs ≤ length xs + 1)) (sym p.1)
      (omega (arith, length_push xs x), omega (arith, length_push xs x))) h

  pub gains_same : Gains xs ys x → (d : X) (n : ℕ) → n < length xs → get_or ys n d ≡ get_or xs n d
  gains_same h d n l =
      ⊎_elim {C = get_or ys n d ≡ get_or xs n d} (λ p. ap (λ (zs : List X). get_or zs n d) p.1)
      (λ p. ap (λ (zs : List X). get_or zs n d) p.1 ∙ get_or_append_left xs (x ∷ []) d n l) h

module _ (series series' : List Series) (fields : List FieldKey) (t : ColumnNumbers) (is : IsIndexOfParts series fields t) (key : Series) (more : Gains series series' key) where
  pub index_registers : AllDistinct series' → IsIndexOfParts series' fields t
  index_registers once = record {
    series_once = once;
    fields_once = is.fields_once;
    columns_once = is.columns_once;
    spare = is.spare;
    named = λ n x at.
        let old = is.named n x at in
        let longer = gains_length series series' key more in
        record {
          series_there = omega (arith, old.series_there, longer.0);
          field_there = old.field_there;
          together = ap (λ (s : Series). s.measurement) (gains_same series series' key more no_series x.0 old.series_there) ∙ old.together;
        };
  }

  pub columns_registered : map (column_named series' fields) t.columns ≡ map (column_named series fields) t.columns
  columns_registered =
      map_alike (column_named series' fields) (column_named series fields) t.columns
      (λ x a.
      let old = among_named series fields t is x a in
      ap (λ (s : Series). let c : Column = record { series = s; field = (get_or fields x.1 no_field).field } in c) (gains_same series series' key more no_series x.0 old.series_there))

module _ (series : List Series) (fields fields' : List FieldKey) (t t' : ColumnNumbers) (is : IsIndexOfParts series fields t) (key : FieldKey) (more : Gains fields fields' key) where
  pub named_still : (x : ℕ × ℕ) → HasSeriesAndField series fields x → HasSeriesAndField series fields' x
  named_still x old =
      let longer = gains_length fields fields' key more in
      record {
        series_there = old.series_there;
        field_there = omega (arith, old.field_there, longer.0);
        together = old.together ∙ sym (ap (λ (k : FieldKey). k.measurement) (gains_same fields fields' key more no_field x.1 old.field_there));
      }

  pub index_names : AllDistinct fields' → t'.columns ≡ t.columns → length fields < t'.fields → IsIndexOfParts series fields' t'
  index_names once same spare = record {
    series_once = is.series_once;
    fields_once = once;
    columns_once = subst (λ (cs : List (ℕ × ℕ)). AllDistinct cs) (sym same) is.columns_once;
    spare = let longer = gains_length fields fields' key more in omega (arith, spare, longer.1);
    named = λ n x at. named_still x (is.named n x (subst (λ (cs : List (ℕ × ℕ)). IsAt cs n x) same at));
  }

  pub columns_still : map (column_named series fields') t.columns ≡ map (column_named series fields) t.columns
  columns_still =
      map_alike (column_named series fields') (column_named series fields) t.columns
      (λ x a.
      let old = among_named series fields t is x a in
      ap (λ (k : FieldKey). let c : Column = record { series = get_or series x.0 no_series; field = k.field } in c) (gains_same fields fields' key more no_field x.1 old.field_there))

module _ (series : List Series) (fields : List FieldKey) (t t' : ColumnNumbers) (is : IsIndexOfParts series fields t) where
  -- more room changes nothing
  pub index_can_grow : t'.columns ≡ t.columns → t.fields ≤ t'.fields → IsIndexOfParts series fields t'
  index_can_grow same spare = record {
    series_once = is.series_once;
    fields_once = is.fields_once;
    columns_once = subst (λ (cs : List (ℕ × ℕ)). AllDistinct cs) (sym same) is.columns_once;
    spare = omega (arith, is.spare, spare);
    named = λ n x at. is.named n x (subst (λ (cs : List (ℕ × ℕ)). IsAt cs n x) same at);
  }

  module _ (x : ℕ × ℕ) (named : HasSeriesAndField series fields x) (absent : Among x t.columns → ⊥) (pushed : t'.columns ≡ t.columns ++ x ∷ []) where
    pub index_pushes : t'.fields ≡ t.fields → IsIndexOfParts series fields t'
    index_pushes spare = record {
      series_once = is.series_once;
      fields_once = is.fields_once;
      columns_once = subst (λ (cs : List (ℕ × ℕ)). AllDistinct cs) (sym pushed) (once_more t.columns x is.columns_once absent);
      spare = omega (arith, is.spare, spare);
      named = λ n y at.
          ⊎_elim {C = HasSeriesAndField series fields y} (λ a. among_named series fields t is y a)
          (λ a. ⊎_elim {C = HasSeriesAndField series fields y} (λ (e : y ≡ x). subst (λ z. HasSeriesAndField series fields z) (sym e) named) (λ k. absurd k) a)
          (Among-append y t.columns (x ∷ []) (subst (λ (cs : List (ℕ × ℕ)). Among y cs) pushed (at_among t'.columns n y at)));
    }

-- ---- a column is created: there is capacity for its field, and the field has a number

pub record IsMaking (series : List Series) (fields fields' : List FieldKey) (t t' : ColumnNumbers) (s : ℕ) (m field : Text) (f : ℕ) : Type 0 where
  pub is : IsIndexOfParts series fields t
  pub there : s < length series
  pub of : (get_or series s no_series).measurement ≡ m
  pub same : t'.columns ≡ t.columns
  pub spare : length fields < t'.fields
  pub more : Gains fields fields' (field_key m field)
  pub once : AllDistinct fields'
  pub at : IsAt fields' f (field_key m field)

module _ (series : List Series) (fields fields' : List FieldKey) (t t' : ColumnNumbers) (s : ℕ) (m field : Text) (f : ℕ) (h : IsMaking series fields fields' t t' s m field f) where
  made_index : IsIndexOfParts series fields' t'
  made_index = index_names series fields fields' t t' h.is (field_key m field) h.more h.once h.same h.spare

  made_columns : map (column_named series fields') t'.columns ≡ map (column_named series fields) t.columns
  made_columns = ap (λ (cs : List (ℕ × ℕ)). map (column_named series fields') cs) h.same ∙ columns_still series fields fields' t t' h.is (field_key m field) h.more

  pub made_room : f < t'.fields
  made_room =
      let longer = gains_length fields fields' (field_key m field) h.more in
      let within = at_within fields' f (field_key m field) h.at in
      omega (arith, h.spare, longer.1, within)

  pub made_absent : (Among (column_in (index_by_numbers series fields t) s field) (map (column_named series fields) t.columns) → ⊥) → Among (s, f) t'.columns → ⊥
  made_absent absent =
      no_numbers series fields' t' made_index s m field h.there h.of f h.at
      (subst (λ (cs : List Column). Among (column_in (index_by_numbers series fields t) s field) cs → ⊥) (sym made_columns) absent)

  module _ (t'' : ColumnNumbers) where
    pub made_more : t''.columns ≡ t'.columns ++ (s, f) ∷ [] → map (column_named series fields') t''.columns ≡ map (column_named series fields) t.columns ++ column_in (index_by_numbers series fields t) s field ∷ []
    made_more pushed =
        ap (λ (cs : List (ℕ × ℕ)). map (column_named series fields') cs) pushed ∙ map-append (column_named series fields') t'.columns ((s, f) ∷ [])
        ∙ ap (λ (cs : List Column). cs ++ column_named series fields' (s, f) ∷ []) made_columns
        ∙ ap (λ (c : Column). map (column_named series fields) t.columns ++ c ∷ []) (name_is series fields' t' made_index s m field h.there h.of f h.at)

    pub made_same : t''.columns ≡ t'.columns → map (column_named series fields') t''.columns ≡ map (column_named series fields) t.columns
    made_same kept = ap (λ (cs : List (ℕ × ℕ)). map (column_named series fields') cs) kept ∙ made_columns

    pub made_pushes : (Among (column_in (index_by_numbers series fields t) s field) (map (column_named series fields) t.columns) → ⊥)
        → (t''.columns ≡ t'.columns ++ (s, f) ∷ []) ⊎ (t''.columns ≡ t'.columns) → t''.fields ≡ t'.fields → IsIndexOfParts series fields' t''
    made_pushes absent pushed spare =
        ⊎_elim {C = IsIndexOfParts series fields' t''}
        (λ p. index_pushes series fields' t' t'' made_index (s, f) (both_named series fields' t' made_index s m field h.there h.of f h.at) (made_absent absent) p spare)
        (λ kept. index_can_grow series fields' t' t'' made_index kept (omega (arith, spare))) pushed

    pub made_at : (n : ℕ) → n ≡ length t'.columns → t''.columns ≡ t'.columns ++ (s, f) ∷ []
        → IsAt (map (column_named series fields') t''.columns) n (column_in (index_by_numbers series fields t) s field)
    made_at n e pushed =
        let index : n ≡ length (map (column_named series fields) t.columns) = e ∙ ap (λ (cs : List (ℕ × ℕ)). length cs) h.same ∙ sym (length-map t.columns (column_named series fields)) in
        subst (λ (cs : List Column). IsAt cs n (column_in (index_by_numbers series fields t) s field)) (sym (made_more pushed))
        (subst (λ k. IsAt (map (column_named series fields) t.columns ++ column_in (index_by_numbers series fields t) s field ∷ []) k (column_in (index_by_numbers series fields t) s field)) (sym index)
        (at_end (map (column_named series fields) t.columns) (column_in (index_by_numbers series fields t) s field)))
