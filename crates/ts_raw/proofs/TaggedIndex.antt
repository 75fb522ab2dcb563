-- Columns of an index that have a tag: those found by a walk over its series, sorted.
use Rattle.std.proofs.Common.{◌≡◌, ◌↔◌, ℕ, true, false, cond, List, [], ◌∷◌, map, get_or, refl, sym, ◌∙◌, ap, subst, inl, inr}
use Rattle.std.proofs.lemmas.Option.{get_or_from_slice_get, slice_get-get_or}
use Rattle.std.proofs.lemmas.Bool.{and_parts}
use Rattle.std.specs.Cmp.Derive.{both_true}
use Rattle.ts_core.specs.lists.Members.{Among}
use Rattle.ts_core.specs.facts.Facts.{Text, Series, Column, is_of, same_text}
use Rattle.ts_core.specs.facts.Tags.{value_among, tag_value}
use Rattle.ts_core.specs.lists.Numbered.{IsAt, numbers_where}
use Rattle.ts_core.proofs.facts.Ids.{same_text-eq}
use Rattle.ts_core.proofs.lists.Comparisons.{same_text-from_eq}
use Rattle.ts_core.proofs.lists.MembersLemmas.{at_map_of}
use Rattle.ts_core.proofs.lists.NumberedLemmas.{at_among, at_within, same_place}
use Rattle.ts_core.proofs.lists.Indices.{at_map_back}
use Rattle.ts_raw.specs.FieldKeys.{FieldKey, field_key}
use Rattle.ts_raw.specs.ColumnTables.{ColumnNumbers}
use Rattle.ts_raw.specs.Indexed.{no_series}
use Rattle.ts_raw.specs.IndexParts.{no_field, column_named, HasSeriesAndField, IsIndexOfParts}
use Rattle.ts_raw.specs.TagChains.{AreAmongTagged}
use Rattle.ts_raw.specs.Tagged.{has_tag, is_tagged, IsRisingList, IsTaggedAt, AreTaggedAt}
use Rattle.ts_raw.proofs.IndexLemmas.{asked_key}
use Rattle.ts_raw.proofs.RisingLemmas.{is_numbers_where}

-- a value that isn't empty is that of a tag
pub value_there : (ts : List (Text × Text)) (tag value : Text) → value_among ts tag ≡ value → (value ≡ [] → ⊥) → Among (tag, value) ts
value_there [] tag value h some = absurd (some (sym h))
value_there (t ∷ ts) tag value h some =
    elim (same_text t.0 tag) as (λ b. same_text t.0 tag ≡ b → cond b t.1 (value_among ts tag) ≡ value → Among (tag, value) (t ∷ ts)) [
      | true ↦ λ e q. let k : t.0 ≡ tag = same_text-eq t.0 tag e in inl (λ i. (sym k i, sym q i))
      | false ↦ λ e q. inr (value_there ts tag value q some)
    ] refl h

module _ (series : List Series) (fields : List FieldKey) (t : ColumnNumbers) (is : IsIndexOfParts series fields t) (m field tag value : Text) where
  pub tagged_of_none : (Among (field_key m field) fields → ⊥) → [] ≡ numbers_where (is_tagged m field tag value) (map (column_named series fields) t.columns)
  tagged_of_none absent =
      is_numbers_where (is_tagged m field tag value) (map (column_named series fields) t.columns) [] tt
      (λ n c at pass.
      let y = at_map_back (column_named series fields) t.columns n c at in
      let named : HasSeriesAndField series fields y.0 = is.named n y.0 y.1 in
      let pass' : is_tagged m field tag value (column_named series fields y.0) ≡ true = ap (is_tagged m field tag value) y.2 ∙ pass in
      let parts = and_parts (is_of m field (column_named series fields y.0)) (has_tag tag value (column_named series fields y.0).series) pass' in
      absurd (absent (subst (λ (k : FieldKey). Among k fields) (asked_key series fields t is m field y.0 named parts.0) (at_among fields y.0.1 (get_or fields y.0.1 no_field) (slice_get-get_or fields y.0.1 no_field named.field_there)))))
      (λ n a. absurd a)

  module _ (f : ℕ) (at_f : IsAt fields f (field_key m field)) (some : value ≡ [] → ⊥) (numbers found ordered : List ℕ) (led : AreAmongTagged series m (tag, value) numbers)
      (walked : AreTaggedAt series t.columns f tag value numbers found) (rise : IsRisingList ordered) (same : (n : ℕ) → Among n found ↔ Among n ordered) where
    its_key : get_or fields f no_field ≡ field_key m field
    its_key = get_or_from_slice_get fields f (field_key m field) no_field at_f

    sound : (n : ℕ) → Among n ordered → (c : Column) × IsAt (map (column_named series fields) t.columns) n c × (is_tagged m field tag value c ≡ true)
    sound n a =
        let s = walked.sound n ((same n).1 a) in
        let k : ℕ = s.0 in
        let tagged : IsTaggedAt series t.columns f tag value k n = s.2 in
        let named : HasSeriesAndField series fields (k, f) = is.named n (k, f) tagged.at in
        let of : is_of m field (column_named series fields (k, f)) ≡ true =
        both_true (same_text-from_eq (get_or series k no_series).measurement m (named.together ∙ ap (λ (x : FieldKey). x.measurement) its_key))
        (same_text-from_eq (get_or fields f no_field).field field (ap (λ (x : FieldKey). x.field) its_key)) in
        (column_named series fields (k, f), at_map_of (column_named series fields) t.columns n (k, f) tagged.at, both_true of tagged.has)

    complete : (n : ℕ) (c : Column) → IsAt (map (column_named series fields) t.columns) n c → is_tagged m field tag value c ≡ true → Among n ordered
    complete n c at pass =
        let y = at_map_back (column_named series fields) t.columns n c at in
        let k : ℕ = y.0.0 in
        let named : HasSeriesAndField series fields y.0 = is.named n y.0 y.1 in
        let pass' : is_tagged m field tag value (column_named series fields y.0) ≡ true = ap (is_tagged m field tag value) y.2 ∙ pass in
        let parts = and_parts (is_of m field (column_named series fields y.0)) (has_tag tag value (get_or series k no_series)) pass' in
        let names = and_parts (same_text (get_or series k no_series).measurement m) (same_text (get_or fields y.0.1 no_field).field field) parts.0 in
        let of : (get_or series k no_series).measurement ≡ m = same_text-eq (get_or series k no_series).measurement m names.0 in
        let key = asked_key series fields t is m field y.0 named parts.0 in
        let number : y.0.1 ≡ f = same_place fields no_field y.0.1 f is.fields_once named.field_there (at_within fields f (field_key m field) at_f) (key ∙ sym its_key) in
        let has : Among (tag, value) (get_or series k no_series).tags =
        value_there (get_or series k no_series).tags tag value (same_text-eq (tag_value (get_or series k no_series) tag) value parts.1) some in
        let there : Among k numbers = led k (get_or series k no_series) (slice_get-get_or series k no_series named.series_there) of has in
        (same n).0 (walked.complete k n there record {
          there = named.series_there;
          has = parts.1;
          at = subst (λ g. IsAt t.columns n (k, g)) number y.1;
        })

    pub tagged_of_field : ordered ≡ numbers_where (is_tagged m field tag value) (map (column_named series fields) t.columns)
    tagged_of_field = is_numbers_where (is_tagged m field tag value) (map (column_named series fields) t.columns) ordered rise complete sound
