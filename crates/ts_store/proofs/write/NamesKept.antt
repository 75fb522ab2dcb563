-- Names of the series and columns that a line creates: a line can state them.
use Rattle.std.proofs.Common.{ℤ, not, List, [], ◌∷◌, map, sym, subst, ⊎_elim, ◌≡◌, ℕ, ◌<◌, ◌≤◌, true, false, ◌&&◌, ◌||◌, nat_le, length, refl, ◌∙◌, ap, inl, inr, arith, true≢false, is_eq}
use Rattle.ts_core.specs.lists.Members.{Among}
use Rattle.ts_core.specs.facts.Facts.{Series, Column, Fact, series_cmp}
use Rattle.ts_core.specs.lists.Numbered.{Gains}
use Rattle.ts_core.specs.store.RawFacts.{is_waiting}
use Rattle.ts_core.specs.store.StoreStates.{ColumnPoints, column_of}
use Rattle.ts_core.proofs.lists.MembersLemmas.{Among-left, Among-append, Among-filter_was}
use Rattle.ts_line.specs.Names.{IsKey, AreKeys, IsStatable}
use Rattle.ts_line.specs.Parts.{LinePart, Parts, fact_of, field_text, line_facts}
use Rattle.ts_store.specs.write.Registered.{MayGain, new_columns, with_columns, MakesFirst}
use Rattle.ts_store.proofs.write.StagedColumns.{names_with}
use Rattle.std.specs.Ordering.{eq_by_cmp}
use Rattle.std.proofs.lemmas.Cmp.{tied_itself}
use Rattle.std.proofs.lemmas.Bool.{or_right}
use Rattle.std.proofs.lemmas.List.{length-append}
use Rattle.ts_core.proofs.facts.Ids.{series_total, exact_series, equal_of}
use Rattle.ts_store.specs.write.Refusals.{is_registered, is_too_many}

-- ---- the number of series after an accepted line, at most 1,000,000

same_series : (a b : Series) → eq_by_cmp series_cmp a b ≡ true → a ≡ b
same_series a b e = exact_series a b (equal_of (series_cmp a b) e)

pub registered-there : (s : Series) (xs : List Series) → Among s xs → is_registered xs s ≡ true
registered-there s [] a = absurd a
registered-there s (x ∷ xs) a =
    ⊎_elim {C = eq_by_cmp series_cmp s x || is_registered xs s ≡ true} (λ e. ap (λ b. b || is_registered xs s) (ap (eq_by_cmp series_cmp s) (sym e) ∙ ap is_eq (tied_itself series_total s)))
    (λ k. ap (λ b. eq_by_cmp series_cmp s x || b) (registered-there s xs k) ∙ or_right (eq_by_cmp series_cmp s x) true refl) a

pub registered-not : (s : Series) (xs : List Series) → (Among s xs → ⊥) → is_registered xs s ≡ false
registered-not s [] n = refl
registered-not s (x ∷ xs) n =
    elim (eq_by_cmp series_cmp s x) as (λ b. eq_by_cmp series_cmp s x ≡ b → b || is_registered xs s ≡ false) [
      | true ↦ λ e. absurd (n (inl (same_series s x e)))
      | false ↦ λ e. registered-not s xs (λ a. n (inr a))
    ] refl

below_limit : (n : ℕ) → nat_le 1000000 n ≡ false → n < 1000000
below_limit n h = grind arith

-- a series that isn't refused leaves room for the limit
not_full : (series : List Series) (s : Series) → (Among s series → ⊥) → is_too_many series s ≡ false → length series < 1000000
not_full series s away registers =
    let free : nat_le 1000000 (length series) ≡ false = elim (nat_le 1000000 (length series)) as (λ b. b && not (is_registered series s) ≡ false → b ≡ false) [
      | true ↦ λ e. absurd (true≢false (sym (ap not (registered-not s series away)) ∙ e))
      | false ↦ λ e. refl
    ] registers in
    below_limit (length series) free

pub gains_few : (before after : List Series) (s : Series) → length before ≤ 1000000 → is_too_many before s ≡ false → Gains before after s → length after ≤ 1000000
gains_few before after s few registers gains =
    ⊎_elim {C = length after ≤ 1000000} (λ same. subst (λ (xs : List Series). length xs ≤ 1000000) (sym same.1) few)
    (λ new. let free = not_full before s new.0 registers in let more = ap (λ (xs : List Series). length xs) new.1 in omega (arith, free, more, length-append before (s ∷ []))) gains

pub may_gain_few : (before after : List Series) (s : Series) → length before ≤ 1000000 → is_too_many before s ≡ false → MayGain before after s → length after ≤ 1000000
may_gain_few before after s few registers gains =
    ⊎_elim {C = length after ≤ 1000000} (λ same. subst (λ (xs : List Series). length xs ≤ 1000000) (sym same) few) (gains_few before after s few registers) gains

abbrev pub AreNamed : List Series → Type 0
AreNamed series = (s : Series) → Among s series → IsStatable s

abbrev pub HaveKeys : List ColumnPoints → Type 0
HaveKeys columns = (c : Column) → Among c (map column_of columns) → IsKey c.field

pub gains_named : (before after : List Series) (s : Series) → IsStatable s → Gains before after s → AreNamed before → AreNamed after
gains_named before after s named gains all =
    ⊎_elim {C = AreNamed after} (λ same. subst AreNamed (sym same.1) all)
    (λ new. subst AreNamed (sym new.1) (λ x a.
    ⊎_elim {C = IsStatable x} (all x) (λ last. ⊎_elim {C = IsStatable x} (λ e. subst IsStatable (sym e) named) (λ none. absurd none) last) (Among-append x before (s ∷ []) a))) gains

pub may_gain_named : (before after : List Series) (s : Series) → IsStatable s → MayGain before after s → AreNamed before → AreNamed after
may_gain_named before after s named gains all =
    ⊎_elim {C = AreNamed after} (λ same. subst AreNamed (sym same) all) (λ more. gains_named before after s named more all) gains

-- the column of a line's fact
fields_keys : (p : Parts) (fields : List (LinePart × ℤ)) (c : Column) → AreKeys (map field_text fields) → Among c (map (λ (f : Fact). f.column) (map (fact_of p) fields)) → IsKey c.field
fields_keys p [] c keys a = absurd a
fields_keys p (f ∷ fields) c keys a =
    ⊎_elim {C = IsKey c.field} (λ e. subst (λ (d : Column). IsKey d.field) (sym e) keys.0) (fields_keys p fields c keys.1) a

made_keys : (p : Parts) (names : List Column) (c : Column) → AreKeys (map field_text p.fields) → Among c (new_columns names (line_facts p)) → IsKey c.field
made_keys p names c keys a =
    fields_keys p p.fields c keys (Among-filter_was (λ (d : Column). not (is_waiting names d)) c (map (λ (f : Fact). f.column) (line_facts p)) a)

with_keys : (p : Parts) (before : List ColumnPoints) (made : List Column) → ((c : Column) → Among c made → IsKey c.field) → HaveKeys before → HaveKeys (with_columns before made)
with_keys p before made new all = λ c a.
    ⊎_elim {C = IsKey c.field} (all c) (new c) (Among-append c (map column_of before) made (subst (Among c) (names_with before made) a))

pub all_keys : (p : Parts) (before : List ColumnPoints) → AreKeys (map field_text p.fields) → HaveKeys before → HaveKeys (with_columns before (new_columns (map column_of before) (line_facts p)))
all_keys p before keys all = with_keys p before (new_columns (map column_of before) (line_facts p)) (λ c a. made_keys p (map column_of before) c keys a) all

pub first_keys : (p : Parts) (before after : List ColumnPoints) → AreKeys (map field_text p.fields) → MakesFirst before after (line_facts p) → HaveKeys before → HaveKeys after
first_keys p before after keys makes all =
    subst HaveKeys (sym makes.columns)
    (with_keys p before makes.made (λ c a. made_keys p (map column_of before) c keys (subst (Among c) makes.order (Among-left c makes.made makes.others a))) all)
