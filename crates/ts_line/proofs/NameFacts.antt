-- The names of a line that was read, which aren't empty; no key is `time`.
use Rattle.std.proofs.Common.{◌≡◌, ℕ, ℤ, ◌+◌, ◌≤◌, Bool, true, false, List, [], ◌∷◌, length, map, bytes_eq, Ok, refl, sym, ap, subst, arith}
use Rattle.std.proofs.lemmas.List.{length-map}
use Rattle.std.specs.List.{AllByRecursion}
use Rattle.std.specs.FinMap as finmap
use Rattle.std.specs.FinMap.{put, entries_sorted}
use Rattle.std.specs.declared.cmp.Ordering.{Ordering}
use Rattle.std.specs.declared.cmp.Ordering.TheVariants.{Less, Equal, Greater}
use Rattle.ts_core.specs.facts.Facts.{Text, text_cmp}
use Rattle.ts_line.specs.declared.scan.Stops.TheVariants.{Comma, Equals}
use Rattle.ts_line.specs.Names.{IsName, IsKey, AreKeys, AreTagTexts, IsStatable}
use Rattle.ts_line.specs.Parts.{LinePart, Parts, tag_texts, field_text, series_of, AreFields, AreParts}
use Rattle.ts_line.specs.Scan.{spaces_end}
use Rattle.ts_line.specs.Fields.{with_field}
use Rattle.ts_line.specs.Lines.{parts_at}
use Rattle.ts_line.specs.Spelling.{tags_from, AreTags, IsWrittenField, field_spelling, field_from, with_fields}
use Rattle.ts_line.proofs.PieceLemmas.{text_some}
use Rattle.ts_line.proofs.SortingLemmas.{insert_all, entries_put_all}
use Rattle.ts_line.proofs.TagFacts.{AreTold}
use Rattle.ts_line.proofs.FieldFacts.{AreFieldsTold}
use Rattle.ts_line.proofs.SpellingFacts.{IsMeasurement, ArePartsAt, parts_told}

-- ---- tags

tags_named : (ts : List (Text × Text)) (at : ℕ) → AreTags ts → AreTagTexts (map tag_texts (tags_from at ts))
tags_named [] at are = tt
tags_named (t ∷ ts) at are =
    (((text_some Equals t.0 are.0.0.some, are.0.2), text_some Equals t.1 are.0.1.some), tags_named ts (at + 1 + length t.0 + 1 + length t.1) are.1)

-- ---- fields

with_by : (b : Bool) (g f : LinePart × ℤ) (gs : List (LinePart × ℤ)) → bytes_eq g.0.text f.0.text ≡ b → AreKeys (map field_text (g ∷ gs)) → AreKeys (map field_text (with_field gs f)) → AreKeys (map field_text (with_field (g ∷ gs) f))
with_by true g f gs e named ih = rw e named
with_by false g f gs e named ih = rw e (named.0, ih)

with_named : (fields : List (LinePart × ℤ)) (f : LinePart × ℤ) → AreKeys (map field_text fields) → IsKey f.0.text → AreKeys (map field_text (with_field fields f))
with_named [] f named key = (key, tt)
with_named (g ∷ gs) f named key = with_by (bytes_eq g.0.text f.0.text) g f gs refl named (with_named gs f named.1 key)

field_named : (f : Text × Text) (at : ℕ) → IsWrittenField f → IsKey (field_from at f).0.text
field_named f at is = (text_some Equals f.0 is.0.some, is.1)

fields_named : (more : List (Text × Text)) (before : List (LinePart × ℤ)) (at : ℕ) → AreKeys (map field_text before) → AllByRecursion IsWrittenField more → AreKeys (map field_text (with_fields before at more))
fields_named [] before at named are = named
fields_named (f ∷ more) before at named are =
    fields_named more (with_field before (field_from (at + 1) f)) (at + 1 + length (field_spelling f)) (with_named before (field_from (at + 1) f) named (field_named f (at + 1) are.0)) are.1

-- ---- a line

measurement_named : (line : Text) (n : ℕ) (m : LinePart) (end : ℕ) → IsMeasurement line n m end → IsName m.text
measurement_named line n m end is = subst (λ (p : LinePart). IsName p.text) (sym is.told) (text_some Comma is.raw is.some)

told_tags : (line : Text) (at : ℕ) (tags : List (LinePart × LinePart)) (end : ℕ) → AreTold line at [] tags end → AreTagTexts (map tag_texts tags)
told_tags line at tags end are = subst (λ (ts : List (LinePart × LinePart)). AreTagTexts (map tag_texts ts)) (sym are.told) (tags_named are.tags at are.are)

told_fields : (n : ℕ) (line : Text) (at : ℕ) (fields : List (LinePart × ℤ)) (end : ℕ) → AreFieldsTold n line at [] fields end → AreKeys (map field_text fields)
told_fields n line at fields end are = subst (λ (fs : List (LinePart × ℤ)). AreKeys (map field_text fs)) (sym are.told)
    (fields_named are.more (field_from at are.first ∷ []) (at + length (field_spelling are.first)) (field_named are.first at are.first_is, tt) are.more_are)

parts_by : (unit now : ℤ) (line : Text) (n : ℕ) (parts : Parts) → ArePartsAt unit now line n parts → length parts.tags ≤ 64 → AreFields parts.fields → AreParts parts.measurement parts.tags parts.fields
parts_by unit now line n parts p few fields = record {
  measurement = subst (λ (q : Parts). IsName q.measurement.text) (sym p.told) (measurement_named line n p.m.0 p.m.1 p.measurement_is);
  few_tags = few;
  tags = subst (λ (q : Parts). AreTagTexts (map tag_texts q.tags)) (sym p.told) (told_tags line p.m.1 p.tags.0 p.tags.1 p.tags_are);
  fields = fields;
  field_names = subst (λ (q : Parts). AreKeys (map field_text q.fields)) (sym p.told) (told_fields 256 line (spaces_end line p.tags.1) p.fields.0 p.fields.1 p.fields_are);
}

pub parts_named : (unit now : ℤ) (line : Text) (n : ℕ) (parts : Parts) → n ≤ length line → parts_at unit now line n ≡ Ok parts → length parts.tags ≤ 64 → AreFields parts.fields → AreParts parts.measurement parts.tags parts.fields
parts_named unit now line n parts le read few fields = parts_by unit now line n parts (parts_told unit now line n parts le read) few fields

-- ---- the tags of its series, in order

put_by : (r : Ordering) (k v : Text) (e : Text × Text) (es : List (Text × Text)) → text_cmp k e.0 ≡ r → IsKey k → IsName v → AreTagTexts (e ∷ es) → AreTagTexts (put text_cmp k v es) → AreTagTexts (put text_cmp k v (e ∷ es))
put_by Less k v e es is key value named ih = rw is ((key, value), named)
put_by Equal k v e es is key value named ih = rw is ((named.0.0, value), named.1)
put_by Greater k v e es is key value named ih = rw is (named.0, ih)

put_named : (k v : Text) (es : List (Text × Text)) → IsKey k → IsName v → AreTagTexts es → AreTagTexts (put text_cmp k v es)
put_named k v [] key value named = ((key, value), tt)
put_named k v (e ∷ es) key value named = put_by (text_cmp k e.0) k v e es refl key value named (put_named k v es key value named.1)

all_named : (ts : List (Text × Text)) → AreTagTexts ts → AreTagTexts (insert_all ts [])
all_named [] named = tt
all_named (t ∷ ts) named = put_named t.0 t.1 (insert_all ts []) named.0.0 named.0.1 (all_named ts named.1)

longer_by : (r : Ordering) (k v : Text) (e : Text × Text) (es : List (Text × Text)) → text_cmp k e.0 ≡ r → length (put text_cmp k v es) ≤ length es + 1 → length (put text_cmp k v (e ∷ es)) ≤ length (e ∷ es) + 1
longer_by Less k v e es is ih = rw is (omega arith)
longer_by Equal k v e es is ih = rw is (omega arith)
longer_by Greater k v e es is ih = rw is (omega (arith, ih))

put_longer : (k v : Text) (es : List (Text × Text)) → length (put text_cmp k v es) ≤ length es + 1
put_longer k v [] = omega arith
put_longer k v (e ∷ es) = longer_by (text_cmp k e.0) k v e es refl (put_longer k v es)

all_few : (ts : List (Text × Text)) → length (insert_all ts []) ≤ length ts
all_few [] = omega arith
all_few (t ∷ ts) = omega (arith, put_longer t.0 t.1 (insert_all ts []), all_few ts)

-- the series of a line is one that a line can state
series_named : (p : Parts) → AreParts p.measurement p.tags p.fields → IsStatable (series_of p)
series_named p are =
    let ts = map tag_texts p.tags in
    let es = entries_put_all ts in
    record {
      measurement = are.measurement;
      tags = subst (λ (xs : List (Text × Text)). AreTagTexts xs) (sym es) (all_named ts are.tags);
      few = omega (arith, ap length es, all_few ts, length-map p.tags tag_texts, are.few_tags);
      set = entries_sorted (finmap.from_entries {R = text_cmp} ts);
    }

pub named_as : (q p : Parts) → q ≡ p → AreParts q.measurement q.tags q.fields → IsStatable (series_of p)
named_as q p is are = subst (λ (x : Parts). IsStatable (series_of x)) is (series_named q are)
