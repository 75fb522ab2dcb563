-- A text among others in byte order.
use Rattle.std.proofs.Common.{◌≡◌, List, [], ◌∷◌, ap, sym, subst, refl, String, string_bytes}
use Rattle.std.specs.BTreeSet.{insert_key}
use Rattle.std.specs.List.{AllByRecursion}
use Rattle.std.specs.List.Sorted.{IsStrictlySortedBy}
use Rattle.std.specs.Ordering.{match_ordering}
use Rattle.std.specs.declared.cmp.Ordering.{Ordering}
use Rattle.std.specs.declared.cmp.Ordering.TheVariants.{Less, Equal, Greater}
use Rattle.ts_core.specs.facts.Facts.{Text, text_cmp}
use Rattle.ts_ql.specs.Selects.{texts, insert_by, inserted_text}

abbrev pub name_cmp : {A : Type 0} → String A → String A → Ordering
name_cmp a b = text_cmp (string_bytes a) (string_bytes b)

placed_by : {A : Type 0} (order : Ordering) (name first : String A) (rest inserted : List (String A)) (more : List Text) → texts inserted ≡ more
    → texts (match_ordering order (name ∷ first ∷ rest) (first ∷ rest) (first ∷ inserted)) ≡ insert_by order (string_bytes name) (string_bytes first) (texts rest) more
placed_by Less name first rest inserted more e = refl
placed_by Equal name first rest inserted more e = refl
placed_by Greater name first rest inserted more e = ap (λ (l : List Text). string_bytes first ∷ l) e

pub texts_insert : {A : Type 0} (names : List (String A)) (name : String A) → texts (insert_key name_cmp names name) ≡ inserted_text (string_bytes name) (texts names)
texts_insert [] name = refl
texts_insert (first ∷ rest) name =
    placed_by (name_cmp name first) name first rest (insert_key name_cmp rest name) (inserted_text (string_bytes name) (texts rest)) (texts_insert rest name)

names_after : {A : Type 0} (name : String A) (rest : List (String A)) → AllByRecursion (λ other. name_cmp name other ≡ Less) rest → AllByRecursion (λ (text : Text). text_cmp (string_bytes name) text ≡ Less) (texts rest)
names_after name [] h = tt
names_after name (next ∷ rest) h = (h.0, names_after name rest h.1)

-- the texts of names in order are in order
pub texts_sorted : {A : Type 0} (names : List (String A)) → IsStrictlySortedBy name_cmp names → IsStrictlySortedBy text_cmp (texts names)
unfolding IsStrictlySortedBy
texts_sorted [] h = tt
texts_sorted (name ∷ rest) h = (names_after name rest h.0, texts_sorted rest h.1)

pub sorted_as : {A : Type 0} (names others : List (String A)) → others ≡ names → IsStrictlySortedBy name_cmp names → IsStrictlySortedBy text_cmp (texts others)
sorted_as {A} names others e h = subst (λ (ns : List (String A)). IsStrictlySortedBy text_cmp (texts ns)) (sym e) (texts_sorted names h)
