-- Slots of a filter over names.
use Rattle.std.proofs.Common.{◌≡◌, ℕ, ℤ, zero, suc, ◌+◌, ◌<◌, Bool, true, false, List, [], ◌∷◌, ◌++◌, get_or, set, replicate, bytes_eq, None, refl, sym, ap, ◌∙◌, slice_index_or}
use Rattle.std.proofs.lemmas.Slice.Eq.{bytes_eq-Decides}
use Rattle.ts_core.specs.facts.Facts.{Text}
use Rattle.ts_line.specs.Parts.{LinePart}
use Rattle.ts_line.specs.Fields.{offset_from, with_field}
use Rattle.ts_line.specs.NameFilters.{filter_slot, is_set, AreInFilter, AreKeysInFilter}
use Rattle.ts_line.specs.TagParts.{has_key}
use Rattle.ts_line.proofs.FieldLemmas.{field_pushed}

abbrev pub Mark : List Bool → Text → Type 0
Mark slots name = slice_index_or slots (filter_slot name) false ≡ true

-- a name without a mark is new
new_by : (slots : List Bool) (name : Text) (g : LinePart × ℤ) (gs : List (LinePart × ℤ)) (at : ℕ) (b : Bool) → bytes_eq g.0.text name ≡ b → slice_index_or slots (filter_slot name) false ≡ false
    → Mark slots g.0.text → offset_from (at + 1) name gs ≡ None → offset_from at name (g ∷ gs) ≡ None
new_by slots name g gs at true e bare mark rest =
    let same : g.0.text ≡ name = (bytes_eq-Decides g.0.text name).0 e in
    let here : slice_index_or slots (filter_slot name) false ≡ true = ap (λ (t : Text). slice_index_or slots (filter_slot t) false) (sym same) ∙ mark in
    absurd cc
new_by slots name g gs at false e bare mark rest = rw e rest

new_in : (slots : List Bool) (name : Text) (fields : List (LinePart × ℤ)) (at : ℕ) → slice_index_or slots (filter_slot name) false ≡ false → AreInFilter slots fields → offset_from at name fields ≡ None
new_in slots name [] at bare all = refl
new_in slots name (g ∷ gs) at bare all = new_by slots name g gs at (bytes_eq g.0.text name) refl bare all.0 (new_in slots name gs (at + 1) bare all.1)

pub unmarked_pushed : (slots : List Bool) (f : LinePart × ℤ) (fields : List (LinePart × ℤ)) → slice_index_or slots (filter_slot f.0.text) false ≡ false → AreInFilter slots fields → fields ++ f ∷ [] ≡ with_field fields f
unmarked_pushed slots f fields bare all = field_pushed f fields (sym (new_in slots f.0.text fields 0 bare all))

-- a field put among others keeps the slots
with_by : (slots : List Bool) (g f : LinePart × ℤ) (gs : List (LinePart × ℤ)) (b : Bool) → bytes_eq g.0.text f.0.text ≡ b → Mark slots g.0.text → AreInFilter slots gs → AreInFilter slots (with_field gs f) → AreInFilter slots (with_field (g ∷ gs) f)
with_by slots g f gs true e mark all rest = rw e (mark, all)
with_by slots g f gs false e mark all rest = rw e (mark, rest)

pub with_marked : (slots : List Bool) (fields : List (LinePart × ℤ)) (f : LinePart × ℤ) → AreInFilter slots fields → Mark slots f.0.text → AreInFilter slots (with_field fields f)
with_marked slots [] f all mark = (mark, tt)
with_marked slots (g ∷ gs) f all mark = with_by slots g f gs (bytes_eq g.0.text f.0.text) refl all.0 all.1 (with_marked slots gs f all.1 mark)

-- one more slot is set
kept : (slots : List Bool) (slot i : ℕ) → get_or slots i false ≡ true → get_or (set slots slot true) i false ≡ true
kept [] slot i mark = mark
kept (x ∷ xs) zero zero mark = refl
kept (x ∷ xs) zero (suc i) mark = mark
kept (x ∷ xs) (suc s) zero mark = mark
kept (x ∷ xs) (suc s) (suc i) mark = kept xs s i mark

-- no slot is set
pub none_set : (n i : ℕ) → get_or (replicate n false) i false ≡ false
none_set zero i = refl
none_set (suc n) zero = refl
none_set (suc n) (suc i) = none_set n i

pub fields_kept : (slots slots' : List Bool) (fields : List (LinePart × ℤ)) → ((other : Text) → is_set slots other ≡ true → is_set slots' other ≡ true) → AreInFilter slots fields → AreInFilter slots' fields
fields_kept slots slots' [] stays all = tt
fields_kept slots slots' (g ∷ gs) stays all = (stays g.0.text all.0, fields_kept slots slots' gs stays all.1)

-- ---- keys of tags

-- a key without a mark is new
key_by : (slots : List Bool) (key : Text) (g : LinePart × LinePart) (gs : List (LinePart × LinePart)) (b : Bool) → bytes_eq g.0.text key ≡ b → slice_index_or slots (filter_slot key) false ≡ false
    → Mark slots g.0.text → has_key gs key ≡ false → has_key (g ∷ gs) key ≡ false
key_by slots key g gs true e bare mark rest =
    let same : g.0.text ≡ key = (bytes_eq-Decides g.0.text key).0 e in
    let here : slice_index_or slots (filter_slot key) false ≡ true = ap (λ (t : Text). slice_index_or slots (filter_slot t) false) (sym same) ∙ mark in
    absurd cc
key_by slots key g gs false e bare mark rest = rw e rest

pub unmarked_key : (slots : List Bool) (key : Text) (tags : List (LinePart × LinePart)) → slice_index_or slots (filter_slot key) false ≡ false → AreKeysInFilter slots tags → has_key tags key ≡ false
unmarked_key slots key [] bare all = refl
unmarked_key slots key (g ∷ gs) bare all = key_by slots key g gs (bytes_eq g.0.text key) refl bare all.0 (unmarked_key slots key gs bare all.1)

pub keys_kept : (slots slots' : List Bool) (tags : List (LinePart × LinePart)) → ((other : Text) → is_set slots other ≡ true → is_set slots' other ≡ true) → AreKeysInFilter slots tags → AreKeysInFilter slots' tags
keys_kept slots slots' [] stays all = tt
keys_kept slots slots' (g ∷ gs) stays all = (stays g.0.text all.0, keys_kept slots slots' gs stays all.1)
