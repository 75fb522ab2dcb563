-- Texts that are one word, in any case, and so no other word.
use Rattle.std.proofs.Common.{◌≡◌, ℕ, List, true, false, refl, ap, ◌∙◌, codes, bytes_eq}
use Rattle.std.specs.Str.{str_to_ascii_lowercase}
use Rattle.std.proofs.lemmas.Slice.Eq.{bytes_eq-Decides}
use Rattle.ts_core.specs.facts.Facts.{Text}
use Rattle.ts_ql.specs.Literals.{is_word}

pub another_word : (word other text : Text) → is_word word text ≡ true
    → bytes_eq (str_to_ascii_lowercase word) (str_to_ascii_lowercase other) ≡ false → is_word other text ≡ false
another_word word other text is negated =
    let same : str_to_ascii_lowercase text ≡ str_to_ascii_lowercase word = (bytes_eq-Decides (str_to_ascii_lowercase text) (str_to_ascii_lowercase word)).0 is in
    ap (λ (x : List ℕ). bytes_eq x (str_to_ascii_lowercase other)) same ∙ negated

pub not_null_none : (text : Text) → is_word (codes "none") text ≡ true → is_word (codes "null") text ≡ false
not_null_none text is = another_word (codes "none") (codes "null") text is refl

pub not_null_previous : (text : Text) → is_word (codes "previous") text ≡ true → is_word (codes "null") text ≡ false
not_null_previous text is = another_word (codes "previous") (codes "null") text is refl

pub not_none_previous : (text : Text) → is_word (codes "previous") text ≡ true → is_word (codes "none") text ≡ false
not_none_previous text is = another_word (codes "previous") (codes "none") text is refl

pub not_where_group : (text : Text) → is_word (codes "group") text ≡ true → is_word (codes "where") text ≡ false
not_where_group text is = another_word (codes "group") (codes "where") text is refl

pub not_group_and : (text : Text) → is_word (codes "and") text ≡ true → is_word (codes "group") text ≡ false
not_group_and text is = another_word (codes "and") (codes "group") text is refl
