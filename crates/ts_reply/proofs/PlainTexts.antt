-- Texts whose bytes need no escape, which are quoted unchanged.
use Rattle.std.proofs.Common.{◌≡◌, ◌==◌, true, [], ◌∷◌, ◌++◌, codes, ap, ◌∙◌, sym, refl, append_assoc}
use Rattle.std.proofs.lemmas.Bool.{or_parts, and_parts, not-true, eqb-false, ltb-false}
use Rattle.std.specs.List.{list_all}
use Rattle.json.specs.Print.{escape, quoted}
use Rattle.json.specs.Run.{is_plain, is_stop}
use Rattle.json.proofs.Printed.Strings.{escape_byte_plain}
use Rattle.ts_core.specs.facts.Facts.{Text}

escape_alone : (s : Text) → list_all is_plain s ≡ true → escape s ≡ s
escape_alone [] h = refl
escape_alone (x ∷ xs) h =
    let both = and_parts (is_plain x) _ h in
    let none = or_parts _ _ (not-true (is_stop x) both.0) in
    let tests = or_parts (x == 34) _ none.0 in
    let rest = escape_alone xs both.1 in
    λ i. escape_byte_plain x (eqb-false x 34 tests.0) (eqb-false x 92 tests.1) (ltb-false x 32 none.1) i ++ rest i

quotes_regrouped : (o w : Text) → ((o ++ codes "\"") ++ w) ++ codes "\"" ≡ o ++ (34 ∷ (w ++ 34 ∷ []))
quotes_regrouped o w = simp append_assoc

pub quoted_alone : (old a b new word : Text) → list_all is_plain word ≡ true → a ≡ old ++ codes "\"" → b ≡ a ++ word → new ≡ b ++ codes "\"" → new ≡ old ++ quoted word
quoted_alone old a b new word plain ea eb e =
    e ∙ ap (λ (t : Text). t ++ codes "\"") (eb ∙ ap (λ (t : Text). t ++ word) ea) ∙ quotes_regrouped old word
    ∙ ap (λ (t : Text). old ++ (34 ∷ (t ++ 34 ∷ []))) (sym (escape_alone word plain))
