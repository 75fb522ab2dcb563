-- The first parameter of a name, as pairs are skipped.
use Rattle.std.proofs.Common.{◌≡◌, true, false, [], ◌∷◌, map, Option, Some, None, sym, ap, ◌∙◌, cond}
use Rattle.ts_core.specs.facts.Facts.{Text, same_text}
use Rattle.ts_http.specs.Parameters.{Parameters, first_named, decoded, decoded_pair}

pub found_first : (name n v value : Text) (left rest : Parameters) (whole : Option Text) → first_named name (map decoded_pair left) ≡ whole → left ≡ (n, v) ∷ rest → true ≡ same_text (decoded n) name → value ≡ decoded v → Some value ≡ whole
found_first name n v value left rest whole e is named told =
    ap Some told ∙ sym (ap (λ b. cond b (Some (decoded v)) (first_named name (map decoded_pair rest))) (sym named)) ∙ sym (ap (λ ps. first_named name (map decoded_pair ps)) is) ∙ e

pub passed_over : (name n v : Text) (left rest : Parameters) (whole : Option Text) → first_named name (map decoded_pair left) ≡ whole → left ≡ (n, v) ∷ rest → false ≡ same_text (decoded n) name → first_named name (map decoded_pair rest) ≡ whole
passed_over name n v left rest whole e is other =
    sym (ap (λ b. cond b (Some (decoded v)) (first_named name (map decoded_pair rest))) (sym other)) ∙ sym (ap (λ ps. first_named name (map decoded_pair ps)) is) ∙ e

pub none_left : (name : Text) (left : Parameters) (whole : Option Text) → first_named name (map decoded_pair left) ≡ whole → left ≡ [] → None ≡ whole
none_left name left whole e none = sym (ap (λ ps. first_named name (map decoded_pair ps)) none) ∙ e
