use Rattle.std.proofs.Common.{rules, tests, arith, ◌≡◌, ◌≢◌, ◌==◌, ◌∙◌, sym, refl, Bool, true, not, List, [], ◌∷◌, length, map, string_bytes}
use Rattle.std.specs.declared.string.String.{String}
use Rattle.std.specs.List.{AllByRecursion, list_all}
use Rattle.std.proofs.lemmas.Bool.{and_parts, and_from}
use Rattle.std.proofs.lemmas.Bool.Decides.{nat_tests}
use Rattle.std.proofs.lemmas.Iterator.{YieldsList-from_slice}
use Rattle.std.proofs.lemmas.Iterator.Search.{all_from_yields_List}
use Rattle.ts_core.specs.facts.Facts.{Text}
use Rattle.ts_core.proofs.settings.all_written.Goals as goal

abbrev is_written : {A : Type 0} → String A → Bool
is_written text = not (length (string_bytes text) == 0)

written_from : (text : Text) → not (length text == 0) ≡ true → text ≢ []
written_from text h e = grind (arith, nat_tests)

written_true : (text : Text) → text ≢ [] → not (length text == 0) ≡ true
written_true [] h = absurd (h refl)
written_true (b ∷ text) h = grind (arith, nat_tests)

all_from : {A : Type 0} (texts : List (String A)) → list_all is_written texts ≡ true → AllByRecursion (λ text. text ≢ []) (map string_bytes texts)
all_from [] h = tt
all_from (text ∷ texts) h = let p = and_parts (is_written text) _ h in (written_from (string_bytes text) p.0, all_from texts p.1)

all_true : {A : Type 0} (texts : List (String A)) → AllByRecursion (λ text. text ≢ []) (map string_bytes texts) → list_all is_written texts ≡ true
all_true [] h = refl
all_true (text ∷ texts) h = and_from (is_written text) _ (written_true (string_bytes text) h.0) (all_true texts h.1)

pub returns : goal.returns
returns g c =
    let all = all_from_yields_List is_written _ _ _ c.all.ensures.ran (YieldsList-from_slice c.args.texts.now cc) (λ x b q k. search (rules, tests)) in
    (λ h. all_from c.args.texts.now (sym all ∙ h), λ h. all ∙ all_true c.args.texts.now h)
