-- Parsing the text of settings: the same settings.
use Rattle.std.proofs.lemmas.Bool.{cases_Bool}
use Rattle.std.proofs.Common.{◌≡◌, ◌≢◌, ℕ, suc, ◌+◌, ◌*◌, ◌<◌, ◌≤◌, ◌^◌, ◌==◌, ℤ, pos, negsuc, ◌≤ℤ◌, true, false, List, [], ◌∷◌, ◌++◌, map, Some, option_map, option_and_then, codes, decimal, FitsSigned, ⊎_elim, refl, sym, ap, ◌∙◌, arith, append-nil}
use Rattle.std.proofs.lemmas.Int.{ints}
use Rattle.std.proofs.lemmas.Bool.Decides.{nat_tests}
use Rattle.std.proofs.lemmas.Fmt.{decimal_is_IsNumeral}
use Rattle.std.specs.Int.{w64}
use Rattle.std.specs.List.{AllByRecursion}
use Rattle.std.specs.Char.{is_ascii_digit}
use Rattle.std.specs.Str.Parse.{IsNumeral, digits_value}
use Rattle.json.specs.Print.{print}
use Rattle.json.specs.Json as json
use Rattle.json.specs.Tree as tree
use Rattle.json.proofs.Printed.Tokens.{tokens-print}
use Rattle.json.proofs.Printed.Trees.{value-json_tokens, ArePrintable-json_tokens}
use Rattle.serde_json.specs.Data.{string, item}
use Rattle.serde_json.specs.View.{items_of}
use Rattle.serde_json.specs.Read.{read, of_json, of_items, max_depth}
use Rattle.serde_json.specs.Written.{outline, items_outline}
use Rattle.serde_json.proofs.Texts.{print-outline}
use Rattle.ts_core.specs.facts.Facts.{Text}
use Rattle.ts_core.specs.settings.Settings.{Rule, Settings}
use Rattle.ts_core.specs.facts.TimeUnits.{duration_unit_of}
use Rattle.ts_core.specs.declared.facts.time_unit.TimeUnit.TheVariants.{Nanoseconds}
use Rattle.ts_core.specs.facts.Durations.{duration_of, span_of, offset_of, keeping_of, counted_up, counted_down}
use Rattle.ts_core.specs.settings.SettingsTexts.{if_not_empty, filled_text, each, rule_parsed, settings_parsed}
use Rattle.ts_core.specs.settings.SettingsWritten.{nanoseconds_text, keeping_text, rule_data, settings_data, settings_text, MayBeWritten, HaveText, SettingsReadBack}
use Rattle.ts_core.proofs.facts.DurationLaws.{digit_is, term_of, no_terms, spelled_read}
use Rattle.ts_core.proofs.settings.SettingsForms.{rule_parts_read, parts_read, faultless}
use Rattle.ts_core.proofs.settings.SettingsLaws.{settings_are}
use Rattle.ts_core.proofs.text.NumberLemmas.{digit_not_minus}

-- ---- durations

ns_called : duration_unit_of (codes "ns") ≡ Some Nanoseconds
unfolding duration_unit_of
ns_called = refl

number_back : (n : ℕ) → n < 2 ^ 64 → duration_of (decimal n ++ codes "ns") ≡ Some n
number_back n lt =
    let is = decimal_is_IsNumeral n lt in
    let term = term_of (decimal n) (codes "ns") Nanoseconds in
    let worth : digits_value 10 (decimal n) * 1 + 0 ≡ n = omega (arith, is.1) in
    spelled_read (term ∷ []) (record { number = is.0; called = ns_called }, tt) (no_terms term []) ∙ ap Some worth

span_back : (n : ℕ) → n < 2 ^ 63 → span_of (decimal n ++ codes "ns") ≡ Some (pos n)
unfolding span_of
span_back n lt = ap (option_and_then counted_up) (number_back n (omega arith)) ∙ (let up : counted_up n ≡ Some (pos n) = grind (arith, nat_tests) in up)

-- a text begins with a digit
record BeginsWithDigit (text : Text) : Type 0 where
  first : ℕ
  behind : Text
  is : text ≡ first ∷ behind
  digit : is_ascii_digit first ≡ true

begins : (ds rest : Text) → IsNumeral 10 ds → BeginsWithDigit (ds ++ rest)
begins [] rest w = absurd (omega (arith, w.0))
begins (b ∷ bs) rest w = record { first = b; behind = bs ++ rest; is = refl; digit = digit_is b w.1.0 }

offset_plain : (text : Text) → BeginsWithDigit text → offset_of text ≡ span_of text
unfolding offset_of
offset_plain text d = let no = digit_not_minus d.first d.digit in rw d.is (rw no refl)

keeping_plain : (text : Text) → BeginsWithDigit text → keeping_of text ≡ span_of text
unfolding keeping_of
keeping_plain text d = let no : (d.first == 73) ≡ false = grind (arith, nat_tests, d.digit) in rw d.is (rw no refl)

interval_back : (i : ℤ) → pos 1 ≤ℤ i → FitsSigned w64 i → span_of (nanoseconds_text i) ≡ Some i
interval_back (pos n) some fits = span_back n (omega (arith, ints))
interval_back (negsuc n) some fits = absurd (omega (arith, ints, some))

minus_back : (text : Text) → offset_of (45 ∷ text) ≡ option_and_then counted_down (duration_of text)
unfolding offset_of
minus_back text = refl

offset_back : (o : ℤ) → FitsSigned w64 o → offset_of (nanoseconds_text o) ≡ Some o
offset_back (pos n) fits =
    let lt : n < 2 ^ 63 = omega (arith, ints) in
    let is = decimal_is_IsNumeral n (omega arith) in
    offset_plain (decimal n ++ codes "ns") (begins (decimal n) (codes "ns") is.0) ∙ span_back n lt
offset_back (negsuc n) fits =
    let le : suc n ≤ 2 ^ 63 = omega (arith, ints) in
    minus_back (decimal (suc n) ++ codes "ns") ∙ ap (option_and_then counted_down) (number_back (suc n) (omega arith)) ∙ (let down : counted_down (suc n) ≡ Some (negsuc n) = grind (arith, nat_tests) in down)

for_ever_back : keeping_of (codes "INF") ≡ Some (pos 0)
unfolding keeping_of
for_ever_back = refl

keeping_back : (n : ℕ) → n < 2 ^ 63 → keeping_of (keeping_text n) ≡ Some (pos n)
keeping_back n lt =
    ⊎_elim {C = keeping_of (keeping_text n) ≡ Some (pos n)}
    (λ none. let zero_is : 0 ≡ n = grind (arith, nat_tests) in rw none (for_ever_back ∙ ap (λ (k : ℕ). Some (pos k)) zero_is))
    (λ some. let is = decimal_is_IsNumeral n (omega arith) in
    rw some (keeping_plain (decimal n ++ codes "ns") (begins (decimal n) (codes "ns") is.0) ∙ span_back n lt))
    (cases_Bool (n == 0))

-- ---- rules and settings

filled_back : (text : Text) → text ≢ [] → if_not_empty text ≡ Some text
filled_back [] some = absurd (some refl)
filled_back (b ∷ bs) some = refl

tags_back : (tags : List Text) → AllByRecursion (λ tag. tag ≢ []) tags → each filled_text (items_of (map string tags)) ≡ Some tags
tags_back [] w = refl
tags_back (t ∷ ts) w = rw (filled_back t w.0) (ap (option_map (λ xs. t ∷ xs)) (tags_back ts w.1))

rule_back : (r : Rule) → pos 1 ≤ℤ r.interval → MayBeWritten r → rule_parsed (rule_data r) ≡ Some r
rule_back r some w =
    rule_parts_read (rule_data r) (items_of (map string r.kept_tags)) r.name r.measurement r.interval r.offset r.kept_tags (pos r.duration)
    refl refl (filled_back r.measurement w.measured) (interval_back r.interval some w.interval) (offset_back r.offset w.offset)
    refl (tags_back r.kept_tags w.tagged) (keeping_back r.duration w.duration)

rules_back : (rs : List Rule) → AllByRecursion (λ (r : Rule). pos 1 ≤ℤ r.interval) rs → AllByRecursion MayBeWritten rs → each rule_parsed (items_of (map rule_data rs)) ≡ Some rs
rules_back [] some w = refl
rules_back (r ∷ rs) some w = rw (rule_back r some.0 w.0) (ap (option_map (λ xs. r ∷ xs)) (rules_back rs some.1 w.1))

data_back : (s : Settings) → HaveText s → settings_parsed (settings_data s) ≡ Some s
data_back s w =
    parts_read (settings_data s) (items_of (map rule_data s.rules)) (pos s.raw_duration) s.rules refl (keeping_back s.raw_duration w.raw) refl
    (rules_back s.rules (settings_are s w.faultless).intervals w.rules)

-- ---- JSON

texts_json : (ts : List Text) → of_items (items_outline (items_of (map string ts))) ≡ Some (items_of (map string ts))
texts_json [] = refl
texts_json (t ∷ ts) = ap (option_map (item (string t))) (texts_json ts)

rules_json : (rs : List Rule) → of_items (items_outline (items_of (map rule_data rs))) ≡ Some (items_of (map rule_data rs))
rules_json [] = refl
rules_json (r ∷ rs) = ap (option_and_then (λ d. option_map (item d) (of_items (items_outline (items_of (map rule_data rs)))))) (let e : of_json (outline (rule_data r)) ≡ Some (rule_data r) = rw (texts_json r.kept_tags) refl in e) ∙ ap (option_map (item (rule_data r))) (rules_json rs)

texts_flat : (ts : List Text) → tree.items_depth (items_outline (items_of (map string ts))) ≡ 0
texts_flat [] = refl
texts_flat (t ∷ ts) = rw (texts_flat ts) refl

rules_depth : (rs : List Rule) → tree.items_depth (items_outline (items_of (map rule_data rs))) ≤ 2
rules_depth [] = omega arith
rules_depth (r ∷ rs) = let flat : tree.depth (outline (rule_data r)) ≡ 2 = rw (texts_flat r.kept_tags) refl in omega (arith, rules_depth rs)

texts_numbers : (ts : List Text) → tree.ItemsHaveNumbers (items_outline (items_of (map string ts)))
texts_numbers [] = tt
texts_numbers (t ∷ ts) = (tt, texts_numbers ts)

rules_numbers : (rs : List Rule) → tree.ItemsHaveNumbers (items_outline (items_of (map rule_data rs)))
rules_numbers [] = tt
rules_numbers (r ∷ rs) = ((tt, (tt, (texts_numbers r.kept_tags, (tt, (tt, (tt, tt)))))), rules_numbers rs)

printed_back : (j : json.Json) → tree.HasNumbers j → tree.depth j ≤ max_depth → read (print (tree.json_tokens j)) ≡ of_json j
printed_back j has flat =
    ap (λ o. option_and_then of_json (option_and_then (λ p. json.if_last p.0 p.1) o))
    (ap (json.value max_depth) (tokens-print (tree.json_tokens j) (ArePrintable-json_tokens j has) ∙ sym (append-nil (tree.json_tokens j))) ∙ value-json_tokens j max_depth [] flat)

text_read : (s : Settings) → read (settings_text s) ≡ Some (settings_data s)
text_read s =
    let j = outline (settings_data s) in
    ap read (sym (print-outline (settings_data s))) ∙ printed_back j (tt, (rules_numbers s.rules, tt)) (omega (arith, rules_depth s.rules)) ∙ rw (rules_json s.rules) refl

pub settings_read_back : SettingsReadBack
settings_read_back s w = faultless (settings_text s) (settings_data s) s (text_read s) (data_back s w) w.faultless
