-- The length of a body, as `parse` reads it.
use Rattle.std.proofs.Common.{◌≡◌, ℕ, ◌<◌, ◌≤◌, true, not, ◌==◌, [], ◌∷◌, length, refl, arith}
use Rattle.std.proofs.lemmas.Bool.{and_parts, leb-true}
use Rattle.std.proofs.lemmas.Str.Ascii.{IsAscii-nil, IsAscii-cons}
use Rattle.std.proofs.lemmas.Str.Parse.{digits_value_short, numerals_by_value, tells_digits}
use Rattle.std.proofs.lemmas.Bool.Decides.{nat_tests}
use Rattle.std.proofs.lemmas.Str.{IsUtf8-from_ascii}
use Rattle.std.specs.Prelude.{IsAscii, nat_le}
use Rattle.std.specs.Str.{IsUtf8}
use Rattle.std.specs.Char.{is_ascii_digit}
use Rattle.std.specs.List.{list_all}
use Rattle.std.specs.Str.Parse.{IsNumeral, AllDigits, without_leading_plus, digits_value}
use Rattle.ts_core.specs.facts.Facts.{Text}
use Rattle.ts_core.specs.text.Numbers.{are_digits}
use Rattle.ts_core.proofs.text.NumberLemmas.{all_digits, digit_not_plus}
use Rattle.ts_http.specs.Requests.{is_short_number}

record Digits (value : Text) : Type 0 where
  some : 0 < length value
  few : length value ≤ 18
  digits : list_all is_ascii_digit value ≡ true

not_empty : (value : Text) → not (length value == 0) ≡ true → 0 < length value
not_empty value e = grind (arith, nat_tests)

digits_of : (value : Text) → is_short_number value ≡ true → Digits value
digits_of value e =
    let a = and_parts (are_digits value) (nat_le (length value) 18) e in
    let b = and_parts (not (length value == 0)) (list_all is_ascii_digit value) a.0 in
    record { some = not_empty value b.0; few = leb-true (length value) 18 a.1; digits = b.1 }

no_plus : (value : Text) → list_all is_ascii_digit value ≡ true → without_leading_plus value ≡ value
no_plus [] e = refl
no_plus (c ∷ cs) e =
    let p = and_parts (is_ascii_digit c) (list_all is_ascii_digit cs) e in
    rw (digit_not_plus c p.0) refl

small : (c : ℕ) → is_ascii_digit c ≡ true → c < 128
small c e = grind (arith, nat_tests)

digits_ascii : (value : Text) → list_all is_ascii_digit value ≡ true → IsAscii value
digits_ascii [] e = IsAscii-nil
digits_ascii (c ∷ cs) e =
    let p = and_parts (is_ascii_digit c) (list_all is_ascii_digit cs) e in
    IsAscii-cons c cs (small c p.0) (digits_ascii cs p.1)

pub length_is_text : (value : Text) → is_short_number value ≡ true → IsUtf8 value
length_is_text value e = IsUtf8-from_ascii value (digits_ascii value (digits_of value e).digits)

pub length_parses : (value : Text) → is_short_number value ≡ true → IsNumeral 10 (without_leading_plus value) × (digits_value 10 (without_leading_plus value) < 18446744073709551616)
length_parses value e =
    let d = digits_of value e in
    let all = all_digits value d.digits in
    rw (no_plus value d.digits) ((d.some, all), omega (arith, digits_value_short (numerals_by_value (AllDigits 10) tells_digits) value 18 all d.few))
