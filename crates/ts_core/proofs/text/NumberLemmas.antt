-- Numbers as text: the texts that `parse` accepts, and the numbers that fit 64 bits.
use Rattle.std.proofs.Common.{◌≡◌, ℕ, ◌<◌, Bool, true, false, cond, not, eqb, [], ◌∷◌, length, sym, refl, arith, ℤ, pos, neg_ℤ, FitsSigned, w64, Option, Some, None, ◌==◌}
use Rattle.std.specs.Char.{is_ascii_digit, digit_value}
use Rattle.std.specs.List.{list_all}
use Rattle.std.specs.Str.Parse.{AllDigits, IsNumeral, without_leading_sign, signed_digits_value}
use Rattle.std.proofs.lemmas.Bool.{and_parts}
use Rattle.std.proofs.lemmas.Bool.Decides.{nat_tests}
use Rattle.std.proofs.lemmas.Int.{ints}
use Rattle.std.proofs.lemmas.Option.{cond_some}
use Rattle.ts_core.specs.facts.Facts.{Text}
use Rattle.ts_core.specs.text.Numbers.{is_number, without_minus, is_from_to, whole_of}

pub digit_below : (c : ℕ) → is_ascii_digit c ≡ true → digit_value c < 10
digit_below c e = grind (arith, nat_tests)

pub digit_not_plus : (c : ℕ) → is_ascii_digit c ≡ true → eqb c 43 ≡ false
digit_not_plus c e = grind (arith, nat_tests)

pub digit_not_minus : (c : ℕ) → is_ascii_digit c ≡ true → (c == 45) ≡ false
digit_not_minus c e = grind (arith, nat_tests)

pub all_digits : (ds : Text) → list_all is_ascii_digit ds ≡ true → AllDigits 10 ds
all_digits [] e = tt
all_digits (c ∷ cs) e =
    let p = and_parts (is_ascii_digit c) (list_all is_ascii_digit cs) e in
    (digit_below c p.0, all_digits cs p.1)

not_empty : (ds : Text) → not (eqb (length ds) 0) ≡ true → 0 < length ds
not_empty ds e = grind (arith, nat_tests)

numeral_by : (b : ℕ) (bs : Text) (minus : Bool) → eqb b 45 ≡ minus → is_number (b ∷ bs) ≡ true → IsNumeral 10 (without_leading_sign (b ∷ bs))
unfolding is_number
numeral_by b bs true m e =
    let p = and_parts (not (eqb (length (without_minus (b ∷ bs))) 0)) (list_all is_ascii_digit (without_minus (b ∷ bs))) e in
    let first = rw m at p.0 in
    let rest = rw m at p.1 in
    rw m (not_empty bs first, all_digits bs rest)
numeral_by b bs false m e =
    let p = and_parts (not (eqb (length (without_minus (b ∷ bs))) 0)) (list_all is_ascii_digit (without_minus (b ∷ bs))) e in
    let first = rw m at p.0 in
    let rest = rw m at p.1 in
    let q = and_parts (is_ascii_digit b) (list_all is_ascii_digit bs) rest in
    rw (m, digit_not_plus b q.0) (not_empty (b ∷ bs) first, all_digits (b ∷ bs) rest)

-- a text of a number is a numeral to `parse`
pub numeral : (text : Text) → is_number text ≡ true → IsNumeral 10 (without_leading_sign text)
unfolding is_number
numeral [] e = absurd cc
numeral (b ∷ bs) e = numeral_by b bs (eqb b 45) refl e

-- within 64 bits
pub fits_within : (n : ℤ) → FitsSigned w64 n → is_from_to (neg_ℤ (pos 9223372036854775808)) (pos 9223372036854775807) n ≡ true
fits_within n h = grind (arith, ints)

pub within_fits : (n : ℤ) → is_from_to (neg_ℤ (pos 9223372036854775808)) (pos 9223372036854775807) n ≡ true → FitsSigned w64 n
within_fits n h = grind (arith, ints)

abbrev none_ℤ : Option ℤ
none_ℤ = None

none_by : (b : Bool) (n : ℤ) → (b ≡ true → ⊥) → none_ℤ ≡ cond b (Some n) None
none_by true n h = absurd (h refl)
none_by false n h = refl

none_within_by : (b : Bool) (n : ℤ) → none_ℤ ≡ cond b (Some n) None → b ≡ false
none_within_by true n e = cc
none_within_by false n e = refl

pub none_within : (n : ℤ) → None ≡ cond (is_from_to (neg_ℤ (pos 9223372036854775808)) (pos 9223372036854775807) n) (Some n) None → is_from_to (neg_ℤ (pos 9223372036854775808)) (pos 9223372036854775807) n ≡ false
none_within n e = none_within_by (is_from_to (neg_ℤ (pos 9223372036854775808)) (pos 9223372036854775807) n) n e

-- a number that `parse` refuses doesn't fit 64 bits
pub not_whole : (text : Text) → is_number text ≡ true → (IsNumeral 10 (without_leading_sign text) × FitsSigned w64 (signed_digits_value 10 text) → ⊥) → None ≡ whole_of text
not_whole text e h = none_by (is_from_to (neg_ℤ (pos 9223372036854775808)) (pos 9223372036854775807) (signed_digits_value 10 text)) (signed_digits_value 10 text) (λ w. h (numeral text e, within_fits (signed_digits_value 10 text) w))

-- a number that was read fits 64 bits
pub whole_fits : (text : Text) (n : ℤ) → Some n ≡ whole_of text → FitsSigned w64 n
whole_fits text n e =
    let read = cond_some (is_from_to (neg_ℤ (pos 9223372036854775808)) (pos 9223372036854775807) (signed_digits_value 10 text)) (signed_digits_value 10 text) n (sym e) in
    let fits : FitsSigned w64 (signed_digits_value 10 text) = within_fits (signed_digits_value 10 text) read.0 in
    rw read.1 at fits
