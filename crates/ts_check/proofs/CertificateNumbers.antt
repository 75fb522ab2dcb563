-- The decimal of a number: digits that don't begin with 0, or 0 alone.
use Rattle.std.proofs.Common.{◌≡◌, ℕ, zero, suc, ◌<◌, ◌≤◌, ◌^◌, Bool, true, false, not, eqb, ◌||◌, [], ◌∷◌, length, get_or, refl, sym, ap, arith}
use Rattle.std.specs.Char.{is_ascii_digit, digit_value}
use Rattle.std.specs.List.{list_all}
use Rattle.std.specs.Fmt.{decimal}
use Rattle.std.specs.Str.Parse.{AllDigits, digits_value}
use Rattle.std.proofs.lemmas.Bool.{and_parts, and_from, false≢true}
use Rattle.std.proofs.lemmas.Bool.Decides.{nat_tests}
use Rattle.std.proofs.lemmas.Fmt.{decimal_is_IsNumeral, decimal_digit, first_decimal, decimal-digits_value}
use Rattle.std.proofs.lemmas.Str.Parse.{IsNumeralModel, digit_from_value}
use Rattle.ts_core.specs.facts.Facts.{Text}
use Rattle.ts_check.specs.CertificateTexts.{is_magnitude, AreDecimals}

own : IsNumeralModel (AllDigits 10) (digits_value 10)
own = record { to = λ ds d. d; from = λ ds d. d; same = λ ds d. refl }

digit_below : (c : ℕ) → is_ascii_digit c ≡ true → digit_value c < 10
digit_below c e = grind (arith, nat_tests)

digit_within : (c : ℕ) → 48 ≤ c → c ≤ 57 → is_ascii_digit c ≡ true
digit_within c low high = grind (arith, nat_tests)

all_digits : (ds : Text) → list_all is_ascii_digit ds ≡ true → AllDigits 10 ds
all_digits [] e = tt
all_digits (c ∷ cs) e =
    let p = and_parts (is_ascii_digit c) (list_all is_ascii_digit cs) e in
    (digit_below c p.0, all_digits cs p.1)

digits_pass : (ds : Text) → AllDigits 10 ds → list_all is_ascii_digit ds ≡ true
digits_pass [] d = refl
digits_pass (c ∷ cs) d =
    let range = digit_from_value c d.0 in
    and_from (is_ascii_digit c) (list_all is_ascii_digit cs) (digit_within c range.0 range.1) (digits_pass cs d.1)

same_from : (a b : ℕ) → eqb a b ≡ true → a ≡ b
same_from a b h = grind (arith, nat_tests)

same_test : (a b : ℕ) → a ≡ b → eqb a b ≡ true
same_test a b h = grind (arith, nat_tests)

lead_by : (b n : ℕ) → (b ≡ 48 → n ≡ 0) → (not (eqb b 48) || eqb n 0) ≡ true
lead_by b n h =
    elim (eqb b 48) as (λ t. eqb b 48 ≡ t → (not t || eqb n 0) ≡ true) [
      | true ↦ λ e. same_test n 0 (h (same_from b 48 e))
      | false ↦ λ e. refl
    ] refl

lead_from : (t : Bool) (n : ℕ) → (not t || eqb n 0) ≡ true → t ≡ true → n ≡ 0
lead_from true n e h = same_from n 0 e
lead_from false n e h = absurd (false≢true h)

magnitude_by : (ds : Text) → AllDigits 10 ds → 0 < length ds → (get_or ds 0 0 ≡ 48 → length ds ≡ 1) → is_magnitude ds ≡ true
magnitude_by [] d s f = absurd (omega arith)
magnitude_by (b ∷ bs) d s f =
    and_from (list_all is_ascii_digit (b ∷ bs)) (not (eqb b 48) || eqb (length bs) 0) (digits_pass (b ∷ bs) d) (lead_by b (length bs) (λ e. let one = f e in omega (arith, one)))

lead : (n : ℕ) → n < 2 ^ 64 → get_or (decimal n) 0 0 ≡ 48 → length (decimal n) ≡ 1
lead zero h e = ap length (decimal_digit 0 (omega arith))
lead (suc n) h e = let first = first_decimal (suc n) (omega arith) h in absurd (omega (arith, first, e))

spelled : (ds : Text) → is_magnitude ds ≡ true → digits_value 10 ds < 2 ^ 64 → ds ≡ decimal (digits_value 10 ds)
spelled [] e h = absurd (false≢true e)
spelled (b ∷ bs) e h =
    let p = and_parts (list_all is_ascii_digit (b ∷ bs)) (not (eqb b 48) || eqb (length bs) 0) e in
    sym (
    decimal-digits_value own (b ∷ bs) (all_digits (b ∷ bs) p.0) (omega arith)
    (λ z. let none = lead_from (eqb b 48) (length bs) p.1 (same_test b 48 z) in omega (arith, none)) h
    )

pub decimals : AreDecimals
decimals = record {
  written = λ n h. let k = decimal_is_IsNumeral n h in (magnitude_by (decimal n) k.0.1 k.0.0 (lead n h), k.1);
  only = spelled;
}
