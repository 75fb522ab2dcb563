-- The digits and the calendar of timestamps.
use Rattle.std.proofs.Common.{◌≡◌, ℕ, ◌<◌, ◌≤◌, true, not, ◌==◌, ◌&&◌, [], ◌∷◌, length, arith, refl, ap, ◌∙◌, leb, Some, ℤ, pos, to_z, w8, ◌-ℤ◌, ◌*ℤ◌}
use Rattle.std.specs.Prelude.{IsAscii}
use Rattle.std.specs.Char.{is_ascii_digit}
use Rattle.std.specs.Int.{w16}
use Rattle.std.specs.List.{list_all}
use Rattle.std.specs.Str.{IsUtf8}
use Rattle.std.proofs.lemmas.Bool.{and_parts, le-leb}
use Rattle.std.proofs.lemmas.Bool.Decides.{nat_tests}
use Rattle.std.proofs.lemmas.Int.{ints, to_z_pos}
use Rattle.std.proofs.lemmas.Str.{IsUtf8-from_ascii}
use Rattle.std.proofs.lemmas.Str.Ascii.{IsAscii-nil, IsAscii-cons}
use Rattle.jiff_core.specs.Calendar.{IsDate, days_in_month, days_from_civil}
use Rattle.ts_core.specs.facts.Facts.{Text}
use Rattle.ts_core.specs.text.Numbers.{are_digits, is_number}
use Rattle.ts_core.proofs.text.NumberLemmas.{digit_not_minus}
use Rattle.ts_ql.specs.Dates.{is_date, midnight}

-- ---- digits

digit_is_small : (b : ℕ) → is_ascii_digit b ≡ true → b < 128
digit_is_small b e = grind (arith, nat_tests)

digits_are_ascii : (text : Text) → list_all is_ascii_digit text ≡ true → IsAscii text
digits_are_ascii [] e = IsAscii-nil
digits_are_ascii (b ∷ bs) e =
    let p = and_parts (is_ascii_digit b) (list_all is_ascii_digit bs) e in
    IsAscii-cons b bs (digit_is_small b p.0) (digits_are_ascii bs p.1)

pub digits_are_utf8 : (text : Text) → are_digits text ≡ true → IsUtf8 text
digits_are_utf8 text e =
    IsUtf8-from_ascii text (digits_are_ascii text (and_parts (not (length text == 0)) (list_all is_ascii_digit text) e).1)

pub digits_are_number : (text : Text) → are_digits text ≡ true → is_number text ≡ true
unfolding is_number
digits_are_number [] e = e
digits_are_number (b ∷ bs) e =
    let all = (and_parts (not (length (b ∷ bs) == 0)) (list_all is_ascii_digit (b ∷ bs)) e).1 in
    rw (digit_not_minus b (and_parts (is_ascii_digit b) (list_all is_ascii_digit bs) all).0) e

-- ---- the calendar

all_in : (year month day days : ℕ) → year ≤ 9999 → 1 ≤ month → month ≤ 12 → 1 ≤ day → day ≤ days
    → (leb year 9999 && leb 1 month && leb month 12 && leb 1 day && leb day days) ≡ true
all_in year month day days a b c d e = rw (le-leb year 9999 a, le-leb 1 month b, le-leb month 12 c, le-leb 1 day d, le-leb day days e) refl

date_is : (year month day : ℕ) → year ≤ 9999 → IsDate (pos year) (pos month) (pos day) → is_date year month day ≡ true
date_is year month day few h =
    all_in year month day (days_in_month (pos year) month) few (omega (arith, ints, h.1.0)) (omega (arith, ints, h.1.1)) (omega (arith, ints, h.2.0)) (omega (arith, ints, h.2.1))

day_zero : days_from_civil (pos 1970) 1 1 ≡ pos 0
unfolding days_from_civil
day_zero = omega (arith, ints)

same_pos : (m n : ℕ) → pos m ≡ pos n → m ≡ n
same_pos m n e = cc

less_nothing : (x : ℤ) → x -ℤ pos 0 ≡ x
less_nothing x = omega (arith, ints)

-- the nanoseconds that jiff computes for a date are those of its midnight
pub midnight_read : (year month day : ℕ) (y y0 : ℤ) (m d m0 d0 : ℕ) (r : ℤ) → year ≤ 9999 → month ≤ 12 → day ≤ 31
    → IsDate (to_z w16 year) (to_z w8 month) (to_z w8 day)
    → y ≡ to_z w16 year → pos m ≡ to_z w8 month → pos d ≡ to_z w8 day → y0 ≡ pos 1970 → pos m0 ≡ pos 1 → pos d0 ≡ pos 1
    → r ≡ (days_from_civil y m d -ℤ days_from_civil y0 m0 d0) *ℤ pos 86400000000000
    → Some r ≡ midnight year month day
unfolding midnight
midnight_read year month day y y0 m d m0 d0 r few months days is ey em ed ey0 em0 ed0 value =
    let py : to_z w16 year ≡ pos year = to_z_pos w16 year (omega arith) in
    let pm : to_z w8 month ≡ pos month = to_z_pos w8 month (omega arith) in
    let pd : to_z w8 day ≡ pos day = to_z_pos w8 day (omega arith) in
    let date = rw (py, pm, pd) at is in
    let sm : m ≡ month = same_pos m month (em ∙ pm) in
    let sd : d ≡ day = same_pos d day (ed ∙ pd) in
    let zero : days_from_civil y0 m0 d0 ≡ pos 0 = rw (ey0, same_pos m0 1 em0, same_pos d0 1 ed0) day_zero in
    let of_day : days_from_civil y m d ≡ days_from_civil (pos year) month day = rw (ey ∙ py, sm, sd) refl in
    let total : (days_from_civil y m d -ℤ days_from_civil y0 m0 d0) ≡ days_from_civil (pos year) month day = rw (zero, of_day) (less_nothing (days_from_civil (pos year) month day)) in
    rw (date_is year month day few date) (ap (λ (z : ℤ). Some z) (value ∙ ap (λ (z : ℤ). z *ℤ pos 86400000000000) total))
