-- Bounds of timestamps and literals: far below 128 bits.
use Rattle.std.proofs.Common.{◌≡◌, ℕ, zero, suc, ◌+◌, ◌-◌, ◌*◌, ◌<◌, ◌≤◌, ◌^◌, ℤ, pos, neg_ℤ, ◌+ℤ◌, ◌-ℤ◌, ◌*ℤ◌, unsigned_abs, Bool, true, false, ◌&&◌, ◌||◌, Option, Some, None, arith, refl, length}
use Rattle.std.specs.Prelude.{⊤, if◌then◌else◌, nat_lt, nat_le, ◌==◌, option_and_then, drop, take, slice_range, slice_index}
use Rattle.std.proofs.lemmas.Bool.{leb-true, ltb-true}
use Rattle.std.proofs.lemmas.Int.{ints, unsigned_abs-mul}
use Rattle.jiff_core.specs.Calendar.{is_leap_year, days_in_month, days_of_years, days_of_months, day_count, days_from_civil}
use Rattle.ts_core.specs.facts.Durations.{in_64_bits}
use Rattle.ts_core.specs.facts.Facts.{Text}
use Rattle.ts_ql.specs.Dates.{digits, midnight, date_of, fraction, place_value, clock_nanos, time_of_day, without_zone, day_plus_clock, timestamp_of}
use Rattle.ts_ql.specs.Literals.{magnitude, literal}

-- P of the value, if there is one
abbrev pub Holds : {A : Type 0} → (A → Type 0) → Option A → Type 0
Holds {A} P None = ⊤
Holds {A} P (Some x) = P x

holds_if : {A : Type 0} (P : A → Type 0) (b : Bool) (o : Option A) → Holds P o → Holds P (if b then o else None)
holds_if {A} P true o h = h
holds_if {A} P false o h = tt

holds_then : {A B : Type 0} (P : B → Type 0) (o : Option A) (f : A → Option B) → ((x : A) → Holds P (f x)) → Holds P (option_and_then f o)
holds_then {A} {B} P None f h = tt
holds_then {A} {B} P (Some x) f h = h x

-- ---- days

year_short : (b : Bool) → (if b then 366 else 365) ≤ 366
year_short true = omega arith
year_short false = omega arith

years_short : (n : ℕ) → days_of_years n ≤ 366 * n
unfolding days_of_years
years_short zero = omega arith
years_short (suc n) = omega (arith, years_short n, year_short (is_leap_year (pos n -ℤ pos 10000)))

month_short : (a b c : Bool) → (if a then (if b then 29 else 28) else (if c then 30 else 31)) ≤ 31
month_short true true c = omega arith
month_short true false c = omega arith
month_short false b true = omega arith
month_short false b false = omega arith

months_short : (y : ℤ) (n : ℕ) → days_of_months y n ≤ 31 * n
unfolding days_of_months
months_short y zero = omega arith
months_short y (suc n) = omega (arith, months_short y n, month_short (suc n == 2) (is_leap_year y) ((suc n == 4) || (suc n == 6) || (suc n == 9) || (suc n == 11)))

plain_years : (year : ℕ) → unsigned_abs (pos year +ℤ pos 10000) ≡ year + 10000
plain_years year = omega (arith, ints)

count_short : (year month day : ℕ) → year ≤ 9999 → month ≤ 12 → day ≤ 31 → day_count (pos year) month day ≤ 2 ^ 30
unfolding day_count
count_short year month day few months days =
    let years : days_of_years (unsigned_abs (pos year +ℤ pos 10000)) ≤ 366 * unsigned_abs (pos year +ℤ pos 10000) = years_short (unsigned_abs (pos year +ℤ pos 10000)) in
    let size : unsigned_abs (pos year +ℤ pos 10000) ≡ year + 10000 = plain_years year in
    let early : days_of_months (pos year) (month - 1) ≤ 31 * (month - 1) = months_short (pos year) (month - 1) in
    omega arith

apart_short : (a b : ℕ) → a ≤ 2 ^ 30 → b ≤ 2 ^ 30 → unsigned_abs (pos a -ℤ pos b) ≤ 2 ^ 40
apart_short a b h k = omega (arith, ints)

days_short : (year month day : ℕ) → year ≤ 9999 → month ≤ 12 → day ≤ 31 → unsigned_abs (days_from_civil (pos year) month day) ≤ 2 ^ 40
unfolding days_from_civil
days_short year month day few months days =
    apart_short (day_count (pos year) month day) (day_count (pos 1970) 1 1) (count_short year month day few months days) (count_short 1970 1 1 (omega arith) (omega arith) (omega arith))

-- ---- moments

-- the value lies near the epoch
abbrev pub IsNear : ℤ → Type 0
IsNear z = unsigned_abs z ≤ 2 ^ 101

scaled : (z : ℤ) → unsigned_abs z ≤ 2 ^ 40 → unsigned_abs (z *ℤ pos 86400000000000) ≤ 2 ^ 100
scaled z h = rw (unsigned_abs-mul z (pos 86400000000000)) (omega arith)

abbrev IsDay : ℤ → Type 0
IsDay z = unsigned_abs z ≤ 2 ^ 100

month_at_most : (a b c : Bool) (day : ℕ) → day ≤ (if a then (if b then 29 else 28) else (if c then 30 else 31)) → day ≤ 31
month_at_most a b c day h = omega (arith, month_short a b c)

midnight_by : (year month day : ℕ) (a b c d e : Bool) → nat_le year 9999 ≡ a → nat_le 1 month ≡ b → nat_le month 12 ≡ c → nat_le 1 day ≡ d → nat_le day (days_in_month (pos year) month) ≡ e
    → Holds IsDay (if a && b && c && d && e then Some (days_from_civil (pos year) month day *ℤ pos 86400000000000) else None)
midnight_by year month day true true true true true few some months first days =
    scaled (days_from_civil (pos year) month day)
    (days_short year month day (leb-true year 9999 few) (leb-true month 12 months)
    (month_at_most (month == 2) (is_leap_year (pos year)) ((month == 4) || (month == 6) || (month == 9) || (month == 11)) day (leb-true day (days_in_month (pos year) month) days)))
midnight_by year month day false b c d e few some months first days = tt
midnight_by year month day true false c d e few some months first days = tt
midnight_by year month day true true false d e few some months first days = tt
midnight_by year month day true true true false e few some months first days = tt
midnight_by year month day true true true true false few some months first days = tt

midnight_near : (year month day : ℕ) → Holds IsDay (midnight year month day)
unfolding midnight
midnight_near year month day = midnight_by year month day (nat_le year 9999) (nat_le 1 month) (nat_le month 12) (nat_le 1 day) (nat_le day (days_in_month (pos year) month)) refl refl refl refl refl

date_near : (text : Text) → Holds IsDay (date_of text)
unfolding date_of
date_near text =
    holds_if IsDay (length text == 10 && slice_index text 4 == 45 && slice_index text 7 == 45) _
    (holds_then IsDay (digits (slice_range text 0 4)) _ (λ year. holds_then IsDay (digits (slice_range text 5 7)) _ (λ month. holds_then IsDay (digits (slice_range text 8 10)) _ (λ day. midnight_near year month day))))

abbrev IsShort : ℕ → Type 0
IsShort n = n ≤ 2 ^ 65

within_short : (n : ℕ) (b : Bool) → nat_lt n (2 ^ 64) ≡ b → Holds IsShort (if b then Some n else None)
within_short n true e = let lt : n < 2 ^ 64 = ltb-true n (2 ^ 64) e in omega arith
within_short n false e = tt

fraction_by : (text : Text) (none point : Bool) → Holds IsShort (if none then Some 0
    else if point then option_and_then (λ n. in_64_bits (n * place_value (length text - 1))) (digits (drop 1 text)) else None)
fraction_by text true point = omega arith
fraction_by text false true =
    holds_then IsShort (digits (drop 1 text)) _ (λ n. within_short (n * place_value (length text - 1)) (nat_lt (n * place_value (length text - 1)) (2 ^ 64)) refl)
fraction_by text false false = tt

fraction_short : (text : Text) → Holds IsShort (fraction text)
unfolding fraction
fraction_short text = fraction_by text (length text == 0) (slice_index text 0 == 46 && nat_le 2 (length text) && nat_le (length text) 10)

abbrev IsClock : ℕ → Type 0
IsClock n = n ≤ 2 ^ 66

clock_by : (hour minute second nanos : ℕ) (a b c : Bool) → nat_lt hour 24 ≡ a → nat_lt minute 60 ≡ b → nat_lt second 60 ≡ c → nanos ≤ 2 ^ 65
    → Holds IsClock (if a && b && c then Some (((hour * 60 + minute) * 60 + second) * 1000000000 + nanos) else None)
clock_by hour minute second nanos true true true e f g short =
    let h : hour < 24 = ltb-true hour 24 e in
    let m : minute < 60 = ltb-true minute 60 f in
    let s : second < 60 = ltb-true second 60 g in
    omega arith
clock_by hour minute second nanos false b c e f g short = tt
clock_by hour minute second nanos true false c e f g short = tt
clock_by hour minute second nanos true true false e f g short = tt

clock_short : (hour minute second : ℕ) (o : Option ℕ) → Holds IsShort o → Holds IsClock (option_and_then (λ nanos. clock_nanos hour minute second nanos) o)
clock_short hour minute second None h = tt
clock_short hour minute second (Some nanos) h = clock_by hour minute second nanos (nat_lt hour 24) (nat_lt minute 60) (nat_lt second 60) refl refl refl h

time_of_day_short : (text : Text) → Holds IsClock (time_of_day text)
unfolding time_of_day
time_of_day_short text =
    holds_if IsClock (nat_le 8 (length text) && slice_index text 2 == 58 && slice_index text 5 == 58) _
    (holds_then IsClock (digits (slice_range text 0 2)) _ (λ hour. holds_then IsClock (digits (slice_range text 3 5)) _ (λ minute. holds_then IsClock (digits (slice_range text 6 8)) _
    (λ second. clock_short hour minute second (fraction (drop 8 text)) (fraction_short (drop 8 text))))))

day_near : (o : Option ℤ) → Holds IsDay o → Holds IsNear o
day_near None h = tt
day_near (Some z) h = omega arith

later_near : (date : Option ℤ) (clock : Option ℕ) → Holds IsDay date → Holds IsClock clock → Holds IsNear (day_plus_clock date clock)
later_near None clock h k = tt
later_near (Some day) None h k = tt
later_near (Some day) (Some nanos) h k = omega (arith, ints)

told_by_length : (text : Text) (short parted : Bool) → Holds IsNear (if short then date_of text
    else if parted then day_plus_clock (date_of (take 10 text)) (time_of_day (without_zone (drop 11 text))) else None)
told_by_length text true parted = day_near (date_of text) (date_near text)
told_by_length text false true = later_near (date_of (take 10 text)) (time_of_day (without_zone (drop 11 text))) (date_near (take 10 text)) (time_of_day_short (without_zone (drop 11 text)))
told_by_length text false false = tt

pub moment_told_near : (text : Text) → Holds IsNear (timestamp_of text)
unfolding timestamp_of
moment_told_near text = told_by_length text (nat_le (length text) 10) (slice_index text 10 == 84 || slice_index text 10 == 32)

-- ---- literals

negative_near : (n : ℕ) (b : Bool) → nat_le n (2 ^ 63) ≡ b → Holds IsNear (if b then Some (neg_ℤ (pos n)) else None)
negative_near n true e = let le : n ≤ 2 ^ 63 = leb-true n (2 ^ 63) e in omega (arith, ints)
negative_near n false e = tt

positive_near : (n : ℕ) (b : Bool) → nat_lt n (2 ^ 63) ≡ b → Holds IsNear (if b then Some (pos n) else None)
positive_near n true e = let lt : n < 2 ^ 63 = ltb-true n (2 ^ 63) e in omega (arith, ints)
positive_near n false e = tt

pub literal_near : (negative : Bool) (text : Text) → Holds IsNear (literal negative text)
unfolding literal
literal_near true text = negative_near (magnitude text) (nat_le (magnitude text) (2 ^ 63)) refl
literal_near false text = positive_near (magnitude text) (nat_lt (magnitude text) (2 ^ 63)) refl
