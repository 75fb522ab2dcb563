-- Numbers of units that are times.
use Rattle.std.proofs.Common.{◌≡◌, ◌↔◌, ◌<◌, ◌≤◌, ◌≤ℤ◌, ◌*◌, suc, negsuc, int_le, true, false, sym, ap, refl, ◌∙◌, arith, ℤ, pos, neg_ℤ, ◌*ℤ◌, FitsSigned, w64, Option, Some, None, IsSome, IfSome, to_z, of_z}
use Rattle.std.specs.Str.Parse.{signed_digits_value}
use Rattle.std.proofs.lemmas.Bool.{false_from_ne_true, false≢true}
use Rattle.std.proofs.lemmas.Int.{ints, to_z-of_z}
use Rattle.std.proofs.lemmas.Option.{cond_some}
use Rattle.std.proofs.Math.Nat.{mul-le-mul_left}
use Rattle.ts_core.specs.facts.Facts.{Text}
use Rattle.ts_core.specs.text.Numbers.{is_from_to, whole_of}
use Rattle.ts_core.specs.facts.Times.{IsTime, least_time, greatest_time}
use Rattle.ts_core.proofs.text.NumberLemmas.{none_within}
use Rattle.ts_line.specs.Lines.{time_of}

-- a product of what has 64 bits is that of the numbers
pub product_of : (n u m : ℤ) → FitsSigned w64 n → FitsSigned w64 u → m ≡ to_z w64 (of_z w64 n) *ℤ to_z w64 (of_z w64 u) → m ≡ n *ℤ u
product_of n u m a b e = e ∙ (ap (λ x. x *ℤ to_z w64 (of_z w64 u)) (to_z-of_z w64 n a) ∙ ap (λ x. n *ℤ x) (to_z-of_z w64 u b))

-- a valid time is within its bounds
pub time_within : (t : ℤ) → IsTime t → is_from_to least_time greatest_time t ≡ true
time_within t h = grind (arith, ints)

pub within_time : (t : ℤ) → is_from_to least_time greatest_time t ≡ true → IsTime t
within_time t h = record { not_before = grind (arith, ints); not_after = grind (arith, ints) }

-- a number that has no 64 bits is no valid time in any unit
past_units : (n unit : ℤ) → pos 1 ≤ℤ unit → is_from_to (neg_ℤ (pos 9223372036854775808)) (pos 9223372036854775807) n ≡ false → is_from_to least_time greatest_time (n *ℤ unit) ≡ false
past_units (pos m) (pos u) h e =
    let one : 1 ≤ u = omega (arith, ints) in
    let k : m * 1 ≤ m * u = mul-le-mul_left m one in
    let far : 9223372036854775807 < m = grind (arith, ints) in
    let low : int_le (pos (m * u)) (pos 9223372036854775806) ≡ false = grind (arith, ints) in
    grind (arith, ints)
past_units (negsuc m) (pos u) h e =
    let one : 1 ≤ u = omega (arith, ints) in
    let k : suc m * 1 ≤ suc m * u = mul-le-mul_left (suc m) one in
    let far : 9223372036854775807 < m = grind (arith, ints) in
    grind (arith, ints)
past_units (pos m) (negsuc u) h e = absurd (omega (arith, ints))
past_units (negsuc m) (negsuc u) h e = absurd (omega (arith, ints))

-- so it is no moment
pub no_moment : (unit : ℤ) (text : Text) → pos 1 ≤ℤ unit → None ≡ whole_of text → None ≡ time_of unit text
unfolding time_of
no_moment unit text h none =
    let out : is_from_to (neg_ℤ (pos 9223372036854775808)) (pos 9223372036854775807) (signed_digits_value 10 text) ≡ false = none_within (signed_digits_value 10 text) none in
    rw (past_units (signed_digits_value 10 text) unit h out) refl

-- a number of units, read and multiplied, is a time where that is valid
pub moment_read : (unit : ℤ) (text : Text) (n m : ℤ) (r : Option ℤ) → Some n ≡ whole_of text → m ≡ n *ℤ unit
    → (IsSome r ↔ IsTime m) → IfSome r (λ t. t ≡ m) → r ≡ time_of unit text
unfolding time_of
moment_read unit text n m None whole product valid value =
    let read = cond_some (is_from_to (neg_ℤ (pos 9223372036854775808)) (pos 9223372036854775807) (signed_digits_value 10 text)) (signed_digits_value 10 text) n (sym whole) in
    let same : signed_digits_value 10 text *ℤ unit ≡ m = ap (λ x. x *ℤ unit) read.1 ∙ sym product in
    let outside : is_from_to least_time greatest_time m ≡ false = false_from_ne_true (is_from_to least_time greatest_time m) (λ w. false≢true (valid.1 (within_time m w))) in
    rw (same, outside) refl
moment_read unit text n m (Some t) whole product valid value =
    let read = cond_some (is_from_to (neg_ℤ (pos 9223372036854775808)) (pos 9223372036854775807) (signed_digits_value 10 text)) (signed_digits_value 10 text) n (sym whole) in
    let same : signed_digits_value 10 text *ℤ unit ≡ m = ap (λ x. x *ℤ unit) read.1 ∙ sym product in
    rw (same, time_within m (valid.0 refl)) (ap (λ x. Some x) value)
