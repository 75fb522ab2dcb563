-- Durations as sums of terms, each a number times its unit; integers as the numbers of their digits.
use Rattle.std.proofs.Common.{◌≡◌, ℕ, ◌+◌, ◌*◌, ◌-◌, ◌==◌, true, false, List, [], ◌∷◌, ◌++◌, arith, refl, sym, ap, ◌∙◌, slice_index, append-nil, Some, unsigned_abs}
use Rattle.std.proofs.lemmas.Bool.Decides.{nat_tests}
use Rattle.std.specs.Char.{is_ascii_digit, digit_value}
use Rattle.std.specs.Str.Parse.{IsNumeral, AllDigits, digits_value, digits_value_after}
use Rattle.ts_core.specs.facts.Facts.{Text}
use Rattle.ts_core.specs.declared.facts.time_unit.TimeUnit.{TimeUnit}
use Rattle.ts_core.specs.facts.TimeUnits.{nanoseconds_of, duration_unit_of, duration_names, unit_begun}
use Rattle.ts_core.specs.facts.Durations.{Term, AreTerms, spelled, total}
use Rattle.ts_core.proofs.facts.DurationLaws.{digit_is, value_is}
use Rattle.ts_core.proofs.facts.UnitLemmas.{of_called}
use Rattle.ts_ql.specs.Laws.{LiteralsCount, DurationsCount, IntegersCount}
use Rattle.ts_ql.specs.Literals.{units_added_up, magnitude}
use Rattle.ts_ql.specs.DurationUnits.{nanoseconds_of_unit}

-- digits before a text
digits_added : (sum n : ℕ) (ds rest : Text) → AllDigits 10 ds → units_added_up sum n (ds ++ rest) ≡ units_added_up sum (digits_value_after 10 n ds) rest
digits_added sum n [] rest w = refl
digits_added sum n (b ∷ bs) rest w =
    let digit = digit_is b w.0 in
    let here : units_added_up sum n (b ∷ (bs ++ rest)) ≡ units_added_up sum (n * 10 + (b - 48)) (bs ++ rest) = rw digit refl in
    here ∙ ap (λ (d : ℕ). units_added_up sum (n * 10 + d) (bs ++ rest)) (sym (value_is b digit)) ∙ digits_added sum (n * 10 + digit_value b) bs rest w.1

digit_not_s : (b : ℕ) → is_ascii_digit b ≡ true → (b == 115) ≡ false
digit_not_s b is = grind (arith, nat_tests, is)

pub first_not_s : (ds rest : Text) → IsNumeral 10 ds → (slice_index (ds ++ rest) 0 == 115) ≡ false
first_not_s [] rest w = absurd (omega (arith, w.0))
first_not_s (b ∷ bs) rest w = digit_not_s b (digit_is b w.1.0)

-- no terms begin with an s
no_s_first : (ts : List Term) → AreTerms ts → (slice_index (spelled ts) 0 == 115) ≡ false
no_s_first [] w = refl
no_s_first (t ∷ ts) w = first_not_s t.digits (t.name ++ spelled ts) w.0.number

-- ---- units: where no s follows a name, its unit is counted

abbrev Counts : Text → TimeUnit → Type 0
Counts name unit =
    (sum n : ℕ) (rest : Text) → (slice_index rest 0 == 115) ≡ false → units_added_up sum n (name ++ rest) ≡ units_added_up (sum + n * unsigned_abs (nanoseconds_of unit)) 0 rest

-- the second byte of a name has no number before it
second_adds_none : (x : ℕ) (rest : Text) → units_added_up (x + 0) 0 rest ≡ units_added_up x 0 rest
second_adds_none x rest = ap (λ (y : ℕ). units_added_up y 0 rest) (omega arith)

unit_counted : (name : Text) (unit : TimeUnit) → duration_unit_of name ≡ Some unit → Counts name unit
unfolding duration_unit_of unit_begun nanoseconds_of_unit
unit_counted name unit e =
    of_called Counts duration_names name unit (
      (λ sum n rest s. second_adds_none (sum + n * 1) rest),
      (
        (λ sum n rest s. refl),
        (
          (λ sum n rest s. second_adds_none (sum + n * 1000) rest),
          (
            (λ sum n rest s. second_adds_none (sum + n * 1000000) rest),
            (
              (λ sum n rest s. refl),
              (
                (λ sum n rest s. rw s refl),
                (
                  (λ sum n rest s. refl),
                  (
                    (λ sum n rest s. refl),
                    ((λ sum n rest s. refl), tt),
                  ),
                ),
              ),
            ),
          ),
        ),
      ),
    ) e

terms_added : (sum : ℕ) (ts : List Term) → AreTerms ts → units_added_up sum 0 (spelled ts) ≡ sum + total ts
terms_added sum [] w = refl
terms_added sum (t ∷ ts) w =
    digits_added sum 0 t.digits (t.name ++ spelled ts) w.0.number.1
    ∙ unit_counted t.name t.unit w.0.called sum (digits_value 10 t.digits) (spelled ts) (no_s_first ts w.1)
    ∙ terms_added (sum + digits_value 10 t.digits * unsigned_abs (nanoseconds_of t.unit)) ts w.1 ∙ omega arith

durations_count : DurationsCount
unfolding DurationsCount magnitude
durations_count ts w = terms_added 0 ts w ∙ omega arith

integers_count : IntegersCount
unfolding IntegersCount magnitude
integers_count ds w = ap (units_added_up 0 0) (sym (append-nil ds)) ∙ digits_added 0 0 ds [] w ∙ omega arith

pub literals_count : LiteralsCount
literals_count = record { durations = durations_count; integers = integers_count }
