-- Durations as texts: one or more numbers with units, summed.
-- (InfluxData 1.8, InfluxQL reference, literals: durations; CREATE RETENTION POLICY: INF. Own rules: a number has any
-- number of digits, and a total must fit signed 64 bits.)
use Rattle.std.specs.Prelude.{◌≡◌, ◌≢◌, ◌↔◌, ℕ, ◌+◌, ◌-◌, ◌*◌, ◌^◌, nat_lt, nat_le, ◌==◌, ℤ, pos, neg_ℤ, unsigned_abs, List, [], ◌∷◌, ◌++◌, if◌then◌else◌, Option, Some, None, option_map, option_and_then, codes, ⊤}
use Rattle.std.specs.Char.{is_ascii_digit}
use Rattle.std.specs.Str.Parse.{IsNumeral, digits_value}
use Rattle.ts_core.specs.facts.Facts.{Text, same_text}
use Rattle.ts_core.specs.declared.facts.time_unit.TimeUnit.{TimeUnit}
use Rattle.ts_core.specs.facts.TimeUnits.{nanoseconds_of, duration_unit_of}

-- ---- byte by byte: the sum of complete terms, the number of the next term, and a prefix of its unit's name

-- adds a term to a sum, if the name is a unit
abbrev pub with_term : ℕ → ℕ → Text → Option ℕ
with_term sum n name = option_map (λ unit. sum + n * unsigned_abs (nanoseconds_of unit)) (duration_unit_of name)

-- the sum and the number to which the next digit belongs: after a name, the digit begins a new term
abbrev pub before_digit : ℕ → ℕ → Text → Option (ℕ × ℕ)
before_digit sum n [] = Some (sum, n)
before_digit sum n (b ∷ bs) = option_map (λ s. (s, 0)) (with_term sum n (b ∷ bs))

-- a unit's name ends at the next digit or the end of the text, so the longest name counts
abbrev pub added_up : ℕ → ℕ → Text → Text → Option ℕ
added_up sum n name [] = with_term sum n name
added_up sum n name (b ∷ bs) =
    if is_ascii_digit b then option_and_then (λ p. added_up p.0 (p.1 * 10 + (b - 48)) [] bs) (before_digit sum n name)
    else added_up sum n (name ++ b ∷ []) bs

-- the nanoseconds of a text of terms
unfoldable pub duration_of : Text → Option ℕ
duration_of [] = None
duration_of (b ∷ bs) = if is_ascii_digit b then added_up 0 0 [] (b ∷ bs) else None

-- ---- the same, from the written form

-- a number and a unit's name
pub record Term : Type 0 where
  pub digits : Text
  pub name : Text
  pub unit : TimeUnit

pub record IsTerm (t : Term) : Type 0 where
  pub number : IsNumeral 10 t.digits
  pub called : duration_unit_of t.name ≡ Some t.unit

abbrev pub AreTerms : List Term → Type 0
AreTerms [] = ⊤
AreTerms (t ∷ ts) = IsTerm t × AreTerms ts

abbrev pub spelled : List Term → Text
spelled [] = []
spelled (t ∷ ts) = t.digits ++ (t.name ++ spelled ts)

abbrev pub total : List Term → ℕ
total [] = 0
total (t ∷ ts) = digits_value 10 t.digits * unsigned_abs (nanoseconds_of t.unit) + total ts

-- a text has a duration exactly if it spells one or more terms; the duration is the sum of each number times its unit
abbrev pub DurationsAddUp : Type 0
DurationsAddUp = (text : Text) (n : ℕ) → (duration_of text ≡ Some n)
    ↔ ((ts : List Term) × AreTerms ts × (ts ≢ []) × (spelled ts ≡ text) × (total ts ≡ n))

-- ---- in 64 bits

abbrev pub in_64_bits : ℕ → Option ℕ
in_64_bits n = if nat_lt n (2 ^ 64) then Some n else None

-- the same for a sum with a number
abbrev pub sum_in_64_bits : ℕ × ℕ → Option (ℕ × ℕ)
sum_in_64_bits p = option_map (λ s. (s, p.1)) (in_64_bits p.0)

-- a total as a signed number, or as its negative, if it fits 64 bits
abbrev pub counted_up : ℕ → Option ℤ
counted_up n = if nat_lt n (2 ^ 63) then Some (pos n) else None

abbrev pub counted_down : ℕ → Option ℤ
counted_down n = if nat_le n (2 ^ 63) then Some (neg_ℤ (pos n)) else None

-- a duration without a sign
unfoldable pub span_of : Text → Option ℤ
span_of text = option_and_then counted_up (duration_of text)

-- the offset of buckets: a duration with an optional minus sign (byte 45)
unfoldable pub offset_of : Text → Option ℤ
offset_of [] = None
offset_of (b ∷ bs) = if b == 45 then option_and_then counted_down (duration_of bs) else span_of (b ∷ bs)

-- a retention duration: INF means for ever, and so does a duration of 0
unfoldable pub keeping_of : Text → Option ℤ
keeping_of text = if same_text text (codes "INF") then Some (pos 0) else span_of text
