-- Numbers of few digits.
use Rattle.std.proofs.Common.{◌≡◌, ℕ, ◌+◌, ◌-◌, ◌*◌, ◌^◌, ◌-ℤ◌, to_z, of_z, ◌<◌, ◌≤◌, true, false, eqb, [], ◌∷◌, ◌++◌, length, get_or, drop, slice_range, slice_index, refl, sym, ap, ◌∙◌, arith, Ok, Some, None, Option, IfSome, ℤ, pos, neg_ℤ, FitsSigned, w64, length-take, length-drop}
use Rattle.std.specs.Char.{is_ascii_digit, digit_value}
use Rattle.std.specs.List.{list_all}
use Rattle.std.specs.Str.Parse.{digits_value, signed_digits_value}
use Rattle.std.proofs.lemmas.Bool.{and_parts, and_from}
use Rattle.std.proofs.lemmas.Bool.Decides.{nat_tests}
use Rattle.std.proofs.lemmas.Int.{ints, to_z-of_z}
use Rattle.std.proofs.lemmas.Int.Digits.{digits_value-lt, digits_value_push}
use Rattle.std.proofs.lemmas.List.{take-append-drop, drop_more, drop-drop}
use Rattle.std.proofs.lemmas.List.Folds.{list_all-append}
use Rattle.std.proofs.Math.Nat.{pow-le-pow_right}
use Rattle.ts_core.specs.facts.Facts.{Text}
use Rattle.ts_line.specs.declared.scan.Stops.TheVariants.{Plain}
use Rattle.ts_core.specs.text.Numbers.{is_number, are_digits}
use Rattle.ts_line.specs.Values.{value_begun_at, is_value_end}
use Rattle.ts_core.proofs.text.NumberLemmas.{all_digits, digit_not_plus}
use Rattle.ts_core.proofs.lists.ListSteps.{slice_step}
use Rattle.ts_line.proofs.Suffixes.{At, is_end}
use Rattle.ts_line.proofs.FieldsSpelled.{value_read}

-- one digit more
pub digits_step : (line : Text) (from i : ℕ) → from ≤ i → i < length line → is_ascii_digit (get_or line i 0) ≡ true
    → list_all is_ascii_digit (slice_range line from i) ≡ true → list_all is_ascii_digit (slice_range line from (i + 1)) ≡ true
digits_step line from i le lt digit so_far =
    ap (list_all is_ascii_digit) (slice_step line from i le lt) ∙ list_all-append is_ascii_digit (slice_range line from i) (get_or line i 0 ∷ [])
    ∙ and_from (list_all is_ascii_digit (slice_range line from i)) (list_all is_ascii_digit (get_or line i 0 ∷ [])) so_far (rw digit refl)

pub value_step : (line : Text) (from i : ℕ) → from ≤ i → i < length line
    → digits_value 10 (slice_range line from (i + 1)) ≡ digits_value 10 (slice_range line from i) * 10 + digit_value (get_or line i 0)
value_step line from i le lt = ap (digits_value 10) (slice_step line from i le lt) ∙ digits_value_push 10 (slice_range line from i) (get_or line i 0)

short_by : (ds : Text) (k : ℕ) → list_all is_ascii_digit ds ≡ true → length ds ≤ k → digits_value 10 ds < 10 ^ k
short_by ds k digits le =
    let ten : 0 < 10 = omega arith in
    omega (arith, digits_value-lt 10 ds (all_digits ds digits), pow-le-pow_right ten le)

slice_len : (line : Text) (from i : ℕ) → length (slice_range line from i) ≤ i - from
slice_len line from i = omega (arith, length-take (i - from) (drop from line))

-- nineteen digits, and fewer
pub short_number : (line : Text) (from i : ℕ) → list_all is_ascii_digit (slice_range line from i) ≡ true → i ≤ from + 19 → digits_value 10 (slice_range line from i) < 10000000000000000000
short_number line from i digits le = short_by (slice_range line from i) 19 digits (omega (arith, slice_len line from i))

pub shorter_number : (line : Text) (from i : ℕ) → list_all is_ascii_digit (slice_range line from i) ≡ true → i ≤ from + 18 → digits_value 10 (slice_range line from i) < 1000000000000000000
shorter_number line from i digits le = short_by (slice_range line from i) 18 digits (omega (arith, slice_len line from i))

-- ---- a value

pub value_ends : (rest : Text) → is_value_end rest ≡ true → is_end Plain rest ≡ true
value_ends [] e = refl
value_ends (b ∷ bs) e = grind (arith, nat_tests)

-- the suffix from an offset on
pub stands : (line : Text) (from end : ℕ) → from ≤ end → end < length line → At line from (slice_range line from end ++ (get_or line end 0 ∷ drop (end + 1) line))
stands line from end le lt =
    let back : from + (end - from) ≡ end = omega arith in
    sym (take-append-drop (end - from) (drop from line))
    ∙ ap (λ (l : Text). slice_range line from end ++ l) (drop-drop (end - from) from line ∙ ap (λ k. drop k line) back ∙ drop_more line end 0 lt)

digit_not_minus : (c : ℕ) → is_ascii_digit c ≡ true → eqb c 45 ≡ false
digit_not_minus c e = grind (arith, nat_tests)

-- digits are a number, alone and after a minus
digits_some : (ds : Text) → 0 < length ds → list_all is_ascii_digit ds ≡ true → are_digits ds ≡ true
digits_some ds some e = rw e (grind (arith, nat_tests))

digits_number : (ds : Text) → 0 < length ds → list_all is_ascii_digit ds ≡ true → is_number ds ≡ true
unfolding is_number
digits_number [] some e = absurd (omega arith)
digits_number (c ∷ cs) some e =
    let p = and_parts (is_ascii_digit c) (list_all is_ascii_digit cs) e in
    rw (digit_not_minus c p.0) (digits_some (c ∷ cs) some e)

minus_number : (ds : Text) → 0 < length ds → list_all is_ascii_digit ds ≡ true → is_number (45 ∷ ds) ≡ true
unfolding is_number
minus_number ds some e = digits_some ds some e

digits_signed : (ds : Text) → list_all is_ascii_digit ds ≡ true → signed_digits_value 10 ds ≡ pos (digits_value 10 ds)
digits_signed [] e = refl
digits_signed (c ∷ cs) e =
    let p = and_parts (is_ascii_digit c) (list_all is_ascii_digit cs) e in
    rw (digit_not_minus c p.0, digit_not_plus c p.0) refl

fits_plain : (n : ℕ) → n < 9223372036854775808 → FitsSigned w64 (pos n)
fits_plain n lt = grind (arith, ints)

fits_minus : (n : ℕ) → n < 9223372036854775808 → FitsSigned w64 (neg_ℤ (pos n))
fits_minus n lt = grind (arith, ints)

slice_len_is : (line : Text) (from end : ℕ) → from ≤ end → end ≤ length line → from + length (slice_range line from end) ≡ end
slice_len_is line from end le lt = omega (arith, length-take (end - from) (drop from line), length-drop from line)

-- digits and an `i` are their number
pub plain_value : (line : Text) (start at end : ℕ) → at < end → end < length line → list_all is_ascii_digit (slice_range line at end) ≡ true
    → digits_value 10 (slice_range line at end) < 9223372036854775808 → slice_index line end ≡ 105 → is_value_end (drop (end + 1) line) ≡ true
    → value_begun_at start line at ≡ Ok (pos (digits_value 10 (slice_range line at end)), end + 1)
plain_value line start at end some within digits short last ends =
    let ds = slice_range line at end in
    let rest = drop (end + 1) line in
    let le : at ≤ end = omega arith in
    let len : at + length ds ≡ end = slice_len_is line at end le (omega arith) in
    let here : At line at (ds ++ (105 ∷ rest)) = stands line at end le within ∙ ap (λ b. ds ++ (b ∷ rest)) last in
    let signed : signed_digits_value 10 ds ≡ pos (digits_value 10 ds) = digits_signed ds digits in
    let fits : FitsSigned w64 (signed_digits_value 10 ds) = rw signed (fits_plain (digits_value 10 ds) short) in
    value_read line ds rest start at here (digits_number ds (omega (arith, len)) digits) fits (value_ends rest ends)
    ∙ ap (λ n. Ok (n, at + length ds + 1)) signed ∙ ap (λ k. Ok (pos (digits_value 10 ds), k + 1)) len

-- and after a minus its negative
pub minus_value : (line : Text) (start at end : ℕ) → slice_index line at ≡ 45 → at + 1 < end → end < length line → list_all is_ascii_digit (slice_range line (at + 1) end) ≡ true
    → digits_value 10 (slice_range line (at + 1) end) < 9223372036854775808 → slice_index line end ≡ 105 → is_value_end (drop (end + 1) line) ≡ true
    → value_begun_at start line at ≡ Ok (neg_ℤ (pos (digits_value 10 (slice_range line (at + 1) end))), end + 1)
minus_value line start at end minus some within digits short last ends =
    let ds = slice_range line (at + 1) end in
    let rest = drop (end + 1) line in
    let le : at + 1 ≤ end = omega arith in
    let lt : at < length line = omega arith in
    let len : at + 1 + length ds ≡ end = slice_len_is line (at + 1) end le (omega arith) in
    let behind : At line (at + 1) (ds ++ (105 ∷ rest)) = stands line (at + 1) end le within ∙ ap (λ b. ds ++ (b ∷ rest)) last in
    let here : At line at ((45 ∷ ds) ++ (105 ∷ rest)) = drop_more line at 0 lt ∙ ap (λ b. b ∷ drop (at + 1) line) minus ∙ ap (λ (l : Text). 45 ∷ l) behind in
    let offset : at + length (45 ∷ ds) ≡ end = omega (arith, len) in
    value_read line (45 ∷ ds) rest start at here (minus_number ds (omega (arith, len)) digits) (fits_minus (digits_value 10 ds) short) (value_ends rest ends)
    ∙ ap (λ k. Ok (neg_ℤ (pos (digits_value 10 ds)), k + 1)) offset

pub as_integer : (n : ℕ) (x : ℤ) → x ≡ pos n → n < 9223372036854775808 → to_z w64 (of_z w64 x) ≡ pos n
as_integer n x e short = ap (λ y. to_z w64 (of_z w64 y)) e ∙ to_z-of_z w64 (pos n) (fits_plain n short)

minus_is : (n : ℕ) → pos 0 -ℤ pos n ≡ neg_ℤ (pos n)
minus_is n = grind (arith, ints)

pub as_negative : (n : ℕ) (x : ℤ) → x ≡ pos n → n < 9223372036854775808 → to_z w64 (of_z w64 (pos 0 -ℤ to_z w64 (of_z w64 x))) ≡ neg_ℤ (pos n)
as_negative n x e short =
    ap (λ y. to_z w64 (of_z w64 (pos 0 -ℤ y))) (as_integer n x e short) ∙ ap (λ y. to_z w64 (of_z w64 y)) (minus_is n) ∙ to_z-of_z w64 (neg_ℤ (pos n)) (fits_minus n short)

-- digits that a line ends in
pub plain_number : (line : Text) (start end : ℕ) → start < end → end ≡ length line → list_all is_ascii_digit (slice_range line start end) ≡ true
    → is_number (slice_range line start (length line)) ≡ true
plain_number line start end some last digits =
    let le : start ≤ end = omega arith in
    let len : start + length (slice_range line start end) ≡ end = slice_len_is line start end le (omega arith) in
    ap (λ n. is_number (slice_range line start n)) (sym last) ∙ digits_number (slice_range line start end) (omega (arith, len)) digits

pub if_some : {X : Type 0} {P : Type 0} (o : Option X) → P → IfSome o (λ _. P)
if_some None p = tt
if_some (Some x) p = p
