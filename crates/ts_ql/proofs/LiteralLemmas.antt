-- One step over a literal.
use Rattle.std.proofs.Common.{◌≡◌, ℕ, ◌+◌, ◌*◌, ◌-◌, ◌<◌, ◌≤◌, ◌^◌, Bool, true, false, cond, codes, bytes_eq, List, ap, [], ◌∷◌, ◌++◌, length, get_or, drop, arith, refl, sym, ◌∙◌, Option, Some, None, append-nil, append_assoc}
use Rattle.std.proofs.lemmas.List.{at_drop_more}
use Rattle.std.proofs.lemmas.Bool.Decides.{same_from_decides, Decides-like}
use Rattle.std.proofs.lemmas.Slice.Eq.{bytes_eq-Decides}
use Rattle.std.proofs.lemmas.Str.{chars_past_char, encodes_same, IsUtf8-past_char}
use Rattle.std.specs.Char.{is_ascii_digit}
use Rattle.std.specs.Char.{encode_utf8}
use Rattle.std.specs.Str.{encode_utf8_all, chars, IsUtf8}
use Rattle.std.proofs.lemmas.Bool.{le-ltb, eq-eqb, ne_eqb}
use Rattle.std.proofs.Math.Nat.{mul-le-mul_left}
use Rattle.ts_core.specs.facts.Durations.{in_64_bits}
use Rattle.ts_core.specs.facts.Facts.{Text}
use Rattle.ts_ql.proofs.LexingLemmas.{next_byte}
use Rattle.ts_ql.specs.Literals.{units_added_up, escape, characters_spelled, spelled_chars, text_spelled}
use Rattle.ts_core.specs.declared.queries.value.Function.{Function}
use Rattle.ts_core.specs.declared.queries.value.Function.TheVariants as functions
use Rattle.ts_core.specs.declared.facts.time_unit.TimeUnit.{TimeUnit}
use Rattle.ts_core.specs.facts.TimeUnits.{unit_begun}
use Rattle.ts_core.proofs.facts.DurationSteps.{unit_counts}
use Rattle.ts_ql.specs.Selects.{function_name}
use Rattle.ts_ql.specs.DurationUnits.{nanoseconds_of_unit, begun_nanoseconds}

-- ---- numbers

pub added_up_step : (total number : ℕ) (text : Text) (i : ℕ) → i < length text
    → units_added_up total number (drop i text) ≡ cond (is_ascii_digit (get_or text i 0))
    (units_added_up total (number * 10 + (get_or text i 0 - 48)) (drop (i + 1) text))
    (units_added_up (total + number * nanoseconds_of_unit (get_or text i 0) (get_or text (i + 1) 0)) 0 (drop (i + 1) text))
added_up_step total number text i lt = at_drop_more (units_added_up total number) text i 0 lt ∙ rw (next_byte text i) refl

begun_some : (begun : Option (TimeUnit × ℕ)) → 1 ≤ begun_nanoseconds begun
begun_some None = omega arith
begun_some (Some begun) = unit_counts begun.0

unit_some : (byte next : ℕ) → 1 ≤ nanoseconds_of_unit byte next
unfolding nanoseconds_of_unit
unit_some byte next = begun_some (unit_begun byte next)

least_by : (b : Bool) (n x y : ℕ) → n ≤ x → n ≤ y → n ≤ cond b x y
least_by true n x y h k = h
least_by false n x y h k = k

-- a sum never falls
pub at_least : (total number : ℕ) (text : Text) → total + number ≤ units_added_up total number text
at_least total number [] = omega arith
at_least total number (b ∷ bs) =
    let digit = at_least total (number * 10 + (b - 48)) bs in
    let other = at_least (total + number * nanoseconds_of_unit b (get_or bs 0 0)) 0 bs in
    let some = mul-le-mul_left number (unit_some b (get_or bs 0 0)) in
    least_by (is_ascii_digit b) (total + number) (units_added_up total (number * 10 + (b - 48)) bs) (units_added_up (total + number * nanoseconds_of_unit b (get_or bs 0 0)) 0 bs) (omega arith) (omega arith)

none_fits : (n : ℕ) → 2 ^ 64 ≤ n → None ≡ in_64_bits n
none_fits n le = rw (le-ltb n (2 ^ 64) le) refl

-- one more digit exceeds 64 bits
pub digit_past : (total number : ℕ) (text : Text) (i whole : ℕ) → i < length text → units_added_up total number (drop i text) ≡ whole
    → is_ascii_digit (get_or text i 0) ≡ true → (number * 10 + (get_or text i 0 - 48) < 2 ^ 64 → ⊥) → None ≡ in_64_bits whole
digit_past total number text i whole lt is digit past =
    let step = added_up_step total number text i lt in
    let here = rw digit at step in
    let low = at_least total (number * 10 + (get_or text i 0 - 48)) (drop (i + 1) text) in
    none_fits whole (omega arith)

-- one more number exceeds 64 bits
pub unit_past : (total number : ℕ) (text : Text) (i whole : ℕ) → i < length text → units_added_up total number (drop i text) ≡ whole
    → is_ascii_digit (get_or text i 0) ≡ false → (total + number * nanoseconds_of_unit (get_or text i 0) (get_or text (i + 1) 0) < 2 ^ 64 → ⊥) → None ≡ in_64_bits whole
unit_past total number text i whole lt is digit past =
    let step = added_up_step total number text i lt in
    let here = rw digit at step in
    let low = at_least (total + number * nanoseconds_of_unit (get_or text i 0) (get_or text (i + 1) 0)) 0 (drop (i + 1) text) in
    none_fits whole (omega arith)

-- ---- texts

pub spelled_nothing : text_spelled [] ≡ []
unfolding text_spelled chars
spelled_nothing = refl

pub spelled_time : text_spelled (codes "time") ≡ codes "time"
unfolding text_spelled chars encode_utf8
spelled_time = refl

pub spelled_function : (f : Function) → text_spelled (function_name f) ≡ function_name f
unfolding text_spelled chars encode_utf8
spelled_function functions.Count = refl
spelled_function functions.Sum = refl
spelled_function functions.Min = refl
spelled_function functions.Max = refl
spelled_function functions.First = refl
spelled_function functions.Last = refl
spelled_function functions.Mean = refl

-- these bytes, then the text with its escapes resolved
abbrev pub spelled_on : Text → Bool → Text → Text
spelled_on before escaped text = before ++ encode_utf8_all (characters_spelled escaped (chars text))

pub spelled_escape : (before text rest : Text) (c : ℕ) → IsUtf8 text → text ≡ encode_utf8 c ++ rest → spelled_on before true text ≡ spelled_on (before ++ encode_utf8 (escape c)) false rest
spelled_escape before text rest c utf8 e =
    rw (chars_past_char text rest c utf8 e) (sym (append_assoc before (encode_utf8 (escape c)) (encode_utf8_all (characters_spelled false (chars rest)))))

pub spelled_backslash : (before text rest : Text) (c : ℕ) → IsUtf8 text → text ≡ encode_utf8 c ++ rest → c ≡ 92 → spelled_on before false text ≡ spelled_on before true rest
spelled_backslash before text rest c utf8 e is = rw (chars_past_char text rest c utf8 e, eq-eqb c 92 is) refl

pub spelled_plain : (before text rest : Text) (c : ℕ) → IsUtf8 text → text ≡ encode_utf8 c ++ rest → (c ≡ 92 → ⊥) → spelled_on before false text ≡ spelled_on (before ++ encode_utf8 c) false rest
spelled_plain before text rest c utf8 e is =
    rw (chars_past_char text rest c utf8 e, ne_eqb c 92 is) (sym (append_assoc before (encode_utf8 c) (encode_utf8_all (characters_spelled false (chars rest)))))

no_chars : (text : Text) → length text ≡ 0 → chars text ≡ []
unfolding chars
no_chars [] e = refl
no_chars (b ∷ bs) e = absurd (omega arith)

pub spelled_past : (before text : Text) (escaped : Bool) → length text ≡ 0 → spelled_on before escaped text ≡ before
spelled_past before text true e = rw (no_chars text e) (append-nil before)
spelled_past before text false e = rw (no_chars text e) (append-nil before)

-- ---- characters of texts

pub chars_plain : (text rest : Text) (c : ℕ) → IsUtf8 text → text ≡ encode_utf8 c ++ rest → (c ≡ 92 → ⊥) → spelled_chars text ≡ c ∷ spelled_chars rest
chars_plain text rest c utf8 e is = rw (chars_past_char text rest c utf8 e, ne_eqb c 92 is) refl

pub chars_escape : (text middle rest : Text) (c d : ℕ) → IsUtf8 text → text ≡ encode_utf8 c ++ middle → c ≡ 92 → middle ≡ encode_utf8 d ++ rest → spelled_chars text ≡ escape d ∷ spelled_chars rest
chars_escape text middle rest c d utf8 e is f =
    let within : IsUtf8 middle = IsUtf8-past_char text middle c utf8 e in
    rw (chars_past_char text middle c utf8 e, eq-eqb c 92 is, chars_past_char middle rest d within f) refl

pub chars_backslash : (text middle : Text) (c : ℕ) → IsUtf8 text → text ≡ encode_utf8 c ++ middle → c ≡ 92 → length middle ≡ 0 → spelled_chars text ≡ []
chars_backslash text middle c utf8 e is end = rw (chars_past_char text middle c utf8 e, eq-eqb c 92 is, no_chars middle end) refl

pub chars_end : (text : Text) → length text ≡ 0 → spelled_chars text ≡ []
chars_end text e = rw (no_chars text e) refl

-- two strings are the same if their characters are
pub alike : (text other : Text) → bytes_eq (text_spelled text) (text_spelled other) ≡ bytes_eq (spelled_chars text) (spelled_chars other)
unfolding text_spelled
alike text other =
    let cs = spelled_chars text in
    let ds = spelled_chars other in
    same_from_decides (bytes_eq (encode_utf8_all cs) (encode_utf8_all ds)) (bytes_eq cs ds)
    (Decides-like (bytes_eq (encode_utf8_all cs) (encode_utf8_all ds)) (encodes_same cs ds) (ap encode_utf8_all) (bytes_eq-Decides (encode_utf8_all cs) (encode_utf8_all ds)))
    (bytes_eq-Decides cs ds)
