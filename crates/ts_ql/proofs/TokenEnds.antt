-- Ends of tokens.
use Rattle.std.proofs.Common.{◌≡◌, ℕ, suc, ◌+◌, ◌-◌, ◌<◌, ◌≤◌, ◌⊎◌, inl, inr, Bool, true, false, cond, eqb, ltb, ◌&&◌, ◌||◌, length, get_or, drop, [], ◌∷◌, arith, refl, sym, ◌∙◌, Option, Some, None}
use Rattle.std.proofs.lemmas.Bool.{cond_both, ltb-true, eqb-true, eq-eqb, cases_lt, and_parts}
use Rattle.std.proofs.lemmas.Bool.Decides.{nat_tests}
use Rattle.std.proofs.lemmas.List.{length-drop}
use Rattle.std.proofs.Math.Seq.{drop-cons}
use Rattle.std.specs.Char.{is_ascii_alphabetic, is_ascii_digit}
use Rattle.std.specs.Prelude.{slice_range, if◌then◌else◌}
use Rattle.ts_core.specs.facts.Facts.{Text}
use Rattle.ts_ql.specs.declared.bytes.Class.{Class}
use Rattle.ts_ql.specs.declared.bytes.Class.TheVariants.{Space, Name, Digit}
use Rattle.ts_ql.specs.declared.token.Kind.{Kind}
use Rattle.ts_ql.specs.declared.token.Kind.TheVariants as kinds
use Rattle.ts_ql.specs.Lexing.{is_in, run_end, end_of_run, is_escape_byte, closing, closing_quote, parts_end, duration_end, double, single, single_at, double_at, operator_at, number_token_at, closed_at, quoted_at, shape_at, kind_of, token_at}
use Rattle.ts_ql.specs.DurationUnits.{unit_len}
use Rattle.ts_ql.specs.Tokenizing.{is_end_of_text}
use Rattle.ts_ql.specs.Keywords.{is_keyword}
use Rattle.ts_ql.proofs.LexingLemmas.{in_text, unit_cases}

-- ---- runs of bytes

run_within : (class : Class) (at : ℕ) (bs : Text) → (at ≤ run_end class at bs) × (run_end class at bs ≤ at + length bs)
run_within class at [] = (omega arith, omega arith)
run_within class at (b ∷ bs) =
    let rest : (at + 1 ≤ run_end class (at + 1) bs) × (run_end class (at + 1) bs ≤ at + 1 + length bs) = run_within class (at + 1) bs in
    cond_both (is_in class b) (run_end class (at + 1) bs) at (λ x. (at ≤ x) × (x ≤ at + length (b ∷ bs))) (λ e. (omega arith, omega arith)) (λ e. (omega arith, omega arith))

run_some : (class : Class) (at b : ℕ) (bs : Text) → is_in class b ≡ true → at < run_end class at (b ∷ bs)
run_some class at b bs e =
    let rest : (at + 1 ≤ run_end class (at + 1) bs) × (run_end class (at + 1) bs ≤ at + 1 + length bs) = run_within class (at + 1) bs in
    rw e (omega arith)

end_within : (class : Class) (text : Text) (from : ℕ) → from ≤ length text → (from ≤ end_of_run class text from) × (end_of_run class text from ≤ length text)
unfolding end_of_run
end_within class text from le =
    let within : (from ≤ run_end class from (drop from text)) × (run_end class from (drop from text) ≤ from + length (drop from text)) = run_within class from (drop from text) in
    let left : length (drop from text) ≡ length text - from = length-drop from text in
    (omega arith, omega arith)

end_some : (class : Class) (text : Text) (from : ℕ) → from < length text → is_in class (get_or text from 0) ≡ true → from < end_of_run class text from
unfolding end_of_run
end_some class text from lt e = rw (drop-cons text from 0 lt) (run_some class from (get_or text from 0) (drop (suc from) text) e)

-- ---- texts in quotes

-- a quote that closes is in the text
abbrev Closes : ℕ → ℕ → Option ℕ → Type 0
Closes at past None = Unit {0}
Closes at past (Some close) = (at ≤ close) × (close < past)

closes_later : (at past : ℕ) (o : Option ℕ) → Closes (at + 1) past o → Closes at past o
closes_later at past None c = tt
closes_later at past (Some close) c = (omega arith, omega arith)

closing_within : (quote : ℕ) (escaped : Bool) (at past : ℕ) (bs : Text) → at + length bs ≡ past → Closes at past (closing quote escaped at bs)
closing_within quote true at past [] e = tt
closing_within quote false at past [] e = tt
closing_within quote true at past (b ∷ bs) e =
    cond_both (is_escape_byte b) (closing quote false (at + 1) bs) None (Closes at past)
    (λ t. closes_later at past (closing quote false (at + 1) bs) (closing_within quote false (at + 1) past bs (omega arith))) (λ t. tt)
closing_within quote false at past (b ∷ bs) e =
    cond_both (eqb b quote) (Some at) (closing quote (eqb b 92) (at + 1) bs) (Closes at past) (λ t. (omega arith, omega arith))
    (λ t. closes_later at past (closing quote (eqb b 92) (at + 1) bs) (closing_within quote (eqb b 92) (at + 1) past bs (omega arith)))

quote_within : (quote : ℕ) (text : Text) (from : ℕ) → from ≤ length text → Closes from (length text) (closing_quote quote text from)
unfolding closing_quote
quote_within quote text from le =
    let left : length (drop from text) ≡ length text - from = length-drop from text in
    closing_within quote false from (length text) (drop from text) (omega arith)

-- ---- durations

unit_parts : (byte next : ℕ) → (unit_len byte next ≤ 1) ⊎ ((unit_len byte next ≡ 2) × (0 < next))
unit_parts byte next =
    elim (cases_lt 0 (unit_len byte next)) [
      | inl some ↦ elim (unit_cases byte next some) [
        | inl one ↦ inl (omega (arith, one.0))
        | inr two ↦ elim two [ inl ascii ↦ inr (ascii.0, ascii.2) | inr micro ↦ inr (micro.0, omega (arith, micro.2)) ]
      ]
      | inr none ↦ inl (omega arith)
    ]

unit_in : (byte : ℕ) (bs : Text) → unit_len byte (get_or bs 0 0) ≤ 1 + length bs
unit_in byte bs =
    elim (unit_parts byte (get_or bs 0 0)) [
      | inl one ↦ omega arith
      | inr two ↦ (let lt : 0 < length bs = in_text bs 0 two.1 in omega (arith, two.0))
    ]

parts_within : (last : ℕ) (counting : Bool) (at past : ℕ) (bs : Text) → last ≤ past → at + length bs ≤ past → parts_end last counting at bs ≤ past
parts_within last true at past [] l e = l
parts_within last false at past [] l e = l
parts_within last true at past (b ∷ bs) l e =
    let unit : unit_len b (get_or bs 0 0) ≤ 1 + length bs = unit_in b bs in
    cond_both (is_ascii_digit b) (parts_end last true (at + 1) bs) (cond (eqb (unit_len b (get_or bs 0 0)) 0) last (parts_end (at + unit_len b (get_or bs 0 0)) false (at + 1) bs)) (λ x. x ≤ past)
    (λ t. parts_within last true (at + 1) past bs l (omega arith))
    (λ t. cond_both (eqb (unit_len b (get_or bs 0 0)) 0) last (parts_end (at + unit_len b (get_or bs 0 0)) false (at + 1) bs) (λ x. x ≤ past)
    (λ u. l) (λ u. parts_within (at + unit_len b (get_or bs 0 0)) false (at + 1) past bs (omega arith) (omega arith)))
parts_within last false at past (b ∷ bs) l e =
    cond_both (is_ascii_digit b) (parts_end last true (at + 1) bs) (cond (ltb at last) (parts_end last false (at + 1) bs) last) (λ x. x ≤ past)
    (λ t. parts_within last true (at + 1) past bs l (omega arith))
    (λ t. cond_both (ltb at last) (parts_end last false (at + 1) bs) last (λ x. x ≤ past) (λ u. parts_within last false (at + 1) past bs l (omega arith)) (λ u. l))

duration_within : (text : Text) (from : ℕ) → from ≤ length text → duration_end text from ≤ length text
unfolding duration_end
duration_within text from le =
    let left : length (drop from text) ≡ length text - from = length-drop from text in
    parts_within from false from (length text) (drop from text) le (omega arith)

-- ---- tokens

-- the token ends after its start and in the text, or it's the last
pub record Ends (text : Text) (start : ℕ) (shape : Kind × ℕ) : Type 0 where
  pub within : shape.1 ≤ length text
  pub after : is_end_of_text shape.0 ≡ false → start < shape.1

if_ends : (text : Text) (start : ℕ) (test : Bool) (one other : Kind × ℕ) → (test ≡ true → Ends text start one) → (test ≡ false → Ends text start other)
    → Ends text start (if test then one else other)
if_ends text start true one other a b = a refl
if_ends text start false one other a b = b refl

past_end : (text : Text) (start : ℕ) → start < length text → Ends text start (kinds.Bad, length text)
past_end text start lt = record { within = omega arith; after = λ e. lt }

-- an operator isn't the end of the text, and its bytes are P
abbrev IsOperator : Type 0 → Option Kind → Type 0
IsOperator P None = Unit {0}
IsOperator P (Some kind) = P × (is_end_of_text kind ≡ false)

or_next : (P : Type 0) (test : Bool) (kind : Kind) (rest : Option Kind) → (test ≡ true → P) → is_end_of_text kind ≡ false → IsOperator P rest → IsOperator P (if test then Some kind else rest)
or_next P true kind rest some other next = (some refl, other)
or_next P false kind rest some other next = next

two_some : (first second a b : ℕ) → 0 < a → 0 < b → (eqb first a && eqb second b) ≡ true → (0 < first) × (0 < second)
two_some first second a b pa pb e =
    let both : (eqb first a ≡ true) × (eqb second b ≡ true) = and_parts (eqb first a) (eqb second b) e in
    let ea : first ≡ a = eqb-true first a both.0 in
    let eb : second ≡ b = eqb-true second b both.1 in
    (omega arith, omega arith)

abbrev TwoSome : ℕ → ℕ → Type 0
TwoSome first second = (0 < first) × (0 < second)

double_some : (first second : ℕ) → IsOperator (TwoSome first second) (double first second)
unfolding double
double_some first second = grind (arith, nat_tests, or_next, two_some)

single_ends : (text : Text) (start : ℕ) (o : Option Kind) → start < length text → Ends text start (single_at text start o)
single_ends text start None lt = past_end text start lt
single_ends text start (Some kind) lt = record { within = omega arith; after = λ e. omega arith }

double_ends : (text : Text) (start : ℕ) (o : Option Kind) → start < length text → IsOperator (TwoSome (get_or text start 0) (get_or text (start + 1) 0)) o → Ends text start (double_at text start o)
double_ends text start None lt is = single_ends text start (single (get_or text start 0)) lt
double_ends text start (Some kind) lt is = let next : start + 1 < length text = in_text text (start + 1) is.0.1 in record { within = omega arith; after = λ e. omega arith }

operator_ends : (text : Text) (start : ℕ) → start < length text → Ends text start (operator_at text start)
unfolding operator_at
operator_ends text start lt = double_ends text start (double (get_or text start 0) (get_or text (start + 1) 0)) lt (double_some (get_or text start 0) (get_or text (start + 1) 0))

number_ends : (text : Text) (start : ℕ) → start < length text → is_ascii_digit (get_or text start 0) ≡ true → Ends text start (number_token_at text start)
unfolding number_token_at
number_ends text start lt digit =
    let le : start ≤ length text = omega arith in
    let duration : duration_end text start ≤ length text = duration_within text start le in
    let digits : (start ≤ end_of_run Digit text start) × (end_of_run Digit text start ≤ length text) = end_within Digit text start le in
    let some : start < end_of_run Digit text start = end_some Digit text start lt digit in
    if_ends text start _ _ _ (λ e. record { within = duration; after = λ u. ltb-true start (duration_end text start) e })
    (λ e. if_ends text start (is_ascii_alphabetic (get_or text (end_of_run Digit text start) 0) || eqb (get_or text (end_of_run Digit text start) 0) 46) (kinds.Bad, length text) (kinds.Integer, end_of_run Digit text start) (λ bad. past_end text start lt) (λ good. record { within = digits.1; after = λ u. some }))

closed_ends : (text : Text) (quote start : ℕ) (o : Option ℕ) → start < length text → Closes (start + 1) (length text) o → Ends text start (closed_at text quote start o)
closed_ends text quote start None lt closes = past_end text start lt
closed_ends text quote start (Some close) lt closes =
    let closed : (kind : Kind) → Ends text start (kind, close + 1) = λ (kind : Kind). record { within = omega arith; after = λ u. omega arith } in
    if_ends text start (eqb quote 39) (kinds.StringLiteral, close + 1) (if eqb close (start + 1) then (kinds.Bad, length text) else (kinds.QuotedName, close + 1)) (λ e. closed kinds.StringLiteral)
    (λ e. if_ends text start (eqb close (start + 1)) (kinds.Bad, length text) (kinds.QuotedName, close + 1) (λ empty. past_end text start lt) (λ some. closed kinds.QuotedName))

quoted_ends : (text : Text) (start : ℕ) → start < length text → Ends text start (quoted_at text start)
unfolding quoted_at
quoted_ends text start lt = closed_ends text (get_or text start 0) start (closing_quote (get_or text start 0) text (start + 1)) lt (quote_within (get_or text start 0) text (start + 1) (omega arith))

some_ends : (text : Text) (start : ℕ) → start < length text → Ends text start (shape_at text start)
unfolding shape_at
some_ends text start lt =
    let le : start ≤ length text = omega arith in
    let name : (start ≤ end_of_run Name text start) × (end_of_run Name text start ≤ length text) = end_within Name text start le in
    if_ends text start _ _ _ (λ e. absurd (let last : length text ≡ start = eqb-true (length text) start e in omega arith))
    (λ _. if_ends text start _ _ _ (λ digit. number_ends text start lt digit)
    (λ _. if_ends text start _ _ _ (λ word. record { within = name.1; after = λ u. end_some Name text start lt word })
    (λ _. if_ends text start _ _ _ (λ quote. quoted_ends text start lt) (λ _. operator_ends text start lt))))

last_ends : (text : Text) (start : ℕ) → start ≡ length text → Ends text start (shape_at text start)
unfolding shape_at
last_ends text start e = rw (eq-eqb (length text) start (sym e)) record { within = omega arith; after = λ u. absurd (cc) }

shape_ends : (text : Text) (start : ℕ) → start ≤ length text → Ends text start (shape_at text start)
shape_ends text start le = elim (cases_lt start (length text)) [ inl lt ↦ some_ends text start lt | inr past ↦ last_ends text start (omega arith) ]

kind_same : (kind : Kind) (raw : Text) → is_end_of_text (kind_of kind raw) ≡ is_end_of_text kind
kind_same kinds.Word raw = cond_both (is_keyword raw) kinds.Keyword kinds.Word (λ k. is_end_of_text k ≡ false) (λ e. refl) (λ e. refl)
kind_same kind raw = refl

-- the first token from an offset on ends after the offset and in the text, or it's the last
pub token_within : (text : Text) (from : ℕ) → from ≤ length text → (token_at text from).end ≤ length text
unfolding token_at
token_within text from le =
    let start : (from ≤ end_of_run Space text from) × (end_of_run Space text from ≤ length text) = end_within Space text from le in
    (shape_ends text (end_of_run Space text from) start.1).within

pub token_after : (text : Text) (from : ℕ) → from ≤ length text → is_end_of_text (token_at text from).kind ≡ false → from < (token_at text from).end
unfolding token_at
token_after text from le other =
    let start : (from ≤ end_of_run Space text from) × (end_of_run Space text from ≤ length text) = end_within Space text from le in
    let shape : Kind × ℕ = shape_at text (end_of_run Space text from) in
    let after : end_of_run Space text from < shape.1 = (shape_ends text (end_of_run Space text from) start.1).after (sym (kind_same shape.0 (slice_range text (end_of_run Space text from) shape.1)) ∙ other) in
    omega arith
