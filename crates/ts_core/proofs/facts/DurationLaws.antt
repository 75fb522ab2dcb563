-- Reading durations: the result is the sum of the terms, and each list of terms is read.
use Rattle.ts_core.proofs.text.NumberLemmas.{digit_below}
use Rattle.std.proofs.lemmas.Bool.{and_parts, cases_Bool, not-true}
use Rattle.std.proofs.Common.{◌≡◌, ◌≢◌, ℕ, ◌+◌, ◌-◌, ◌*◌, ◌<◌, nat_lt, Bool, true, false, not, List, [], ◌∷◌, ◌++◌, length, cond, Option, Some, None, option_map, option_and_then, unsigned_abs, ⊎_elim, refl, sym, ap, ◌∙◌, arith, append_assoc, append-nil}
use Rattle.std.proofs.lemmas.Bool.Decides.{nat_tests}
use Rattle.std.specs.List.{list_all}
use Rattle.std.specs.Char.{is_ascii_digit, digit_value}
use Rattle.std.specs.Str.Parse.{IsNumeral, AllDigits, digits_value, digits_value_after}
use Rattle.ts_core.specs.facts.Facts.{Text}
use Rattle.ts_core.specs.declared.facts.time_unit.TimeUnit.{TimeUnit}
use Rattle.ts_core.specs.facts.TimeUnits.{nanoseconds_of, duration_unit_of, duration_names}
use Rattle.ts_core.specs.facts.Durations.{with_term, before_digit, added_up, duration_of, Term, IsTerm, AreTerms, spelled, total, DurationsAddUp}
use Rattle.ts_core.proofs.facts.DurationSteps.{starts}
use Rattle.ts_core.proofs.facts.UnitLemmas.{of_called}

-- ---- digits and letters

pub digit_is : (b : ℕ) → digit_value b < 10 → is_ascii_digit b ≡ true
digit_is b h = grind (arith, nat_tests)

pub value_is : (b : ℕ) → is_ascii_digit b ≡ true → digit_value b ≡ b - 48
value_is b h = grind (arith, nat_tests)

-- a byte or more, and no digit
abbrev is_lettered : Text → Bool
is_lettered name = list_all (λ b. not (is_ascii_digit b)) name

abbrev MayBeName : Text → TimeUnit → Type 0
MayBeName name unit = (nat_lt 0 (length name) ≡ true) × (is_lettered name ≡ true)

name_is : (name : Text) (unit : TimeUnit) → duration_unit_of name ≡ Some unit → MayBeName name unit
unfolding duration_unit_of
name_is name unit e =
    of_called MayBeName duration_names name unit
    ((refl, refl), ((refl, refl), ((refl, refl), ((refl, refl), ((refl, refl), ((refl, refl), ((refl, refl), ((refl, refl), ((refl, refl), tt))))))))) e

-- ---- each list of terms is read

digits_read : (s n : ℕ) (ds rest : Text) → AllDigits 10 ds → added_up s n [] (ds ++ rest) ≡ added_up s (digits_value_after 10 n ds) [] rest
digits_read s n [] rest w = refl
digits_read s n (b ∷ bs) rest w =
    let digit = digit_is b w.0 in
    let here : added_up s n [] (b ∷ (bs ++ rest)) ≡ added_up s (n * 10 + (b - 48)) [] (bs ++ rest) = rw digit refl in
    here ∙ ap (λ (d : ℕ). added_up s (n * 10 + d) [] (bs ++ rest)) (sym (value_is b digit)) ∙ digits_read s (n * 10 + digit_value b) bs rest w.1

letters_read : (s n : ℕ) (name ls rest : Text) → is_lettered ls ≡ true → added_up s n name (ls ++ rest) ≡ added_up s n (name ++ ls) rest
letters_read s n name [] rest w = ap (λ (t : Text). added_up s n t rest) (sym (append-nil name))
letters_read s n name (b ∷ bs) rest w =
    let both = and_parts (not (is_ascii_digit b)) (is_lettered bs) w in
    let letter = not-true (is_ascii_digit b) both.0 in
    let here : added_up s n name (b ∷ (bs ++ rest)) ≡ added_up s n (name ++ b ∷ []) (bs ++ rest) = rw letter refl in
    here ∙ letters_read s n (name ++ b ∷ []) bs rest both.1 ∙ ap (λ (t : Text). added_up s n t rest) (append_assoc name (b ∷ []) bs)

term_read : (s v : ℕ) (name : Text) (unit : TimeUnit) → duration_unit_of name ≡ Some unit → with_term s v name ≡ Some (s + v * unsigned_abs (nanoseconds_of unit))
term_read s v name unit e = ap (option_map (λ u. s + v * unsigned_abs (nanoseconds_of u))) e

head_read : (s v : ℕ) (t : Term) (rest : Text) → IsTerm t → added_up s v [] (t.digits ++ (t.name ++ rest)) ≡ added_up s (digits_value_after 10 v t.digits) t.name rest
head_read s v t rest is =
    digits_read s v t.digits (t.name ++ rest) is.number.1 ∙ letters_read s (digits_value_after 10 v t.digits) [] t.name rest (name_is t.name t.unit is.called).1

next_read : (s v e : ℕ) (name ds rest : Text) → nat_lt 0 (length name) ≡ true → with_term s v name ≡ Some e → IsNumeral 10 ds → added_up s v name (ds ++ rest) ≡ added_up e 0 [] (ds ++ rest)
next_read s v e [] ds rest some is w = absurd (cc)
next_read s v e (c ∷ cs) [] rest some is w = absurd (omega (arith, w.0))
next_read s v e (c ∷ cs) (b ∷ bs) rest some is w =
    let digit = digit_is b w.1.0 in
    rw digit (rw is refl)

terms_read : (s : ℕ) (t : Term) (ts : List Term) → IsTerm t → AreTerms ts → added_up s 0 [] (spelled (t ∷ ts)) ≡ Some (s + total (t ∷ ts))
terms_read s t [] is are =
    head_read s 0 t [] is ∙ term_read s (digits_value 10 t.digits) t.name t.unit is.called ∙ ap Some (omega arith)
terms_read s t (w ∷ ws) is are =
    let v = digits_value 10 t.digits in
    let e = s + v * unsigned_abs (nanoseconds_of t.unit) in
    head_read s 0 t (spelled (w ∷ ws)) is
    ∙ next_read s v e t.name w.digits (w.name ++ spelled ws) (name_is t.name t.unit is.called).0 (term_read s v t.name t.unit is.called) are.0.number
    ∙ terms_read e w ws are.0 are.1 ∙ ap Some (omega arith)

first_digit : (ds rest : Text) → IsNumeral 10 ds → added_up 0 0 [] (ds ++ rest) ≡ duration_of (ds ++ rest)
first_digit [] rest w = absurd (omega (arith, w.0))
first_digit (b ∷ bs) rest w = starts (b ∷ (bs ++ rest)) b (bs ++ rest) refl (digit_is b w.1.0)

pub spelled_read : (ts : List Term) → AreTerms ts → ts ≢ [] → duration_of (spelled ts) ≡ Some (total ts)
spelled_read [] are some = absurd (some refl)
spelled_read (t ∷ ts) are some =
    sym (first_digit t.digits (t.name ++ spelled ts) are.0.number) ∙ terms_read 0 t ts are.0 are.1 ∙ ap Some (omega arith)

-- ---- what is read comes of terms

record Came (s n : ℕ) (name text : Text) (m : ℕ) : Type 0 where
  digits : Text
  letters : Text
  unit : TimeUnit
  terms : List Term
  text_is : text ≡ digits ++ (letters ++ spelled terms)
  are_digits : AllDigits 10 digits
  behind : name ≢ [] → digits ≡ []
  called : duration_unit_of (name ++ letters) ≡ Some unit
  are_terms : AreTerms terms
  sum : m ≡ s + (digits_value_after 10 n digits * unsigned_abs (nanoseconds_of unit) + total terms)

record Counted (s n : ℕ) (o : Option TimeUnit) (m : ℕ) : Type 0 where
  unit : TimeUnit
  called : o ≡ Some unit
  sum : m ≡ s + n * unsigned_abs (nanoseconds_of unit)

term_is : (s n : ℕ) (o : Option TimeUnit) (m : ℕ) → option_map (λ u. s + n * unsigned_abs (nanoseconds_of u)) o ≡ Some m → Counted s n o m
term_is s n None m e = absurd (cc)
term_is s n (Some u) m e = let is : s + n * unsigned_abs (nanoseconds_of u) ≡ m = cc in record { unit = u; called = refl; sum = sym is }

record Opened (o : Option ℕ) (b : ℕ) (bs : Text) (m : ℕ) : Type 0 where
  whole : ℕ
  is : o ≡ Some whole
  rest : added_up whole (0 * 10 + (b - 48)) [] bs ≡ Some m

opened : (o : Option ℕ) (b : ℕ) (bs : Text) (m : ℕ) → option_and_then (λ (p : ℕ × ℕ). added_up p.0 (p.1 * 10 + (b - 48)) [] bs) (option_map (λ s. (s, 0)) o) ≡ Some m → Opened o b bs m
opened None b bs m e = absurd (cc)
opened (Some s) b bs m e = record { whole = s; is = refl; rest = e }

push_some : (name : Text) (b : ℕ) → name ++ b ∷ [] ≢ []
push_some [] b e = cc
push_some (c ∷ cs) b e = cc

abbrev pub term_of : Text → Text → TimeUnit → Term
term_of digits name unit = record { digits = digits; name = name; unit = unit }

came_digit : (s n : ℕ) (name : Text) (b : ℕ) (bs : Text) (m : ℕ) → is_ascii_digit b ≡ true → ((z k : ℕ) → added_up z k [] bs ≡ Some m → Came z k [] bs m)
    → option_and_then (λ (p : ℕ × ℕ). added_up p.0 (p.1 * 10 + (b - 48)) [] bs) (before_digit s n name) ≡ Some m → Came s n name (b ∷ bs) m
came_digit s n [] b bs m digit ih e =
    let c = ih s (n * 10 + (b - 48)) e in
    record {
      digits = b ∷ c.digits;
      letters = c.letters;
      unit = c.unit;
      terms = c.terms;
      text_is = ap (λ (t : Text). b ∷ t) c.text_is;
      are_digits = (digit_below b digit, c.are_digits);
      behind = λ some. absurd (some refl);
      called = c.called;
      are_terms = c.are_terms;
      sum = c.sum ∙ ap (λ (d : ℕ). s + (digits_value_after 10 (n * 10 + d) c.digits * unsigned_abs (nanoseconds_of c.unit) + total c.terms)) (sym (value_is b digit));
    }
came_digit s n (x ∷ xs) b bs m digit ih e =
    let o = opened (with_term s n (x ∷ xs)) b bs m e in
    let k = term_is s n (duration_unit_of (x ∷ xs)) o.whole o.is in
    let c = ih o.whole (0 * 10 + (b - 48)) o.rest in
    let term = term_of (b ∷ c.digits) c.letters c.unit in
    let worth : m ≡ o.whole + (digits_value 10 (b ∷ c.digits) * unsigned_abs (nanoseconds_of c.unit) + total c.terms) =
    c.sum ∙ ap (λ (d : ℕ). o.whole + (digits_value_after 10 (0 * 10 + d) c.digits * unsigned_abs (nanoseconds_of c.unit) + total c.terms)) (sym (value_is b digit)) in
    record {
      digits = [];
      letters = [];
      unit = k.unit;
      terms = term ∷ c.terms;
      text_is = ap (λ (t : Text). b ∷ t) c.text_is;
      are_digits = tt;
      behind = λ some. refl;
      called = ap duration_unit_of (append-nil (x ∷ xs)) ∙ k.called;
      are_terms = (record { number = (omega arith, (digit_below b digit, c.are_digits)); called = c.called }, c.are_terms);
      sum = omega (arith, worth, k.sum);
    }

came : (s n : ℕ) (name text : Text) (m : ℕ) → added_up s n name text ≡ Some m → Came s n name text m
came s n name [] m e =
    let k = term_is s n (duration_unit_of name) m e in
    record {
      digits = [];
      letters = [];
      unit = k.unit;
      terms = [];
      text_is = refl;
      are_digits = tt;
      behind = λ some. refl;
      called = ap duration_unit_of (append-nil name) ∙ k.called;
      are_terms = tt;
      sum = omega (arith, k.sum);
    }
came s n name (b ∷ bs) m e =
    ⊎_elim {C = Came s n name (b ∷ bs) m}
    (λ digit. let here : option_and_then (λ (p : ℕ × ℕ). added_up p.0 (p.1 * 10 + (b - 48)) [] bs) (before_digit s n name) ≡ added_up s n name (b ∷ bs) = rw digit refl in
    came_digit s n name b bs m digit (λ z k is. came z k [] bs m is) (here ∙ e))
    (λ letter. let here : added_up s n (name ++ b ∷ []) bs ≡ added_up s n name (b ∷ bs) = rw letter refl in
    let c = came s n (name ++ b ∷ []) bs m (here ∙ e) in
    let none = c.behind (push_some name b) in
    record {
      digits = [];
      letters = b ∷ c.letters;
      unit = c.unit;
      terms = c.terms;
      text_is = ap (λ (t : Text). b ∷ t) (c.text_is ∙ ap (λ (ds : Text). ds ++ (c.letters ++ spelled c.terms)) none);
      are_digits = tt;
      behind = λ some. refl;
      called = ap duration_unit_of (sym (append_assoc name (b ∷ []) c.letters)) ∙ c.called;
      are_terms = c.are_terms;
      sum = c.sum ∙ ap (λ (ds : Text). s + (digits_value_after 10 n ds * unsigned_abs (nanoseconds_of c.unit) + total c.terms)) none;
    })
    (cases_Bool (is_ascii_digit b))

abbrev OfTerms : Text → ℕ → Type 0
OfTerms text n = (ts : List Term) × AreTerms ts × (ts ≢ []) × (spelled ts ≡ text) × (total ts ≡ n)

pub no_terms : (t : Term) (ts : List Term) → t ∷ ts ≢ []
no_terms t ts e = cc

first_came : (b : ℕ) (bs : Text) (m : ℕ) (digit : Bool) → is_ascii_digit b ≡ digit → cond digit (added_up 0 0 [] (b ∷ bs)) None ≡ Some m → OfTerms (b ∷ bs) m
first_came b bs m false is e = absurd (cc)
first_came b bs m true is e =
    let here : added_up 0 (0 * 10 + (b - 48)) [] bs ≡ added_up 0 0 [] (b ∷ bs) = rw is refl in
    let c = came 0 (0 * 10 + (b - 48)) [] bs m (here ∙ e) in
    let term = term_of (b ∷ c.digits) c.letters c.unit in
    let worth : m ≡ 0 + (digits_value 10 (b ∷ c.digits) * unsigned_abs (nanoseconds_of c.unit) + total c.terms) =
    c.sum ∙ ap (λ (d : ℕ). 0 + (digits_value_after 10 (0 * 10 + d) c.digits * unsigned_abs (nanoseconds_of c.unit) + total c.terms)) (sym (value_is b is)) in
    (term ∷ c.terms, (record { number = (omega arith, (digit_below b is, c.are_digits)); called = c.called }, c.are_terms), no_terms term c.terms, ap (λ (t : Text). b ∷ t) (sym c.text_is), omega (arith, worth))

read_came : (text : Text) (m : ℕ) → duration_of text ≡ Some m → OfTerms text m
unfolding duration_of
read_came [] m e = absurd (cc)
read_came (b ∷ bs) m e = first_came b bs m (is_ascii_digit b) refl e

pub durations_add_up : DurationsAddUp
durations_add_up text n = (read_came text n, λ terms. ap duration_of (sym terms.3) ∙ spelled_read terms.0 terms.1 terms.2 ∙ ap Some terms.4)
