-- A duration ends at the last offset at which terms from its start end.
use Rattle.std.proofs.Common.{◌≡◌, ◌⊎◌, ◌≤◌, ◌<◌, ℕ, ◌+◌, ◌==◌, Bool, true, false, cond, eqb, ltb, List, [], ◌∷◌, ◌++◌, drop, length, slice_index, length-append, append_assoc, Option, Some, None, inl, inr, refl, sym, ap, ◌∙◌, arith}
use Rattle.std.proofs.lemmas.Bool.{cond_both, cases_Bool, lt-ltb, le-ltb}
use Rattle.std.proofs.lemmas.Bool.Decides.{nat_tests}
use Rattle.std.proofs.lemmas.Int.Digits.{digits_push}
use Rattle.std.specs.Bool.{⊤}
use Rattle.std.specs.Char.{is_ascii_digit, digit_value}
use Rattle.std.specs.Str.Parse.{IsNumeral, AllDigits}
use Rattle.ts_core.specs.facts.Facts.{Text}
use Rattle.ts_core.specs.declared.facts.time_unit.TimeUnit.{TimeUnit}
use Rattle.ts_core.specs.facts.TimeUnits.{duration_unit_of, duration_names, longer_first, unit_begun}
use Rattle.ts_core.specs.facts.Durations.{Term, AreTerms, spelled}
use Rattle.ts_core.proofs.facts.DurationLaws.{digit_is, term_of}
use Rattle.ts_core.proofs.facts.UnitLemmas.{of_called}
use Rattle.ts_ql.specs.DurationUnits.{unit_len, begun_len}
use Rattle.ts_ql.specs.Lexing.{parts_end, duration_end}
use Rattle.ts_ql.specs.Laws.{DurationsEndLast}
use Rattle.ts_ql.proofs.MagnitudeLaws.{first_not_s}

-- ---- steps over the bytes

-- the end so far never decreases
grows : (m last : ℕ) (counting : Bool) (at : ℕ) (bs : Text) → m ≤ last → m ≤ at + 1 → m ≤ parts_end last counting at bs
grows m last true at [] l a = l
grows m last false at [] l a = l
grows m last true at (b ∷ bs) l a =
    let u : ℕ = unit_len b (slice_index bs 0) in
    cond_both (is_ascii_digit b) (parts_end last true (at + 1) bs) (cond (eqb u 0) last (parts_end (at + u) false (at + 1) bs)) (λ x. m ≤ x)
    (λ e. grows m last true (at + 1) bs l (omega arith))
    (λ e. cond_both (eqb u 0) last (parts_end (at + u) false (at + 1) bs) (λ x. m ≤ x) (λ z. l)
    (λ z. let some : 0 < u = grind (arith, nat_tests) in grows m (at + u) false (at + 1) bs (omega arith) (omega arith)))
grows m last false at (b ∷ bs) l a =
    cond_both (is_ascii_digit b) (parts_end last true (at + 1) bs) (cond (ltb at last) (parts_end last false (at + 1) bs) last) (λ x. m ≤ x)
    (λ e. grows m last true (at + 1) bs l (omega arith))
    (λ e. cond_both (ltb at last) (parts_end last false (at + 1) bs) last (λ x. m ≤ x) (λ z. grows m last false (at + 1) bs l (omega arith)) (λ z. l))

-- digits are stepped over
digits_passed : (last at : ℕ) (ds rest : Text) → AllDigits 10 ds → parts_end last true at (ds ++ rest) ≡ parts_end last true (at + length ds) rest
digits_passed last at [] rest w = ap (λ (n : ℕ). parts_end last true n rest) (omega arith)
digits_passed last at (b ∷ bs) rest w =
    let digit = digit_is b w.0 in
    let here : parts_end last true at (b ∷ (bs ++ rest)) ≡ parts_end last true (at + 1) (bs ++ rest) = rw digit refl in
    here ∙ digits_passed last (at + 1) bs rest w.1 ∙ ap (λ (n : ℕ). parts_end last true n rest) (omega arith)

number_passed : (last at : ℕ) (ds rest : Text) → IsNumeral 10 ds → parts_end last false at (ds ++ rest) ≡ parts_end last true (at + length ds) rest
number_passed last at [] rest w = absurd (omega (arith, w.0))
number_passed last at (b ∷ bs) rest w =
    let digit = digit_is b w.1.0 in
    let here : parts_end last false at (b ∷ (bs ++ rest)) ≡ parts_end last true (at + 1) (bs ++ rest) = rw digit refl in
    here ∙ digits_passed last (at + 1) bs rest w.1.1 ∙ ap (λ (n : ℕ). parts_end last true n rest) (omega arith)

-- the second byte of a name is stepped over
second_passed : (at byte : ℕ) (rest : Text) → is_ascii_digit byte ≡ false → parts_end (at + 2) false (at + 1) (byte ∷ rest) ≡ parts_end (at + 2) false (at + 2) rest
second_passed at byte rest e =
    let before : ltb (at + 1) (at + 2) ≡ true = lt-ltb (at + 1) (at + 2) (omega arith) in
    rw e (rw before (ap (λ (n : ℕ). parts_end (at + 2) false n rest) (omega arith)))

-- ---- names of units

-- a name is stepped over, if no `s` follows it
abbrev Passes : Text → TimeUnit → Type 0
Passes name unit =
    (last at : ℕ) (rest : Text) → (slice_index rest 0 == 115) ≡ false → parts_end last true at (name ++ rest) ≡ parts_end (at + length name) false (at + length name) rest

name_passed : (name : Text) (unit : TimeUnit) → duration_unit_of name ≡ Some unit → Passes name unit
unfolding duration_unit_of unit_begun unit_len
name_passed name unit e =
    of_called Passes duration_names name unit (
      (λ last at rest s. second_passed at 115 rest refl),
      (
        (λ last at rest s. refl),
        (
          (λ last at rest s. second_passed at 181 rest refl),
          (
            (λ last at rest s. second_passed at 115 rest refl),
            (
              (λ last at rest s. refl),
              (
                (λ last at rest s. rw s refl),
                ((λ last at rest s. refl), ((λ last at rest s. refl), ((λ last at rest s. refl), tt))),
              ),
            ),
          ),
        ),
      ),
    ) e

-- the end isn't before that of a name, whatever follows it
abbrev Reaches : Text → TimeUnit → Type 0
Reaches name unit = (last at : ℕ) (rest : Text) → at + length name ≤ parts_end last true at (name ++ rest)

unit_reached : (k last at b : ℕ) (bs : Text) → is_ascii_digit b ≡ false → 0 < k → k ≤ 2 → k ≤ unit_len b (slice_index bs 0) → at + k ≤ parts_end last true at (b ∷ bs)
unit_reached k last at b bs e some two le =
    let u : ℕ = unit_len b (slice_index bs 0) in
    let more : eqb u 0 ≡ false = grind (arith, nat_tests) in
    rw e (rw more (grows (at + k) (at + u) false (at + 1) bs (omega arith) (omega arith)))

minutes_len : (next : ℕ) → 1 ≤ unit_len 109 next
unfolding duration_unit_of unit_begun unit_len
minutes_len next = elim (cases_Bool (next == 115)) [ inl e ↦ rw e (omega arith) | inr e ↦ rw e (omega arith) ]

name_reached : (name : Text) (unit : TimeUnit) → duration_unit_of name ≡ Some unit → Reaches name unit
unfolding duration_unit_of unit_begun unit_len
name_reached name unit e =
    of_called Reaches duration_names name unit (
      (λ last at rest. unit_reached 2 last at 110 (115 ∷ rest) refl (omega arith) (omega arith) (omega arith)),
      (
        (λ last at rest. unit_reached 1 last at 117 rest refl (omega arith) (omega arith) (omega arith)),
        (
          (λ last at rest. unit_reached 2 last at 194 (181 ∷ rest) refl (omega arith) (omega arith) (omega arith)),
          (
            (λ last at rest. unit_reached 2 last at 109 (115 ∷ rest) refl (omega arith) (omega arith) (omega arith)),
            (
              (λ last at rest. unit_reached 1 last at 115 rest refl (omega arith) (omega arith) (omega arith)),
              (
                (λ last at rest. unit_reached 1 last at 109 rest refl (omega arith) (omega arith) (minutes_len (slice_index rest 0))),
                (
                  (λ last at rest. unit_reached 1 last at 104 rest refl (omega arith) (omega arith) (omega arith)),
                  (
                    (λ last at rest. unit_reached 1 last at 100 rest refl (omega arith) (omega arith) (omega arith)),
                    ((λ last at rest. unit_reached 1 last at 119 rest refl (omega arith) (omega arith) (omega arith)), tt),
                  ),
                ),
              ),
            ),
          ),
        ),
      ),
    ) e

-- ---- no terms end later

-- a term's parts, with a text after them
regrouped : (ds name more rest : Text) → (ds ++ (name ++ more)) ++ rest ≡ ds ++ (name ++ (more ++ rest))
regrouped ds name more rest = append_assoc ds (name ++ more) rest ∙ ap (λ (t : Text). ds ++ t) (append_assoc name more rest)

term_len : (ds name more : Text) → length (ds ++ (name ++ more)) ≡ length ds + (length name + length more)
term_len ds name more = simp length-append

-- terms end at the end that is found, or before it
more_reached : (from : ℕ) (ts : List Term) (rest : Text) → AreTerms ts → from + length (spelled ts) ≤ parts_end from false from (spelled ts ++ rest)
more_reached from [] rest w = grows (from + 0) from false from rest (omega arith) (omega arith)
more_reached from (t ∷ []) rest w =
    let at : ℕ = from + length t.digits in
    let same : parts_end from false from (spelled (t ∷ []) ++ rest) ≡ parts_end from true at (t.name ++ rest) =
    ap (parts_end from false from) (regrouped t.digits t.name [] rest) ∙ number_passed from from t.digits (t.name ++ rest) w.0.number in
    let reached : at + length t.name ≤ parts_end from true at (t.name ++ rest) = name_reached t.name t.unit w.0.called from at rest in
    let len : length (spelled (t ∷ [])) ≡ length t.digits + (length t.name + 0) = term_len t.digits t.name [] in
    omega arith
more_reached from (t ∷ u ∷ us) rest w =
    let at : ℕ = from + length t.digits in
    let text : Text = spelled (u ∷ us) ++ rest in
    let no_s : (slice_index text 0 == 115) ≡ false = rw (regrouped u.digits u.name (spelled us) rest) (first_not_s u.digits (u.name ++ (spelled us ++ rest)) w.1.0.number) in
    let same : parts_end from false from (spelled (t ∷ u ∷ us) ++ rest) ≡ parts_end (at + length t.name) false (at + length t.name) text =
    ap (parts_end from false from) (regrouped t.digits t.name (spelled (u ∷ us)) rest) ∙ number_passed from from t.digits (t.name ++ text) w.0.number ∙ name_passed t.name t.unit w.0.called from at text no_s in
    let reached : at + length t.name + length (spelled (u ∷ us)) ≤ parts_end (at + length t.name) false (at + length t.name) text = more_reached (at + length t.name) (u ∷ us) rest w.1 in
    let len : length (spelled (t ∷ u ∷ us)) ≡ length t.digits + (length t.name + length (spelled (u ∷ us))) = term_len t.digits t.name (spelled (u ∷ us)) in
    omega arith

-- ---- terms end there

-- a text from offset `from` on begins with terms, which end at `end`
record Begins (text : Text) (from end : ℕ) : Type 0 where
  terms : List Term
  are_terms : AreTerms terms
  after : Text
  parts : text ≡ spelled terms ++ after
  ends : end ≡ from + length (spelled terms)

begins_same : (text other : Text) (from end then : ℕ) → text ≡ other → end ≡ then → Begins text from end → Begins other from then
begins_same text other from end then e f b =
    record { terms = b.terms; are_terms = b.are_terms; after = b.after; parts = sym e ∙ b.parts; ends = sym f ∙ b.ends }

begins_none : (text : Text) (from end : ℕ) → end ≡ from → Begins text from end
begins_none text from end e = record { terms = []; are_terms = tt; after = text; parts = refl; ends = omega arith }

begins_term : (ds name text : Text) (unit : TimeUnit) (from end : ℕ) → IsNumeral 10 ds → duration_unit_of name ≡ Some unit
    → Begins text (from + length ds + length name) end → Begins (ds ++ (name ++ text)) from end
begins_term ds name text unit from end number called b =
    let term : Term = term_of ds name unit in
    let len : length (spelled (term ∷ b.terms)) ≡ length ds + (length name + length (spelled b.terms)) = term_len ds name (spelled b.terms) in
    record {
      terms = term ∷ b.terms;
      are_terms = (record { number = number; called = called }, b.are_terms);
      after = b.after;
      parts = ap (λ (t : Text). ds ++ (name ++ t)) b.parts ∙ sym (regrouped ds name (spelled b.terms) b.after);
      ends = omega (arith, b.ends);
    }

-- a unit of one byte or of two begins with these bytes, or none
abbrev Units : ℕ → ℕ → ℕ → Type 0
Units byte next len =
    (len ≡ 0) ⊎ (((unit : TimeUnit) × (duration_unit_of (byte ∷ []) ≡ Some unit) × (len ≡ 1)) ⊎ ((unit : TimeUnit) × (duration_unit_of (byte ∷ next ∷ []) ≡ Some unit) × (len ≡ 2)))

units_of : (byte next : ℕ) (two one : Option TimeUnit) → duration_unit_of (byte ∷ next ∷ []) ≡ two → duration_unit_of (byte ∷ []) ≡ one
    → Units byte next (begun_len (longer_first two one))
units_of byte next (Some unit) one e f = inr (inr (unit, e, refl))
units_of byte next None (Some unit) e f = inr (inl (unit, f, refl))
units_of byte next None None e f = inl refl

units : (byte next : ℕ) → Units byte next (unit_len byte next)
unfolding unit_len unit_begun
units byte next = units_of byte next (duration_unit_of (byte ∷ next ∷ [])) (duration_unit_of (byte ∷ [])) refl refl

-- a second byte of a name isn't a digit or 0
abbrev Second : Text → TimeUnit → Type 0
Second (byte ∷ next ∷ []) unit = (is_ascii_digit next ≡ false) × (0 < next)
Second name unit = ⊤

second_is : (name : Text) (unit : TimeUnit) → duration_unit_of name ≡ Some unit → Second name unit
unfolding duration_unit_of
second_is name unit e =
    of_called Second duration_names name unit
    ((refl, omega arith), (tt, ((refl, omega arith), ((refl, omega arith), (tt, (tt, (tt, (tt, (tt, tt))))))))) e

-- one byte or more
abbrev is_some : Text → Bool
is_some [] = false
is_some (b ∷ bs) = true

-- terms end at the end that is found for digits and this text
abbrev Found : Text → Type 0
Found bs = (from : ℕ) (ds : Text) → AllDigits 10 ds → Begins (ds ++ bs) from (parts_end from (is_some ds) (from + length ds) bs)

-- the same for the text without its first byte
abbrev FoundNext : Text → Type 0
FoundNext [] = ⊤
FoundNext (b ∷ bs) = Found bs

counts_below : (b : ℕ) → is_ascii_digit b ≡ true → digit_value b < 10
counts_below b h = grind (arith, nat_tests)

found_digit : (b : ℕ) (bs : Text) → Found bs → is_ascii_digit b ≡ true → Found (b ∷ bs)
found_digit b bs here digit from [] w =
    begins_same (b ∷ bs) (b ∷ bs) from (parts_end from true (from + 1) bs) (parts_end from false (from + 0) (b ∷ bs)) refl
    (rw digit (ap (λ (n : ℕ). parts_end from true n bs) (omega arith))) (here from (b ∷ []) (counts_below b digit, tt))
found_digit b bs here digit from (d ∷ ds) w =
    let more : Text = d ∷ ds in
    let len : length (more ++ b ∷ []) ≡ length more + 1 = simp length-append (omega arith) in
    begins_same ((more ++ b ∷ []) ++ bs) (more ++ b ∷ bs) from (parts_end from true (from + length (more ++ b ∷ [])) bs) (parts_end from true (from + length more) (b ∷ bs))
    (append_assoc more (b ∷ []) bs) (rw digit (ap (λ (n : ℕ). parts_end from true n bs) (omega arith)))
    (here from (more ++ b ∷ []) (digits_push 10 more b w (counts_below b digit)))

found_one : (b : ℕ) (bs : Text) (unit : TimeUnit) (from : ℕ) (ds : Text) → Found bs → is_ascii_digit b ≡ false → IsNumeral 10 ds
    → duration_unit_of (b ∷ []) ≡ Some unit → unit_len b (slice_index bs 0) ≡ 1 → Begins (ds ++ b ∷ bs) from (parts_end from true (from + length ds) (b ∷ bs))
found_one b bs unit from ds here e number called len =
    let at : ℕ = from + length ds in
    begins_term ds (b ∷ []) bs unit from (parts_end from true at (b ∷ bs)) number called
    (begins_same bs bs (at + 1) (parts_end (at + 1) false (at + 1 + 0) bs) (parts_end from true at (b ∷ bs)) refl
    (rw e (rw len (ap (λ (n : ℕ). parts_end (at + 1) false n bs) (omega arith)))) (here (at + 1) [] tt))

found_two : (b : ℕ) (bs : Text) (unit : TimeUnit) (from : ℕ) (ds : Text) → FoundNext bs → is_ascii_digit b ≡ false → IsNumeral 10 ds
    → duration_unit_of (b ∷ slice_index bs 0 ∷ []) ≡ Some unit → unit_len b (slice_index bs 0) ≡ 2 → Begins (ds ++ b ∷ bs) from (parts_end from true (from + length ds) (b ∷ bs))
found_two b [] unit from ds later e number called len = absurd (omega (arith, (second_is (b ∷ 0 ∷ []) unit called).1))
found_two b (c ∷ cs) unit from ds later e number called len =
    let at : ℕ = from + length ds in
    let second : is_ascii_digit c ≡ false = (second_is (b ∷ c ∷ []) unit called).0 in
    let here : parts_end from true at (b ∷ c ∷ cs) ≡ parts_end (at + 2) false (at + 1) (c ∷ cs) = rw e (rw len refl) in
    begins_term ds (b ∷ c ∷ []) cs unit from (parts_end from true at (b ∷ c ∷ cs)) number called
    (begins_same cs cs (at + 2) (parts_end (at + 2) false (at + 2 + 0) cs) (parts_end from true at (b ∷ c ∷ cs)) refl
    (ap (λ (n : ℕ). parts_end (at + 2) false n cs) (omega arith) ∙ sym (here ∙ second_passed at c cs second)) (later (at + 2) [] tt))

found_other : (b : ℕ) (bs : Text) → Found bs → FoundNext bs → is_ascii_digit b ≡ false → Found (b ∷ bs)
found_other b bs here later e from [] w =
    let past : ltb (from + 0) from ≡ false = le-ltb (from + 0) from (omega arith) in
    begins_none (b ∷ bs) from (parts_end from false (from + 0) (b ∷ bs)) (rw e (rw past refl))
found_other b bs here later e from (d ∷ ds) w =
    let number : IsNumeral 10 (d ∷ ds) = (omega arith, w) in
    elim (units b (slice_index bs 0)) [
      | inl none ↦ begins_none ((d ∷ ds) ++ b ∷ bs) from (parts_end from true (from + length (d ∷ ds)) (b ∷ bs)) (rw e (rw none refl))
      | inr some ↦ elim some [
        | inl one ↦ found_one b bs one.0 from (d ∷ ds) here e number one.1 one.2
        | inr two ↦ found_two b bs two.0 from (d ∷ ds) later e number two.1 two.2
      ]
    ]

found : (bs : Text) → Found bs × FoundNext bs
found [] = (λ from ds w. begins_none (ds ++ []) from from refl, tt)
found (b ∷ bs) =
    let next : Found bs × FoundNext bs = found bs in
    (elim (cases_Bool (is_ascii_digit b)) [ inl digit ↦ found_digit b bs next.0 digit | inr other ↦ found_other b bs next.0 next.1 other ], next.0)

-- ---- the law

pub durations_end_last : DurationsEndLast
unfolding DurationsEndLast duration_end
durations_end_last text from =
    let b : Begins (drop from text) from (parts_end from false (from + 0) (drop from text)) = (found (drop from text)).0 from [] tt in
    let same : parts_end from false (from + 0) (drop from text) ≡ parts_end from false from (drop from text) = ap (λ (n : ℕ). parts_end from false n (drop from text)) (omega arith) in (
      record { terms = b.terms; are_terms = b.are_terms; after = b.after; parts = b.parts; ends = sym same ∙ b.ends },
      λ end t. let reached : from + length (spelled t.terms) ≤ parts_end from false from (drop from text) = rw t.parts (more_reached from t.terms t.after t.are_terms) in
          omega (arith, t.ends),
    )
