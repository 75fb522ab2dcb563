-- One step of each loop over bytes.
use Rattle.std.proofs.Common.{◌≡◌, ℕ, ◌+◌, ◌<◌, ◌≤◌, Bool, true, false, cond, eqb, length, get_or, drop, arith, refl, suc, add-one, ◌⊎◌, inl, inr, ◌∙◌, ap, ltb, ◌++◌, Option, Some, None}
use Rattle.std.proofs.lemmas.List.{at_drop_more, at_drop_all, get_or-drop, get_or_past}
use Rattle.std.proofs.lemmas.Str.{IsCharBoundary-after_ascii, IsCharBoundary-past_char, IsUtf8-drop}
use Rattle.std.proofs.Math.Seq.{drop-cons}
use Rattle.std.specs.Str.{IsUtf8, IsCharBoundary}
use Rattle.std.specs.Char.{is_ascii_digit}
use lib.Utf8.{encode}
use Rattle.std.proofs.lemmas.Bool.{cases_lt}
use Rattle.std.proofs.lemmas.Bool.Decides.{nat_tests}
use Rattle.ts_core.specs.facts.Facts.{Text}
use Rattle.ts_ql.specs.declared.bytes.Class.{Class}
use Rattle.ts_ql.specs.declared.bytes.Class.TheVariants.{Space, Name, Digit}
use Rattle.ts_ql.specs.Lexing.{is_in, run_end, is_escape_byte, closing, parts_end}
use Rattle.ts_core.specs.declared.facts.time_unit.TimeUnit.{TimeUnit}
use Rattle.ts_core.specs.facts.TimeUnits.{unit_begun}
use Rattle.ts_core.proofs.facts.UnitLemmas.{Begun, begun_fits}
use Rattle.ts_ql.specs.DurationUnits.{unit_len, begun_len}

pub run_end_step : (class : Class) (at : ℕ) (text : Text) (i : ℕ) → i < length text
    → run_end class at (drop i text) ≡ cond (is_in class (get_or text i 0)) (run_end class (at + 1) (drop (i + 1) text)) at
run_end_step class at text i lt = at_drop_more (run_end class at) text i 0 lt

pub run_end_past : (class : Class) (at : ℕ) (text : Text) (i : ℕ) → length text ≤ i → run_end class at (drop i text) ≡ at
run_end_past class at text i le = at_drop_all (run_end class at) text i le

space_ascii : (byte : ℕ) → is_in Space byte ≡ true → byte < 128
space_ascii byte e = grind (arith, nat_tests)

name_ascii : (byte : ℕ) → is_in Name byte ≡ true → byte < 128
name_ascii byte e = grind (arith, nat_tests)

digit_ascii : (byte : ℕ) → is_in Digit byte ≡ true → byte < 128
digit_ascii byte e = grind (arith, nat_tests)

pub in_ascii : (class : Class) (byte : ℕ) → is_in class byte ≡ true → byte < 128
in_ascii Space byte e = space_ascii byte e
in_ascii Name byte e = name_ascii byte e
in_ascii Digit byte e = digit_ascii byte e

-- one step of the search for a closing quote, by its byte
abbrev pub closing_at : ℕ → Bool → ℕ → ℕ → Text → Option ℕ
closing_at quote true at b bs = cond (is_escape_byte b) (closing quote false (at + 1) bs) None
closing_at quote false at b bs = cond (eqb b quote) (Some at) (closing quote (eqb b 92) (at + 1) bs)

pub closing_step : (quote : ℕ) (escaped : Bool) (at : ℕ) (text : Text) (i : ℕ) → i < length text
    → closing quote escaped at (drop i text) ≡ closing_at quote escaped at (get_or text i 0) (drop (i + 1) text)
closing_step quote true at text i lt = at_drop_more (closing quote true at) text i 0 lt
closing_step quote false at text i lt = at_drop_more (closing quote false at) text i 0 lt

pub closing_past : (quote : ℕ) (escaped : Bool) (at : ℕ) (text : Text) (i : ℕ) → length text ≤ i → closing quote escaped at (drop i text) ≡ None
closing_past quote true at text i le = at_drop_all (closing quote true at) text i le
closing_past quote false at text i le = at_drop_all (closing quote false at) text i le

-- ---- durations

abbrev pub unit_at : Text → ℕ → ℕ
unit_at text i = unit_len (get_or text i 0) (get_or text (i + 1) 0)

-- one step over a duration, by its byte
abbrev pub parts_at : ℕ → Bool → ℕ → Text → ℕ → ℕ
parts_at last counting at text i =
    cond (is_ascii_digit (get_or text i 0)) (parts_end last true (at + 1) (drop (i + 1) text))
    (cond counting (cond (eqb (unit_at text i) 0) last (parts_end (at + unit_at text i) false (at + 1) (drop (i + 1) text)))
    (cond (ltb at last) (parts_end last false (at + 1) (drop (i + 1) text)) last))

pub next_byte : (text : Text) (i : ℕ) → get_or (drop (i + 1) text) 0 0 ≡ get_or text (i + 1) 0
next_byte text i = get_or-drop (i + 1) text 0 0 ∙ ap (λ n. get_or text n 0) (omega arith)

pub parts_end_step : (last : ℕ) (counting : Bool) (at : ℕ) (text : Text) (i : ℕ) → i < length text
    → parts_end last counting at (drop i text) ≡ parts_at last counting at text i
parts_end_step last counting at text i lt = at_drop_more (parts_end last counting at) text i 0 lt ∙ rw (next_byte text i) refl

pub parts_end_past : (last : ℕ) (counting : Bool) (at : ℕ) (text : Text) (i : ℕ) → length text ≤ i → parts_end last counting at (drop i text) ≡ last
parts_end_past last counting at text i le = at_drop_all (parts_end last counting at) text i le

-- the micro sign has two bytes
micro_boundary : (text : Text) (at : ℕ) → IsUtf8 text → at + 1 < length text → get_or text at 0 ≡ 194 → get_or text (at + 1) 0 ≡ 181 → IsCharBoundary text (at + 2)
unfolding encode
micro_boundary text at utf8 lt first second =
    let lt0 : at < length text = omega arith in
    let here : IsCharBoundary text at = (omega arith, λ _ _. omega arith) in
    let lt1 : suc at < length text = omega arith in
    let second' : get_or text (suc at) 0 ≡ 181 = rw add-one at second in
    let split : drop at text ≡ encode 181 ++ drop (suc (suc at)) text = rw (drop-cons text at 0 lt0, first, drop-cons text (suc at) 0 lt1, second') refl in
    IsCharBoundary-past_char text (drop (suc (suc at)) text) at 181 (omega arith) (IsUtf8-drop text at utf8 here) split

-- a unit of one byte is ASCII, one of two bytes is the micro sign or ends in ASCII
abbrev Cases : ℕ → ℕ → ℕ → Type 0
Cases byte next len = ((len ≡ 1) × (byte < 128)) ⊎ (((len ≡ 2) × (next < 128) × (0 < next)) ⊎ ((len ≡ 2) × (byte ≡ 194) × (next ≡ 181)))

begun_cases : (byte next : ℕ) (begun : Option (TimeUnit × ℕ)) → Begun byte next begun → 0 < begun_len begun → Cases byte next (begun_len begun)
begun_cases byte next None fits some = absurd (omega (arith, some))
begun_cases byte next (Some begun) fits some = fits

pub unit_cases : (byte next : ℕ) → 0 < unit_len byte next → Cases byte next (unit_len byte next)
unfolding unit_len
unit_cases byte next some = begun_cases byte next (unit_begun byte next) (begun_fits byte next) some

pub in_text : (text : Text) (i : ℕ) → 0 < get_or text i 0 → i < length text
in_text text i some = elim (cases_lt i (length text)) [ inl lt ↦ lt | inr past ↦ let none = get_or_past text i 0 past in absurd (omega arith) ]

pub unit_within : (text : Text) (at unit : ℕ) → unit ≡ unit_at text at → at < length text → at + unit ≤ length text
unit_within text at unit e lt =
    elim (cases_lt 0 unit) [
      | inl some ↦ (let some1 : 0 < unit_len (get_or text at 0) (get_or text (at + 1) 0) = omega arith in
          elim (unit_cases (get_or text at 0) (get_or text (at + 1) 0) some1) [
            | inl one ↦ omega (arith, one.0)
            | inr two ↦ elim two [
              | inl ascii ↦ (let lt1 = in_text text (at + 1) ascii.2 in omega (arith, ascii.0))
              | inr micro ↦ (let some2 : 0 < get_or text (at + 1) 0 = omega (arith, micro.2) in let lt1 = in_text text (at + 1) some2 in omega (arith, micro.0))
            ]
          ])
      | inr none ↦ omega arith
    ]

boundary_at : (text : Text) (at : ℕ) → IsUtf8 text → at < length text → 0 < unit_at text at → IsCharBoundary text (at + unit_at text at)
boundary_at text at utf8 lt some =
    elim (unit_cases (get_or text at 0) (get_or text (at + 1) 0) some) [
      | inl one ↦ rw one.0 (IsCharBoundary-after_ascii text at utf8 lt one.1)
      | inr two ↦ elim two [
        | inl ascii ↦ rw ascii.0 (let lt1 : at + 1 < length text = in_text text (at + 1) ascii.2 in let e : at + 2 ≡ (at + 1) + 1 = omega arith in rw e (IsCharBoundary-after_ascii text (at + 1) utf8 lt1 ascii.1))
        | inr micro ↦ rw micro.0 (let some2 : 0 < get_or text (at + 1) 0 = omega arith in let lt1 : at + 1 < length text = in_text text (at + 1) some2 in micro_boundary text at utf8 lt1 micro.1 micro.2)
      ]
    ]

pub unit_boundary : (text : Text) (at unit : ℕ) → unit ≡ unit_at text at → IsUtf8 text → at < length text → at < at + unit → IsCharBoundary text (at + unit)
unit_boundary text at unit e utf8 lt some = rw e (boundary_at text at utf8 lt (let some1 : 0 < unit = omega arith in rw e at some1))
