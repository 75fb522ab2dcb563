-- A duration is read back from the text that shows it.
use Rattle.std.proofs.Common.{◌≡◌, ℕ, ◌*◌, ◌/◌, ◌%◌, ◌+◌, ◌<◌, ◌≤◌, ◌^◌, ◌==◌, ℤ, pos, negsuc, suc, neg_ℤ, ◌≤ℤ◌, FitsSigned, unsigned_abs, true, false, List, [], ◌∷◌, ◌++◌, Some, option_and_then, codes, decimal, refl, sym, ap, subst, ◌∙◌, arith, append-nil, div-add-mod', length, take, get_or}
use Rattle.std.proofs.lemmas.List.{take_more}
use Rattle.std.specs.List.{AllZip}
use Rattle.ts_core.specs.settings.Settings.{Rule}
use Rattle.std.proofs.lemmas.Bool.Decides.{nat_tests}
use Rattle.std.proofs.lemmas.Fmt.{decimal_is_IsNumeral}
use Rattle.std.proofs.lemmas.Option.{none-some}
use Rattle.std.proofs.lemmas.Int.{ints}
use Rattle.std.specs.Int.{w64}
use Rattle.std.specs.Char.{is_ascii_digit}
use Rattle.std.specs.Str.Parse.{digits_value}
use Rattle.ts_core.specs.facts.Facts.{Text}
use Rattle.ts_core.specs.facts.TimeUnits.{nanoseconds_of, duration_unit_of}
use Rattle.ts_core.specs.declared.facts.time_unit.TimeUnit.TheVariants.{Nanoseconds, Microseconds, Milliseconds, Seconds, Minutes, Hours, Days}
use Rattle.ts_core.specs.facts.Durations.{duration_of, span_of, offset_of, keeping_of, counted_up, counted_down}
use Rattle.ts_core.proofs.facts.DurationLaws.{term_of, no_terms, spelled_read}
use Rattle.ts_core.proofs.text.NumberLemmas.{digit_not_minus}
use Rattle.tsdb.specs.SettingsShown.{IsUnit, ShowsRule}
use Rattle.tsdb.specs.declared.summary.RuleSettings.{RuleSettings}

number_shown : (n size : ℕ) (name : Text) → n < 2 ^ 64 → IsUnit size name → duration_of (decimal n ++ name) ≡ Some (n * size)
number_shown n size name lt u =
    let is = decimal_is_IsNumeral n lt in
    let term = term_of (decimal n) name u.unit in
    let worth : digits_value 10 (decimal n) * unsigned_abs (nanoseconds_of u.unit) + 0 ≡ n * size = rw u.lasts (rw is.1 (omega arith)) in
    ap (λ (t : Text). duration_of (decimal n ++ t)) (sym (append-nil name))
    ∙ spelled_read (term ∷ []) (record { number = is.0; called = u.called }, tt) (no_terms term []) ∙ ap Some worth

-- a whole number of a unit
pub units_shown : (n size : ℕ) (name text : Text) → 0 < size → n % size ≡ 0 → n < 2 ^ 64 → IsUnit size name → text ≡ decimal (n / size) ++ name → duration_of text ≡ Some n
units_shown n size name text some whole lt u is =
    let all : (n / size) * size ≡ n = omega (arith, div-add-mod' n size, whole) in
    ap duration_of is ∙ number_shown (n / size) size name (omega (arith, div-add-mod' n size, some)) u ∙ ap Some all

-- a text with a duration begins with a digit
begins : (b : ℕ) (bs : Text) (n : ℕ) → duration_of (b ∷ bs) ≡ Some n → is_ascii_digit b ≡ true
unfolding duration_of
begins b bs n is = grind (arith, none-some)

span_shown : (text : Text) (n : ℕ) → duration_of text ≡ Some n → n < 2 ^ 63 → span_of text ≡ Some (pos n)
unfolding span_of
span_shown text n is lt = ap (option_and_then counted_up) is ∙ (let up : counted_up n ≡ Some (pos n) = grind (arith, nat_tests) in up)

offset_shown : (text : Text) (n : ℕ) → duration_of text ≡ Some n → n < 2 ^ 63 → offset_of text ≡ Some (pos n)
unfolding offset_of span_of duration_of
offset_shown [] n is lt = span_shown [] n is lt
offset_shown (b ∷ bs) n is lt = let no = digit_not_minus b (begins b bs n is) in rw no (span_shown (b ∷ bs) n is lt)

minus_shown : (text : Text) (n : ℕ) → duration_of text ≡ Some n → n ≤ 2 ^ 63 → offset_of (45 ∷ text) ≡ Some (neg_ℤ (pos n))
unfolding offset_of
minus_shown text n is le = ap (option_and_then counted_down) is ∙ (let down : counted_down n ≡ Some (neg_ℤ (pos n)) = grind (arith, nat_tests) in down)

-- an offset of another sign
pub negative_shown : (text : Text) (o : ℤ) → FitsSigned w64 o → o ≤ℤ pos 0 → duration_of text ≡ Some (unsigned_abs o) → offset_of (45 ∷ text) ≡ Some o
negative_shown text (pos n) fits le is = minus_shown text n is (omega (arith, ints)) ∙ ap Some (let none : neg_ℤ (pos n) ≡ pos n = omega (arith, ints, le) in none)
negative_shown text (negsuc n) fits le is = minus_shown text (suc n) is (omega (arith, ints))

pub positive_shown : (text : Text) (o : ℤ) → FitsSigned w64 o → pos 0 ≤ℤ o → duration_of text ≡ Some (unsigned_abs o) → offset_of text ≡ Some o
positive_shown text (pos n) fits ge is = offset_shown text n is (omega (arith, ints))
positive_shown text (negsuc n) fits ge is = absurd (omega (arith, ints, ge))

-- an interval
pub interval_shown : (text : Text) (o : ℤ) → FitsSigned w64 o → pos 0 ≤ℤ o → duration_of text ≡ Some (unsigned_abs o) → span_of text ≡ Some o
interval_shown text (pos n) fits ge is = span_shown text n is (omega (arith, ints))
interval_shown text (negsuc n) fits ge is = absurd (omega (arith, ints, ge))

not_i : (b : ℕ) → is_ascii_digit b ≡ true → (b == 73) ≡ false
not_i b h = grind (arith, nat_tests)

pub keeping_shown : (text : Text) (n : ℕ) → duration_of text ≡ Some n → n < 2 ^ 63 → keeping_of text ≡ Some (pos n)
unfolding keeping_of span_of duration_of
keeping_shown [] n is lt = span_shown [] n is lt
keeping_shown (b ∷ bs) n is lt = let no = not_i b (begins b bs n is) in rw no (span_shown (b ∷ bs) n is lt)

pub none_shown : offset_of (codes "0s") ≡ Some (pos 0)
unfolding offset_of span_of duration_of duration_unit_of
none_shown = refl

pub no_interval_shown : span_of (codes "0s") ≡ Some (pos 0)
unfolding span_of duration_of duration_unit_of
no_interval_shown = refl

pub for_ever_shown : keeping_of (codes "INF") ≡ Some (pos 0)
unfolding keeping_of
for_ever_shown = refl

-- ---- the units

pub days : IsUnit 86400000000000 (codes "d")
unfolding duration_unit_of
days = record { unit = Days; called = refl; lasts = refl }

pub hours : IsUnit 3600000000000 (codes "h")
unfolding duration_unit_of
hours = record { unit = Hours; called = refl; lasts = refl }

pub minutes : IsUnit 60000000000 (codes "m")
unfolding duration_unit_of
minutes = record { unit = Minutes; called = refl; lasts = refl }

pub seconds : IsUnit 1000000000 (codes "s")
unfolding duration_unit_of
seconds = record { unit = Seconds; called = refl; lasts = refl }

pub milliseconds : IsUnit 1000000 (codes "ms")
unfolding duration_unit_of
milliseconds = record { unit = Milliseconds; called = refl; lasts = refl }

pub microseconds : IsUnit 1000 (codes "u")
unfolding duration_unit_of
microseconds = record { unit = Microseconds; called = refl; lasts = refl }

pub nanoseconds : IsUnit 1 (codes "ns")
unfolding duration_unit_of
nanoseconds = record { unit = Nanoseconds; called = refl; lasts = refl }

-- ---- rules

shown_push : (rs : List Rule) (shown : List RuleSettings) (r : Rule) (s : RuleSettings) → AllZip ShowsRule rs shown → ShowsRule r s → AllZip ShowsRule (rs ++ r ∷ []) (shown ++ s ∷ [])
shown_push [] [] r s all one = (one, tt)
shown_push [] (t ∷ shown) r s all one = absurd all
shown_push (q ∷ rs) [] r s all one = absurd all
shown_push (q ∷ rs) (t ∷ shown) r s all one = (all.0, shown_push rs shown r s all.1 one)

pub shown_next : (rs : List Rule) (shown : List RuleSettings) (i : ℕ) (r : Rule) (s : RuleSettings) → i < length rs → r ≡ get_or rs i r → AllZip ShowsRule (take i rs) shown → ShowsRule r s → AllZip ShowsRule (take (i + 1) rs) (shown ++ s ∷ [])
shown_next rs shown i r s inside is all one =
    subst (λ (qs : List Rule). AllZip ShowsRule qs (shown ++ s ∷ [])) (ap (λ (q : Rule). take i rs ++ q ∷ []) is ∙ sym (take_more rs i r inside)) (shown_push (take i rs) shown r s all one)
