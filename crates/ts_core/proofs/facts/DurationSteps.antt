-- Adding up a duration byte by byte: the sum never falls, so it stays above 64 bits once it is.
use Rattle.std.proofs.Common.{◌≡◌, ℕ, ◌+◌, ◌-◌, ◌*◌, ◌^◌, ◌<◌, ◌≤◌, cond, Bool, true, false, [], ◌∷◌, ◌++◌, length, drop, take, get_or, slice_range, Option, Some, None, option_map, option_and_then, unsigned_abs, refl, sym, ap, ◌∙◌, arith, lit≤}
use Rattle.std.proofs.Math.Nat.{le-mul_of_pos_right}
use Rattle.std.proofs.lemmas.List.{at_drop_more}
use Rattle.std.specs.Char.{is_ascii_digit}
use Rattle.ts_core.proofs.lists.ListSteps.{slice_step}
use Rattle.ts_core.specs.facts.Facts.{Text}
use Rattle.ts_core.specs.declared.facts.time_unit.TimeUnit.{TimeUnit}
use Rattle.ts_core.specs.declared.facts.time_unit.TimeUnit.TheVariants.{Nanoseconds}
use Rattle.ts_core.specs.facts.TimeUnits.{nanoseconds_of, duration_unit_of}
use Rattle.ts_core.specs.facts.Durations.{with_term, before_digit, added_up, in_64_bits, sum_in_64_bits, duration_of}

pub unit_counts : (unit : TimeUnit) → 1 ≤ unsigned_abs (nanoseconds_of unit)
unit_counts Nanoseconds = lit≤ tt
unit_counts _ = lit≤ tt

-- a total has at least the sum and the number that it began with
pub record Reaches (sum n m : ℕ) : Type 0 where
  pub whole : sum ≤ m
  pub begun : n ≤ m

units_reach : (sum n m : ℕ) (unit : Option TimeUnit) → option_map (λ u. sum + n * unsigned_abs (nanoseconds_of u)) unit ≡ Some m → Reaches sum n m
units_reach sum n m None e = absurd (cc)
units_reach sum n m (Some u) e =
    let total : sum + n * unsigned_abs (nanoseconds_of u) ≡ m = cc in
    let grown : n ≤ n * unsigned_abs (nanoseconds_of u) = le-mul_of_pos_right n (unit_counts u) in
    record { whole = omega arith; begun = omega arith }

term_reaches : (sum n m : ℕ) (name : Text) → with_term sum n name ≡ Some m → Reaches sum n m
term_reaches sum n m name e = units_reach sum n m (duration_unit_of name) e

-- each sum after a digit is reached from the sum and the number before it
abbrev FollowsReach : Text → ℕ → Type 0
FollowsReach bs m = (s k : ℕ) → added_up s k [] bs ≡ Some m → Reaches s k m

term_first : (sum n b m : ℕ) (bs : Text) (o : Option ℕ) → FollowsReach bs m → ((s : ℕ) → o ≡ Some s → Reaches sum n s)
    → option_and_then (λ (p : ℕ × ℕ). added_up p.0 (p.1 * 10 + (b - 48)) [] bs) (option_map (λ s. (s, 0)) o) ≡ Some m → Reaches sum n m
term_first sum n b m bs None follows first e = absurd (cc)
term_first sum n b m bs (Some s) follows first e =
    let low = first s refl in
    let high = follows s (0 * 10 + (b - 48)) e in
    record { whole = omega (arith, low.whole, high.whole); begun = omega (arith, low.begun, high.whole) }

digit_reaches : (sum n b m : ℕ) (name bs : Text) → FollowsReach bs m
    → option_and_then (λ (p : ℕ × ℕ). added_up p.0 (p.1 * 10 + (b - 48)) [] bs) (before_digit sum n name) ≡ Some m → Reaches sum n m
digit_reaches sum n b m [] bs follows e =
    let high = follows sum (n * 10 + (b - 48)) e in
    record { whole = high.whole; begun = omega (arith, high.begun) }
digit_reaches sum n b m (c ∷ cs) bs follows e = term_first sum n b m bs (with_term sum n (c ∷ cs)) follows (λ s is. term_reaches sum n s (c ∷ cs) is) e

pub reaches : (sum n m : ℕ) (name text : Text) → added_up sum n name text ≡ Some m → Reaches sum n m
reaches sum n m name [] e = term_reaches sum n m name e
reaches sum n m name (b ∷ bs) e =
    let next = λ (v : Bool). cond v (option_and_then (λ (p : ℕ × ℕ). added_up p.0 (p.1 * 10 + (b - 48)) [] bs) (before_digit sum n name)) (added_up sum n (name ++ b ∷ []) bs) in
    elim (is_ascii_digit b) as (λ v. next v ≡ Some m → Reaches sum n m) [
      | true ↦ λ h. digit_reaches sum n b m name bs (λ s k is. reaches s k m [] bs is) h
      | false ↦ λ h. reaches sum n m (name ++ b ∷ []) bs h
    ] e

-- ---- past 64 bits

past : (o : Option ℕ) → ((m : ℕ) → o ≡ Some m → 2 ^ 64 ≤ m) → option_and_then in_64_bits o ≡ None
past None high = refl
past (Some m) high = let above = high m refl in grind arith

pub sum_past : (sum n : ℕ) (name text : Text) → 2 ^ 64 ≤ sum → option_and_then in_64_bits (added_up sum n name text) ≡ None
sum_past sum n name text high = past (added_up sum n name text) (λ m is. let reached = reaches sum n m name text is in omega (arith, reached.whole))

pub number_past : (sum n : ℕ) (name text : Text) → 2 ^ 64 ≤ n → option_and_then in_64_bits (added_up sum n name text) ≡ None
number_past sum n name text high = past (added_up sum n name text) (λ m is. let reached = reaches sum n m name text is in omega (arith, reached.begun))

-- ---- one byte more, at an offset of the text; the name begins at another

pub letter_step : (sum n from at : ℕ) (text : Text) → from ≤ at → at < length text → is_ascii_digit (get_or text at 0) ≡ false
    → added_up sum n (slice_range text from at) (drop at text) ≡ added_up sum n (slice_range text from (at + 1)) (drop (at + 1) text)
letter_step sum n from at text le lt letter =
    let here = at_drop_more (added_up sum n (slice_range text from at)) text at 0 lt in
    let passed : added_up sum n (slice_range text from at) (get_or text at 0 ∷ drop (at + 1) text) ≡ added_up sum n (slice_range text from at ++ get_or text at 0 ∷ []) (drop (at + 1) text) = rw letter refl in
    here ∙ passed ∙ ap (λ (name : Text). added_up sum n name (drop (at + 1) text)) (sym (slice_step text from at le lt))

pub digit_step : (sum n from at : ℕ) (text : Text) → at < length text → is_ascii_digit (get_or text at 0) ≡ true
    → added_up sum n (slice_range text from at) (drop at text)
    ≡ option_and_then (λ (p : ℕ × ℕ). added_up p.0 (p.1 * 10 + (get_or text at 0 - 48)) [] (drop (at + 1) text)) (before_digit sum n (slice_range text from at))
digit_step sum n from at text lt digit =
    let here = at_drop_more (added_up sum n (slice_range text from at)) text at 0 lt in
    here ∙ rw digit refl

-- ---- the whole text

pub nothing_read : (text : Text) → length text ≡ 0 → duration_of text ≡ None
unfolding duration_of
nothing_read [] none = refl
nothing_read (b ∷ bs) none = absurd (omega arith)

pub no_start : (text : Text) (b : ℕ) (bs : Text) → text ≡ b ∷ bs → is_ascii_digit b ≡ false → duration_of text ≡ None
unfolding duration_of
no_start text b bs is letter = rw is (rw letter refl)

pub starts : (text : Text) (b : ℕ) (bs : Text) → text ≡ b ∷ bs → is_ascii_digit b ≡ true → added_up 0 0 [] text ≡ duration_of text
unfolding duration_of
starts text b bs is digit = rw is (rw digit refl)

-- a sum beside a number
paired : ℕ → ℕ → ℕ × ℕ
paired k s = (s, k)

not_in_64_bits : (s k : ℕ) → option_map (paired k) (in_64_bits s) ≡ None → 2 ^ 64 ≤ s
unfolding paired
not_in_64_bits s k e = grind arith

-- a sum that is returned in 64 bits is the sum
kept : (s k : ℕ) (p : ℕ × ℕ) → option_map (paired k) (in_64_bits s) ≡ Some p → Some (paired k s) ≡ Some p
unfolding paired
kept s k p e = grind arith

sum_kept : (o : Option (ℕ × ℕ)) (p : ℕ × ℕ) → option_and_then sum_in_64_bits o ≡ Some p → o ≡ Some p
unfolding paired
sum_kept None p e = absurd (cc)
sum_kept (Some q) p e = kept q.0 q.1 p e

whole_over : (b : ℕ) (bs : Text) (o : Option (ℕ × ℕ)) → option_and_then sum_in_64_bits o ≡ None
    → option_and_then in_64_bits (option_and_then (λ (p : ℕ × ℕ). added_up p.0 (p.1 * 10 + (b - 48)) [] bs) o) ≡ None
unfolding paired
whole_over b bs None e = refl
whole_over b bs (Some p) e = sum_past p.0 (p.1 * 10 + (b - 48)) [] bs (not_in_64_bits p.0 p.1 e)

-- a digit is read after a term that is none, or past 64 bits
pub whole_past : (sum n from at : ℕ) (text : Text) (whole : Option ℕ) → at < length text → is_ascii_digit (get_or text at 0) ≡ true
    → added_up sum n (slice_range text from at) (drop at text) ≡ whole → None ≡ option_and_then sum_in_64_bits (before_digit sum n (slice_range text from at))
    → None ≡ option_and_then in_64_bits whole
whole_past sum n from at text whole lt digit so over =
    sym (ap (option_and_then in_64_bits) (sym so ∙ digit_step sum n from at text lt digit)
    ∙ whole_over (get_or text at 0) (drop (at + 1) text) (before_digit sum n (slice_range text from at)) (sym over))

-- a digit read after its number
pub digit_read : (sum n from at s k : ℕ) (text : Text) (whole : Option ℕ) → at < length text → is_ascii_digit (get_or text at 0) ≡ true
    → added_up sum n (slice_range text from at) (drop at text) ≡ whole → Some (s, k) ≡ option_and_then sum_in_64_bits (before_digit sum n (slice_range text from at))
    → added_up s (k * 10 + (get_or text at 0 - 48)) [] (drop (at + 1) text) ≡ whole
digit_read sum n from at s k text whole lt digit so told =
    let is : before_digit sum n (slice_range text from at) ≡ Some (s, k) = sum_kept _ _ (sym told) in
    sym (ap (option_and_then (λ (p : ℕ × ℕ). added_up p.0 (p.1 * 10 + (get_or text at 0 - 48)) [] (drop (at + 1) text))) is)
    ∙ sym (digit_step sum n from at text lt digit) ∙ so

pub digit_past : (sum n from at s k : ℕ) (text : Text) (whole : Option ℕ) → at < length text → is_ascii_digit (get_or text at 0) ≡ true
    → added_up sum n (slice_range text from at) (drop at text) ≡ whole → Some (s, k) ≡ option_and_then sum_in_64_bits (before_digit sum n (slice_range text from at))
    → (k * 10 + (get_or text at 0 - 48) < 2 ^ 64 → ⊥) → None ≡ option_and_then in_64_bits whole
digit_past sum n from at s k text whole lt digit so told over =
    sym (ap (option_and_then in_64_bits) (sym (digit_read sum n from at s k text whole lt digit so told))
    ∙ number_past s (k * 10 + (get_or text at 0 - 48)) [] (drop (at + 1) text) (omega (arith, over)))

no_name : (text : Text) (at : ℕ) → slice_range text (at + 1) (at + 1) ≡ []
no_name text at = let none : (at + 1) - (at + 1) ≡ 0 = omega arith in ap (λ (i : ℕ). take i (drop (at + 1) text)) none

-- the state after a digit, and after a letter
pub after_digit : (s k from at sum n : ℕ) (text : Text) (whole : Option ℕ) → s ≡ sum → k ≡ n → from ≡ at + 1 → added_up sum n [] (drop (at + 1) text) ≡ whole
    → added_up s k (slice_range text from (at + 1)) (drop (at + 1) text) ≡ whole
after_digit s k from at sum n text whole es ek ef so = rw (es, ek, ef) (rw (no_name text at) so)

pub after_letter : (s k f at sum n from : ℕ) (text : Text) (whole : Option ℕ) → s ≡ sum → k ≡ n → f ≡ from → from ≤ at → at < length text → is_ascii_digit (get_or text at 0) ≡ false
    → added_up sum n (slice_range text from at) (drop at text) ≡ whole → added_up s k (slice_range text f (at + 1)) (drop (at + 1) text) ≡ whole
after_letter s k f at sum n from text whole es ek ef le lt letter so = rw (es, ek, ef) (sym (letter_step sum n from at text le lt letter) ∙ so)
