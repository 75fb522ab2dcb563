-- The bytes around the parts that were read.
use Rattle.std.proofs.Common.{◌≡◌, ℕ, ℤ, zero, suc, ◌+◌, ◌-◌, ◌*ℤ◌, ◌<◌, ◌≤◌, Bool, true, false, not, cond, ◌&&◌, eqb, [], ◌∷◌, ◌++◌, length, take, drop, slice_range, slice_index, Option, Some, None, Ok, Err, refl, sym, ap, ◌∙◌, arith, append-nil, inl, inr, ◌⊎◌}
use Rattle.std.specs.Str.Parse.{signed_digits_value}
use Rattle.std.proofs.lemmas.Bool.{and_parts, and_from, eqb-true}
use Rattle.std.proofs.lemmas.Bool.Decides.{nat_tests}
use Rattle.std.proofs.lemmas.List.{take-append-drop}
use Rattle.std.proofs.lemmas.List.Folds.{list_all-append}
use Rattle.std.proofs.lemmas.Option.{cond_some}
use Rattle.ts_core.specs.facts.Facts.{Text}
use Rattle.ts_core.specs.facts.Times.{least_time, greatest_time}
use Rattle.ts_line.specs.declared.fault.LineFaultKind.TheVariants.{BadTimestamp}
use Rattle.ts_line.specs.FaultText.{fault_at}
use Rattle.ts_core.specs.text.Numbers.{is_number, is_from_to}
use Rattle.ts_line.specs.Scan.{spaces, spaces_end}
use Rattle.ts_line.specs.Lines.{is_bare_space, trimmed, without_return, content, time_of, time_by, time_at}
use Rattle.ts_line.specs.Spelling.{are_spaces, IsStamp, SaysTime}
use Rattle.ts_line.proofs.MomentLemmas.{within_time}
use Rattle.ts_core.proofs.lists.ListSteps.{slice_step}
use Rattle.ts_line.proofs.PartFacts.{cut, first_of, nothing_left, slice_len, spaces_within, spaces_are}

-- ---- a gap: one space or more

pub record IsGap (line : Text) (n : ℕ) : Type 0 where
  pub gap : Text
  pub spelled : drop n line ≡ 32 ∷ (gap ++ drop (spaces_end line n) line)
  pub gap_is : are_spaces gap ≡ true
  pub end_is : spaces_end line n ≡ n + 1 + length gap

spaces_cons : (xs : Text) → are_spaces xs ≡ true → 1 ≤ length xs → (gap : Text) × (xs ≡ 32 ∷ gap) × (are_spaces gap ≡ true)
spaces_cons [] e some = absurd (omega arith)
spaces_cons (b ∷ bs) e some = let p = and_parts (eqb b 32) (are_spaces bs) e in (bs, ap (λ x. x ∷ bs) (eqb-true b 32 p.0), p.1)

one_space : (line : Text) (n : ℕ) → n < length line → slice_index line n ≡ 32 → n + 1 ≤ spaces_end line n
unfolding spaces_end
one_space line n lt is =
    let first : drop n line ≡ 32 ∷ drop (n + 1) line = first_of line n lt ∙ ap (λ b. b ∷ drop (n + 1) line) is in
    let count : spaces (drop n line) ≡ spaces (drop (n + 1) line) + 1 = ap spaces first in
    omega (arith, count)

pub gap_told : (line : Text) (n : ℕ) → n < length line → slice_index line n ≡ 32 → IsGap line n
gap_told line n lt is =
    let end = spaces_end line n in
    let inside = spaces_within line n (omega arith) in
    let len : length (slice_range line n end) ≡ end - n = slice_len line n end inside.0 inside.1 in
    let one : n + 1 ≤ end = one_space line n lt is in
    let g = spaces_cons (slice_range line n end) (spaces_are line n) (omega (arith, len, one)) in
    record { gap = g.0; spelled = cut line n end inside.0 ∙ ap (λ (t : Text). t ++ drop end line) g.1; gap_is = g.2; end_is = omega (arith, len, one, ap length g.1) }

-- ---- the time

pub record IsTimeAt (unit now : ℤ) (line : Text) (n : ℕ) (time : ℤ) : Type 0 where
  pub stamp : Text
  pub trail : Text
  pub spelled : drop n line ≡ stamp ++ trail
  pub trail_is : are_spaces trail ≡ true
  pub timed : SaysTime unit now stamp time

stamp_by : (unit : ℤ) (start : ℕ) (number : Text) (time : ℤ) (o : Option ℤ) → time_of unit number ≡ o → time_by start o ≡ Ok time → time_of unit number ≡ Some time
stamp_by unit start number time None e done = absurd cc
stamp_by unit start number time (Some t) e done = let same : t ≡ time = cc in e ∙ ap (λ x. Some x) same

stamp_told : (unit : ℤ) (gap number stamp : Text) (time : ℤ) → stamp ≡ 32 ∷ (gap ++ number) → are_spaces gap ≡ true → is_number number ≡ true → time_of unit number ≡ Some time → IsStamp unit stamp time
unfolding time_of
stamp_told unit gap number stamp time spelled gap_is number_is e =
    let c = cond_some (is_from_to least_time greatest_time (signed_digits_value 10 number *ℤ unit)) (signed_digits_value 10 number *ℤ unit) time e in
    record { gap = gap; number = number; spelled = spelled; gap_is = gap_is; number_is = number_is; counted = sym c.1; valid = rw (← c.1) (within_time (signed_digits_value 10 number *ℤ unit) c.0) }

number_by : (unit : ℤ) (start : ℕ) (number : Text) (time : ℤ) (b : Bool) → is_number number ≡ b → cond b (time_by start (time_of unit number)) (Err (fault_at BadTimestamp start)) ≡ Ok time → (is_number number ≡ true) × (time_of unit number ≡ Some time)
number_by unit start number time true is e = (is, stamp_by unit start number time (time_of unit number) refl e)
number_by unit start number time false is e = absurd cc

time_by_end : (unit now : ℤ) (line : Text) (n : ℕ) (time : ℤ) (b : Bool) → eqb (spaces_end line n) (length line) ≡ b → n ≤ length line → (n < length line → slice_index line n ≡ 32) → time_at unit now line n ≡ Ok time → IsTimeAt unit now line n time
unfolding time_at
time_by_end unit now line n time true whole le space e =
    let done : Ok now ≡ Ok time = rw whole at e in
    let same : now ≡ time = cc in
    let end : spaces_end line n ≡ length line = eqb-true (spaces_end line n) (length line) whole in
    let inside = spaces_within line n le in
    let all : drop n line ≡ slice_range line n (spaces_end line n) = cut line n (spaces_end line n) inside.0 ∙ ap (λ (t : Text). slice_range line n (spaces_end line n) ++ t) (nothing_left line (spaces_end line n) (omega (arith, end))) ∙ append-nil (slice_range line n (spaces_end line n)) in
    record { stamp = []; trail = drop n line; spelled = refl; trail_is = ap are_spaces all ∙ spaces_are line n; timed = inl (refl, sym same) }
time_by_end unit now line n time false more le space e =
    let start = spaces_end line n in
    let number = slice_range line start (length line) in
    let read : cond (is_number number) (time_by start (time_of unit number)) (Err (fault_at BadTimestamp start)) ≡ Ok time = rw more at e in
    let is = number_by unit start number time (is_number number) refl read in
    let inside = spaces_within line n le in
    let lt : n < length line = grind (arith, nat_tests) in
    let g = gap_told line n lt (space lt) in
    let rest : drop start line ≡ number = cut line start (length line) inside.1 ∙ ap (λ (t : Text). number ++ t) (nothing_left line (length line) (omega arith)) ∙ append-nil number in
    let spelled : drop n line ≡ 32 ∷ (g.gap ++ number) = g.spelled ∙ ap (λ (t : Text). 32 ∷ (g.gap ++ t)) rest in
    record { stamp = drop n line; trail = []; spelled = sym (append-nil (drop n line)); trail_is = refl; timed = inr (stamp_told unit g.gap number (drop n line) time spelled g.gap_is is.0 is.1) }

pub time_told : (unit now : ℤ) (line : Text) (n : ℕ) (time : ℤ) → n ≤ length line → (n < length line → slice_index line n ≡ 32) → time_at unit now line n ≡ Ok time → IsTimeAt unit now line n time
time_told unit now line n time le space e = time_by_end unit now line n time (eqb (spaces_end line n) (length line)) refl le space e

-- ---- the bytes that are passed over at the end

pub record IsContent (source line : Text) : Type 0 where
  pub after : Text
  pub return : Text
  pub spelled : source ≡ line ++ (after ++ return)
  pub after_is : are_spaces after ≡ true
  pub return_is : (return ≡ []) ⊎ (return ≡ 13 ∷ [])

bare_is : (source : Text) (n : ℕ) → is_bare_space source n ≡ true → eqb (slice_index source n) 32 ≡ true
unfolding is_bare_space
bare_is source n e = (and_parts (eqb (slice_index source n) 32) _ e).0

trimmed_by : (source : Text) (n : ℕ) (b : Bool) → is_bare_space source n ≡ b → suc n ≤ length source → (trimmed source n ≤ n) × (are_spaces (slice_range source (trimmed source n) n) ≡ true)
    → (trimmed source (suc n) ≤ suc n) × (are_spaces (slice_range source (trimmed source (suc n)) (suc n)) ≡ true)
trimmed_by source n true e le ih =
    let k = trimmed source n in
    let one : n + 1 ≡ suc n = omega arith in
    let step : slice_range source k (suc n) ≡ slice_range source k n ++ slice_index source n ∷ [] = ap (slice_range source k) (sym one) ∙ slice_step source k n ih.0 (omega arith) in
    let spaces_are : are_spaces (slice_range source k (suc n)) ≡ true =
    ap are_spaces step ∙ list_all-append (λ b. eqb b 32) (slice_range source k n) (slice_index source n ∷ [])
    ∙ and_from (are_spaces (slice_range source k n)) (are_spaces (slice_index source n ∷ [])) ih.1 (and_from (eqb (slice_index source n) 32) true (bare_is source n e) refl) in
    rw e (omega (arith, ih.0), spaces_are)
trimmed_by source n false e le ih =
    let none : suc n - suc n ≡ 0 = omega arith in
    let empty : are_spaces (slice_range source (suc n) (suc n)) ≡ true = rw none refl in
    rw e (omega arith, empty)

trimmed_told : (source : Text) (n : ℕ) → n ≤ length source → (trimmed source n ≤ n) × (are_spaces (slice_range source (trimmed source n) n) ≡ true)
trimmed_told source zero le = (omega arith, refl)
trimmed_told source (suc n) le = trimmed_by source n (is_bare_space source n) refl le (trimmed_told source n (omega arith))

abbrev has_return : Text → Bool
has_return source = not (eqb (length source) 0) && eqb (slice_index source (length source - 1)) 13

return_by : (source : Text) (b : Bool) → has_return source ≡ b → (without_return source ≤ length source) × ((drop (without_return source) source ≡ []) ⊎ (drop (without_return source) source ≡ 13 ∷ []))
return_by source true e =
    let p = and_parts (not (eqb (length source) 0)) (eqb (slice_index source (length source - 1)) 13) e in
    let some_byte : not (eqb (length source) 0) ≡ true = p.0 in
    let some : 0 < length source = grind (arith, nat_tests) in
    let byte : slice_index source (length source - 1) ≡ 13 = eqb-true (slice_index source (length source - 1)) 13 p.1 in
    let last : drop (length source - 1) source ≡ 13 ∷ [] = first_of source (length source - 1) (omega arith) ∙ ap (λ b. b ∷ drop (length source - 1 + 1) source) byte ∙ ap (λ (t : Text). 13 ∷ t) (nothing_left source (length source - 1 + 1) (omega arith)) in
    rw e (omega arith, inr last)
return_by source false e = rw e (omega arith, inl (nothing_left source (length source) (omega arith)))

pub content_told : (source : Text) → IsContent source (content source)
unfolding content
content_told source =
    let w = without_return source in
    let r = return_by source (has_return source) refl in
    let t = trimmed_told source w r.0 in
    let k = trimmed source w in
    record {
      after = slice_range source k w;
      return = drop w source;
      spelled = sym (take-append-drop k source) ∙ ap (λ (x : Text). take k source ++ x) (cut source k w t.0);
      after_is = t.1;
      return_is = r.1;
    }
