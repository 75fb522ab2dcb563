-- Each spelling, read as its parts.
use Rattle.std.proofs.Common.{◌≡◌, ℕ, ℤ, ◌+◌, ◌*ℤ◌, ◌≤◌, Bool, true, false, not, ◌&&◌, ◌||◌, eqb, ltb, List, [], ◌∷◌, ◌++◌, length, drop, slice_range, slice_index, codes, Ok, Some, None, refl, sym, ap, subst, ◌∙◌, arith, append_assoc, append-nil, length-append, zero-add, inl, inr}
use Rattle.std.specs.List.{list_all}
use Rattle.std.specs.Str.Parse.{signed_digits_value}
use Rattle.std.proofs.lemmas.Bool.{not-true, and_parts, and_from, cond-true, le-ltb}
use Rattle.std.proofs.lemmas.Bool.Decides.{nat_tests}
use Rattle.std.proofs.lemmas.List.{drop_at}
use Rattle.ts_core.specs.facts.Facts.{Text}
use Rattle.ts_core.specs.facts.Times.{IsTime, least_time, greatest_time}
use Rattle.ts_line.specs.declared.scan.Stops.TheVariants.{Space, Comma, Equals}
use Rattle.ts_core.specs.text.Numbers.{is_number, is_from_to}
use Rattle.ts_line.specs.Scan.{is_backslash, ends, end_of, spaces_end}
use Rattle.ts_line.specs.Fields.{fields_at}
use Rattle.ts_line.specs.Lines.{content, measurement_at, time_of, time_at, line_of}
use Rattle.ts_line.specs.Parts.{Parts}
use Rattle.ts_line.specs.Spelling.{is_closed, IsWrittenPart, written_piece, tags_text, tags_from, AreTags, field_spelling, more_fields_text, field_from, with_fields, SaysTime, IsSpelling}
use Rattle.ts_line.proofs.MomentLemmas.{time_within}
use Rattle.ts_line.proofs.LineLemmas.{parts_read, line_read}
use Rattle.ts_line.proofs.Suffixes.{At, at_next, at_byte, at_slice, is_end, at_end, is_no_space, at_spaces}
use Rattle.ts_line.proofs.TagsSpelled.{not_eqb, tags_read}
use Rattle.ts_line.proofs.FieldsSpelled.{is_number_byte, number_bytes, number_some, fields_read}
use Rattle.ts_line.proofs.LineSpelled.{IsPlainByte, content_read}

-- ---- the last byte

record EndsPlain (text : Text) : Type 0 where
  front : Text
  byte : ℕ
  whole : text ≡ front ++ byte ∷ []
  plain : IsPlainByte byte

ends_after : (xs ys : Text) → EndsPlain ys → EndsPlain (xs ++ ys)
ends_after xs ys e = record { front = xs ++ e.front; byte = e.byte; whole = ap (λ (t : Text). xs ++ t) e.whole ∙ sym (append_assoc xs e.front (e.byte ∷ [])); plain = e.plain }

plain_byte : (b : ℕ) → is_number_byte b ≡ true → IsPlainByte b
plain_byte b e = record { no_space = grind (arith, nat_tests); no_backslash = grind (arith, nat_tests); no_return = grind (arith, nat_tests) }

number_end : (b : ℕ) (bs : Text) → list_all is_number_byte (b ∷ bs) ≡ true → EndsPlain (b ∷ bs)
number_end b [] e = let p = and_parts (is_number_byte b) true e in record { front = []; byte = b; whole = refl; plain = plain_byte b p.0 }
number_end b (c ∷ bs) e = let p = and_parts (is_number_byte b) (list_all is_number_byte (c ∷ bs)) e in ends_after (b ∷ []) (c ∷ bs) (number_end c bs p.1)

number_ends : (number : Text) → is_number number ≡ true → EndsPlain number
number_ends [] e = absurd (omega (arith, number_some [] e))
number_ends (b ∷ bs) e = number_end b bs (number_bytes (b ∷ bs) e)

letter_i : IsPlainByte 105
letter_i = record { no_space = refl; no_backslash = refl; no_return = refl }

field_ends : (f : Text × Text) → EndsPlain (field_spelling f)
field_ends f = ends_after f.0 (61 ∷ (f.1 ++ (105 ∷ []))) (ends_after (61 ∷ []) (f.1 ++ (105 ∷ [])) (ends_after f.1 (105 ∷ []) (record { front = []; byte = 105; whole = refl; plain = letter_i })))

fields_end : (f : Text × Text) (more : List (Text × Text)) → EndsPlain (field_spelling f ++ more_fields_text more)
fields_end f [] = subst EndsPlain (sym (append-nil (field_spelling f))) (field_ends f)
fields_end f (g ∷ more) = ends_after (field_spelling f) (more_fields_text (g ∷ more)) (ends_after (44 ∷ []) (field_spelling g ++ more_fields_text more) (fields_end g more))

stamp_ends : (f : Text × Text) (more : List (Text × Text)) (unit now : ℤ) (stamp : Text) (time : ℤ) → SaysTime unit now stamp time → EndsPlain (field_spelling f ++ (more_fields_text more ++ stamp))
stamp_ends f more unit now stamp time (inl absent) =
    subst EndsPlain (ap (λ (s : Text). field_spelling f ++ (more_fields_text more ++ s)) (sym absent.0)) (subst EndsPlain (ap (λ (t : Text). field_spelling f ++ t) (sym (append-nil (more_fields_text more)))) (fields_end f more))
stamp_ends f more unit now stamp time (inr s) =
    ends_after (field_spelling f) (more_fields_text more ++ stamp) (ends_after (more_fields_text more) stamp (subst EndsPlain (sym s.spelled) (ends_after (32 ∷ []) (s.gap ++ s.number) (ends_after s.gap s.number (number_ends s.number s.number_is)))))

-- ---- the first byte

no_space_by : (b : ℕ) (bs rest : Text) → is_closed Comma 0 (b ∷ bs) ≡ true → is_no_space ((b ∷ bs) ++ rest) ≡ true
no_space_by b bs rest c = let p = and_parts (not (ends Comma 0 b)) (is_closed Comma b bs) c in let first = p.0 in grind (arith, nat_tests)

measurement_first : (raw rest : Text) → IsWrittenPart Comma raw → is_no_space (raw ++ rest) ≡ true
measurement_first [] rest w = absurd (omega (arith, w.some))
measurement_first (b ∷ bs) rest w = no_space_by b bs rest w.closed

key_by : (b : ℕ) (bs rest : Text) → is_closed Equals 0 (b ∷ bs) ≡ true → is_no_space ((b ∷ bs) ++ rest) ≡ true
key_by b bs rest c = let p = and_parts (not (ends Equals 0 b)) (is_closed Equals b bs) c in let first = p.0 in grind (arith, nat_tests)

key_first : (raw rest : Text) → IsWrittenPart Equals raw → is_no_space (raw ++ rest) ≡ true
key_first [] rest w = absurd (omega (arith, w.some))
key_first (b ∷ bs) rest w = key_by b bs rest w.closed

field_first : (f : Text × Text) (rest : Text) → IsWrittenPart Equals f.0 → is_no_space (field_spelling f ++ rest) ≡ true
field_first f rest w = rw (append_assoc f.0 (61 ∷ (f.1 ++ (105 ∷ []))) rest) (key_first f.0 ((61 ∷ (f.1 ++ (105 ∷ []))) ++ rest) w)

number_first_by : (b : ℕ) (bs : Text) → is_number_byte b ≡ true → is_no_space (b ∷ bs) ≡ true
number_first_by b bs e = grind (arith, nat_tests)

number_first : (number : Text) → is_number number ≡ true → is_no_space number ≡ true
number_first [] e = refl
number_first (b ∷ bs) e = let p = and_parts (is_number_byte b) (list_all is_number_byte bs) (number_bytes (b ∷ bs) e) in number_first_by b bs p.0

-- ---- the key part up to its space

fewer : (x y n : Bool) → not ((x || y) && n) ≡ true → not (x && n) ≡ true
fewer true y n e = e
fewer false y n e = refl

pub comma_space : (before : ℕ) (raw : Text) → is_closed Comma before raw ≡ true → is_closed Space before raw ≡ true
comma_space before [] c = c
comma_space before (b ∷ bs) c =
    let p = and_parts (not (ends Comma before b)) (is_closed Comma b bs) c in
    and_from (not (ends Space before b)) (is_closed Space b bs) (fewer (eqb b 32) (eqb b 44) (not (is_backslash before)) p.0) (comma_space b bs p.1)

equals_space : (before : ℕ) (raw : Text) → is_closed Equals before raw ≡ true → is_closed Space before raw ≡ true
equals_space before [] c = c
equals_space before (b ∷ bs) c =
    let p = and_parts (not (ends Equals before b)) (is_closed Equals b bs) c in
    and_from (not (ends Space before b)) (is_closed Space b bs) (fewer (eqb b 32) (eqb b 44) (not (is_backslash before)) (fewer (eqb b 32 || eqb b 44) (eqb b 61) (not (is_backslash before)) p.0)) (equals_space b bs p.1)

closed_from : (b : ℕ) (ys : Text) → is_backslash b ≡ false → is_closed Space 0 ys ≡ true → is_closed Space b ys ≡ true
closed_from b [] e c = rw e refl
closed_from b (y ∷ ys) e c = rw e c

pub closed_both : (before : ℕ) (xs ys : Text) → is_closed Space before xs ≡ true → is_closed Space 0 ys ≡ true → is_closed Space before (xs ++ ys) ≡ true
closed_both before [] ys c d = closed_from before ys (not-true (is_backslash before) c) d
closed_both before (x ∷ xs) ys c d =
    let p = and_parts (not (ends Space before x)) (is_closed Space x xs) c in
    and_from (not (ends Space before x)) (is_closed Space x (xs ++ ys)) p.0 (closed_both x xs ys p.1 d)

pub tags_closed : (ts : List (Text × Text)) → AreTags ts → is_closed Space 0 (tags_text ts) ≡ true
tags_closed [] w = refl
tags_closed (t ∷ ts) w =
    let value : is_closed Space 0 (t.1 ++ tags_text ts) ≡ true = closed_both 0 t.1 (tags_text ts) (equals_space 0 t.1 w.0.1.closed) (tags_closed ts w.1) in
    let equals : is_closed Space 0 (61 ∷ (t.1 ++ tags_text ts)) ≡ true = closed_from 61 (t.1 ++ tags_text ts) refl value in
    let key : is_closed Space 0 (t.0 ++ (61 ∷ (t.1 ++ tags_text ts))) ≡ true = closed_both 0 t.0 (61 ∷ (t.1 ++ tags_text ts)) (equals_space 0 t.0 w.0.0.closed) equals in
    closed_from 44 (t.0 ++ (61 ∷ (t.1 ++ tags_text ts))) refl key

-- ---- the time

time_is_read : (unit : ℤ) (number : Text) → IsTime (signed_digits_value 10 number *ℤ unit) → time_of unit number ≡ Some (signed_digits_value 10 number *ℤ unit)
unfolding time_of
time_is_read unit number valid =
    cond-true (is_from_to least_time greatest_time (signed_digits_value 10 number *ℤ unit)) (Some (signed_digits_value 10 number *ℤ unit)) None (time_within (signed_digits_value 10 number *ℤ unit) valid)

time_read : (unit now : ℤ) (line stamp : Text) (at : ℕ) (time : ℤ) → At line at stamp → length line ≡ at + length stamp → SaysTime unit now stamp time → time_at unit now line at ≡ Ok time
unfolding time_at
time_read unit now line stamp at time h len (inl absent) =
    let none : At line at ([] ++ []) = h ∙ absent.0 in
    let end : spaces_end line at ≡ length line = at_spaces line [] [] at none refl refl ∙ sym (rw absent.0 at len) in
    let whole : eqb (spaces_end line at) (length line) ≡ true = grind (arith, nat_tests) in
    rw whole (ap (λ t. Ok t) (sym absent.1))
time_read unit now line stamp at time h len (inr s) =
    let there : At line at ((32 ∷ s.gap) ++ s.number) = h ∙ s.spelled in
    let start : spaces_end line at ≡ at + length (32 ∷ s.gap) = at_spaces line (32 ∷ s.gap) s.number at there s.gap_is (number_first s.number s.number_is) in
    let total : length line ≡ at + length (32 ∷ s.gap) + length s.number = omega (arith, len, ap length s.spelled, length-append s.gap s.number) in
    let more : eqb (at + length (32 ∷ s.gap)) (length line) ≡ false = not_eqb (at + length (32 ∷ s.gap)) (length line) (λ x. omega (arith, x, total, number_some s.number s.number_is)) in
    let at_number : At line (at + length (32 ∷ s.gap)) (s.number ++ []) = at_next line (32 ∷ s.gap) s.number at there ∙ sym (append-nil s.number) in
    let text : slice_range line (at + length (32 ∷ s.gap)) (length line) ≡ s.number = at_slice line s.number [] (at + length (32 ∷ s.gap)) (length line) at_number total in
    let valid : IsTime (signed_digits_value 10 s.number *ℤ unit) = rw (← s.counted) s.valid in
    rw (start, more, text, s.number_is, time_is_read unit s.number valid) (ap (λ t. Ok t) (sym s.counted))

-- ---- the measurement

after_measurement : (ts : List (Text × Text)) (rest : Text) → is_end Comma (tags_text ts ++ (32 ∷ rest)) ≡ true
after_measurement [] rest = refl
after_measurement (t ∷ ts) rest = refl

measurement_read : (line raw rest : Text) (tags : List (Text × Text)) (n : ℕ) → At line n (raw ++ (tags_text tags ++ (32 ∷ rest))) → IsWrittenPart Comma raw → AreTags tags → length raw + length (tags_text tags) ≤ 4096
    → measurement_at line n ≡ Ok (written_piece Comma n raw, n + length raw)
unfolding measurement_at
measurement_read line raw rest tags n h w ts short =
    let key : At line n ((raw ++ tags_text tags) ++ (32 ∷ rest)) = h ∙ sym (append_assoc raw (tags_text tags) (32 ∷ rest)) in
    let key_end : end_of Space line n ≡ n + length (raw ++ tags_text tags) = at_end Space line (raw ++ tags_text tags) (32 ∷ rest) n key (closed_both 0 raw (tags_text tags) (comma_space 0 raw w.closed) (tags_closed tags ts)) refl in
    let few : ltb (n + 4096) (n + length (raw ++ tags_text tags)) ≡ false = le-ltb (n + 4096) (n + length (raw ++ tags_text tags)) (omega (arith, short, length-append raw (tags_text tags))) in
    let end : end_of Comma line n ≡ n + length raw = at_end Comma line raw (tags_text tags ++ (32 ∷ rest)) n h w.closed (after_measurement tags rest) in
    let some : eqb (n + length raw) n ≡ false = not_eqb (n + length raw) n (λ x. omega (arith, x, w.some)) in
    let text : slice_range line n (n + length raw) ≡ raw = at_slice line raw (tags_text tags ++ (32 ∷ rest)) n (n + length raw) h refl in
    rw (key_end, few, end, some, text) refl

not_hash : (line raw rest : Text) (n : ℕ) → At line n (raw ++ rest) → IsWrittenPart Comma raw → ((more : Text) → raw ≡ codes "#" ++ more → ⊥) → eqb (slice_index line n) 35 ≡ false
not_hash line [] rest n h w other = absurd (omega (arith, w.some))
not_hash line (b ∷ bs) rest n h w other =
    not_eqb (slice_index line n) 35 (λ x. other bs (ap (λ c. c ∷ bs) (sym (at_byte line b (bs ++ rest) n h) ∙ x)))

-- ---- the whole line

stamp_end : (unit now : ℤ) (stamp : Text) (time : ℤ) → SaysTime unit now stamp time → is_end Space stamp ≡ true
stamp_end unit now stamp time (inl absent) = rw absent.0 refl
stamp_end unit now stamp time (inr s) = rw s.spelled refl

nested : (b m t g f x s a r : Text) → b ++ (m ++ (t ++ (32 ∷ (g ++ (f ++ (x ++ (s ++ (a ++ r)))))))) ≡ (b ++ (m ++ (t ++ (32 ∷ (g ++ (f ++ (x ++ s))))))) ++ (a ++ r)
nested b m t g f x s a r = simp append_assoc

outer : (b m t g front tail : Text) → b ++ (m ++ (t ++ (32 ∷ (g ++ (front ++ tail))))) ≡ (b ++ (m ++ (t ++ (32 ∷ (g ++ front))))) ++ tail
outer b m t g front tail = simp append_assoc

-- the body of a line: its bytes without those that are passed over at its end
abbrev body_of : {unit now : ℤ} {source : Text} {parts : Parts} → IsSpelling unit now source parts → Text
body_of p = p.before ++ (p.measurement ++ (tags_text p.tags ++ (32 ∷ (p.gap ++ (field_spelling p.first ++ (more_fields_text p.more ++ p.stamp))))))

content_is : (unit now : ℤ) (source : Text) (parts : Parts) (p : IsSpelling unit now source parts) → content source ≡ body_of p
content_is unit now source parts p =
    let e = stamp_ends p.first p.more unit now p.stamp p.time p.timed in
    let front = p.before ++ (p.measurement ++ (tags_text p.tags ++ (32 ∷ (p.gap ++ e.front)))) in
    let body : body_of p ≡ front ++ e.byte ∷ [] = ap (λ (t : Text). p.before ++ (p.measurement ++ (tags_text p.tags ++ (32 ∷ (p.gap ++ t))))) e.whole ∙ outer p.before p.measurement (tags_text p.tags) p.gap e.front (e.byte ∷ []) in
    let whole : source ≡ front ++ (e.byte ∷ (p.after ++ p.return)) =
    p.spelled ∙ nested p.before p.measurement (tags_text p.tags) p.gap (field_spelling p.first) (more_fields_text p.more) p.stamp p.after p.return
    ∙ ap (λ (t : Text). t ++ (p.after ++ p.return)) body ∙ append_assoc front (e.byte ∷ []) (p.after ++ p.return) in
    ap content whole ∙ content_read front p.after p.return e.byte p.after_is e.plain p.return_is ∙ sym body

pub spelling_read : (unit now : ℤ) (source : Text) (parts : Parts) → IsSpelling unit now source parts → line_of unit now source ≡ Ok (Some parts)
spelling_read unit now source parts p =
    let line = body_of p in
    let tags = tags_text p.tags in
    let fields = field_spelling p.first ++ (more_fields_text p.more ++ p.stamp) in
    let n = length p.before in
    let m = n + length p.measurement in
    let t = m + length tags in
    let f = t + 1 + length p.gap in
    let e = f + length (field_spelling p.first) + length (more_fields_text p.more) in
    let at_start : At line n (p.measurement ++ (tags ++ (32 ∷ (p.gap ++ fields)))) = drop_at p.before (p.measurement ++ (tags ++ (32 ∷ (p.gap ++ fields)))) n refl in
    let at_tags : At line m (tags ++ (32 ∷ (p.gap ++ fields))) = at_next line p.measurement (tags ++ (32 ∷ (p.gap ++ fields))) n at_start in
    let at_gap : At line t ((32 ∷ p.gap) ++ fields) = at_next line tags (32 ∷ (p.gap ++ fields)) m at_tags in
    let gap_len : t + length (32 ∷ p.gap) ≡ f = omega arith in
    let at_fields : At line f fields = ap (λ k. drop k line) (sym gap_len) ∙ at_next line (32 ∷ p.gap) fields t at_gap in
    let at_more : At line (f + length (field_spelling p.first)) (more_fields_text p.more ++ p.stamp) = at_next line (field_spelling p.first) (more_fields_text p.more ++ p.stamp) f at_fields in
    let at_stamp : At line e p.stamp = at_next line (more_fields_text p.more) p.stamp (f + length (field_spelling p.first)) at_more in
    let len : length line ≡ e + length p.stamp =
    omega (
      arith,
      length-append p.before (p.measurement ++ (tags ++ (32 ∷ (p.gap ++ fields)))),
      length-append p.measurement (tags ++ (32 ∷ (p.gap ++ fields))),
      length-append tags (32 ∷ (p.gap ++ fields)),
      length-append p.gap fields,
      length-append (field_spelling p.first) (more_fields_text p.more ++ p.stamp),
      length-append (more_fields_text p.more) p.stamp,
    ) in
    let content_line : content source ≡ line = content_is unit now source parts p in
    let start : spaces_end line 0 ≡ n = at_spaces line p.before (p.measurement ++ (tags ++ (32 ∷ (p.gap ++ fields)))) 0 refl p.before_is (measurement_first p.measurement (tags ++ (32 ∷ (p.gap ++ fields))) p.measurement_is) ∙ zero-add n in
    let short : ltb 65536 (length source) ≡ false = le-ltb 65536 (length source) p.short in
    let some : eqb n (length line) ≡ false = not_eqb n (length line) (λ x. omega (arith, x, len, p.measurement_is.some)) in
    let told : eqb (slice_index line n) 35 ≡ false = not_hash line p.measurement (tags ++ (32 ∷ (p.gap ++ fields))) n at_start p.measurement_is p.no_comment in
    let measurement = measurement_read line p.measurement (p.gap ++ fields) p.tags n at_start p.measurement_is p.tags_are p.short_key in
    let tags_are = tags_read p.tags line (p.gap ++ fields) m 65 [] at_tags p.tags_are p.keys_once (omega (arith, p.few_tags)) (omega arith) in
    let gap : spaces_end line t ≡ f = at_spaces line (32 ∷ p.gap) fields t at_gap p.gap_is (field_first p.first (more_fields_text p.more ++ p.stamp) p.first_is.0) ∙ gap_len in
    let more : eqb (spaces_end line t) (length line) ≡ false = rw gap (not_eqb f (length line) (λ x. omega (arith, x, len, length-append p.first.0 (61 ∷ (p.first.1 ++ (105 ∷ [])))))) in
    let fields_are : fields_at 256 [] line (spaces_end line t) ≡ Ok (with_fields (field_from f p.first ∷ []) (f + length (field_spelling p.first)) p.more, e) =
    rw gap (fields_read p.more p.first line p.stamp f 256 [] at_fields p.first_is p.more_are (stamp_end unit now p.stamp p.time p.timed) (omega (arith, p.few_fields))) in
    let time = time_read unit now line p.stamp e p.time at_stamp len p.timed in
    let parts_are = parts_read unit now line n m t e (written_piece Comma n p.measurement) (tags_from m p.tags) (with_fields (field_from f p.first ∷ []) (f + length (field_spelling p.first)) p.more) p.time measurement tags_are more fields_are time in
    line_read unit now source parts short (rw (content_line, start) some) (rw (content_line, start) told) (rw (content_line, start) (parts_are ∙ ap (λ (q : Parts). Ok q) (sym p.told)))
