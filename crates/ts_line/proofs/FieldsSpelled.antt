-- Spelled fields, which are read.
use Rattle.std.proofs.Common.{◌≡◌, ℕ, ℤ, zero, suc, ◌+◌, ◌-◌, ◌≤◌, Bool, true, false, not, ◌||◌, eqb, List, [], ◌∷◌, ◌++◌, length, get_or, take, slice_range, slice_index, bytes_eq, codes, Ok, Some, None, refl, sym, ap, ◌∙◌, arith, append_assoc, length-append, FitsSigned, w64, pos, neg_ℤ}
use Rattle.std.specs.Char.{is_ascii_digit}
use Rattle.std.specs.List.{list_all, AllByRecursion}
use Rattle.std.specs.Str.Parse.{signed_digits_value}
use Rattle.std.proofs.lemmas.Bool.{and_parts, and_from, or_left, or_right, false_from_ne_true, cond-true}
use Rattle.std.proofs.lemmas.Bool.Decides.{nat_tests}
use Rattle.std.proofs.lemmas.List.{take_at, length_push, get_or_push, get_or-drop}
use Rattle.std.proofs.lemmas.Slice.Eq.{bytes_eq-Decides}
use Rattle.ts_core.specs.facts.Facts.{Text}
use Rattle.ts_line.specs.declared.scan.Stops.TheVariants.{Space, Equals, Plain}
use Rattle.ts_core.specs.text.Numbers.{is_number, without_minus, is_from_to, whole_of}
use Rattle.ts_line.specs.Parts.{LinePart}
use Rattle.ts_line.specs.Scan.{end_of}
use Rattle.ts_line.specs.PartTexts.{unescaped}
use Rattle.ts_line.specs.Values.{integer_value, value_begun_at, integer_by}
use Rattle.ts_line.specs.Fields.{next_field, with_field, fields_at}
use Rattle.ts_line.specs.Spelling.{is_closed, field_spelling, more_fields_text, IsWrittenField, field_from, with_fields}
use Rattle.ts_core.proofs.text.NumberLemmas.{fits_within}
use Rattle.ts_line.proofs.Suffixes.{At, at_next, at_byte, at_after, at_slice, is_end, at_end}
use Rattle.ts_line.proofs.TagsSpelled.{not_eqb}

-- ---- bytes of a number

abbrev pub is_number_byte : ℕ → Bool
is_number_byte b = eqb b 45 || is_ascii_digit b

digit_bytes : (bs : Text) → list_all is_ascii_digit bs ≡ true → list_all is_number_byte bs ≡ true
digit_bytes [] e = refl
digit_bytes (b ∷ bs) e =
    let a = and_parts (is_ascii_digit b) (list_all is_ascii_digit bs) e in
    and_from (is_number_byte b) (list_all is_number_byte bs) (or_right (eqb b 45) (is_ascii_digit b) a.0) (digit_bytes bs a.1)

number_bytes_by : (b : ℕ) (bs : Text) (minus : Bool) → eqb b 45 ≡ minus → is_number (b ∷ bs) ≡ true → list_all is_number_byte (b ∷ bs) ≡ true
unfolding is_number
number_bytes_by b bs true m e =
    let p = and_parts (not (eqb (length (without_minus (b ∷ bs))) 0)) (list_all is_ascii_digit (without_minus (b ∷ bs))) e in
    let rest = rw m at p.1 in
    and_from (is_number_byte b) (list_all is_number_byte bs) (or_left (eqb b 45) (is_ascii_digit b) m) (digit_bytes bs rest)
number_bytes_by b bs false m e =
    let p = and_parts (not (eqb (length (without_minus (b ∷ bs))) 0)) (list_all is_ascii_digit (without_minus (b ∷ bs))) e in
    let rest = rw m at p.1 in
    digit_bytes (b ∷ bs) rest

pub number_bytes : (number : Text) → is_number number ≡ true → list_all is_number_byte number ≡ true
number_bytes [] e = refl
number_bytes (b ∷ bs) e = number_bytes_by b bs (eqb b 45) refl e

pub number_some : (number : Text) → is_number number ≡ true → 1 ≤ length number
unfolding is_number
number_some [] e = absurd cc
number_some (b ∷ bs) e = omega arith

no_stop : (b : ℕ) → is_number_byte b ≡ true → (eqb b 32 || eqb b 44) ≡ false
no_stop b e = grind (arith, nat_tests)

pub number_closed : (before : ℕ) (text : Text) → list_all is_number_byte text ≡ true → is_closed Plain before (text ++ 105 ∷ []) ≡ true
number_closed before [] e = refl
number_closed before (b ∷ bs) e =
    let p = and_parts (is_number_byte b) (list_all is_number_byte bs) e in
    rw (no_stop b p.0) (number_closed b bs p.1)

no_quote : (b : ℕ) → is_number_byte b ≡ true → eqb b 34 ≡ false
no_quote b e = grind (arith, nat_tests)

-- ---- a value

value_is_read : (start : ℕ) (number : Text) → is_number number ≡ true → FitsSigned w64 (signed_digits_value 10 number) → integer_value start (number ++ 105 ∷ []) ≡ Ok (signed_digits_value 10 number)
unfolding integer_value
value_is_read start number number_is fits =
    let text = number ++ 105 ∷ [] in
    let len : length text ≡ length number + 1 = length_push number 105 in
    let some : eqb (length text) 0 ≡ false = grind (arith, nat_tests) in
    let offset : length number ≡ length text - 1 = omega arith in
    let last : get_or text (length text - 1) 0 ≡ 105 = get_or_push number 105 0 (length text - 1) offset in
    let front : take (length text - 1) text ≡ number = take_at number (105 ∷ []) (length text - 1) offset in
    let within : whole_of number ≡ Some (signed_digits_value 10 number) =
    cond-true (is_from_to (neg_ℤ (pos 9223372036854775808)) (pos 9223372036854775807) (signed_digits_value 10 number)) (Some (signed_digits_value 10 number)) None (fits_within (signed_digits_value 10 number) fits) in
    rw (some, last, front, number_is) (ap (integer_by start) within)

value_by : (number line rest : Text) (start at : ℕ) → At line at (number ++ (105 ∷ rest)) → list_all is_number_byte number ≡ true → 1 ≤ length number → eqb (slice_index line at) 34 ≡ false
value_by [] line rest start at h bytes some = absurd (omega arith)
value_by (b ∷ bs) line rest start at h bytes some =
    let p = and_parts (is_number_byte b) (list_all is_number_byte bs) bytes in
    ap (λ x. eqb x 34) (at_byte line b (bs ++ (105 ∷ rest)) at h) ∙ no_quote b p.0

pub value_read : (line number rest : Text) (start at : ℕ) → At line at (number ++ (105 ∷ rest)) → is_number number ≡ true → FitsSigned w64 (signed_digits_value 10 number) → is_end Plain rest ≡ true
    → value_begun_at start line at ≡ Ok (signed_digits_value 10 number, at + length number + 1)
unfolding value_begun_at
value_read line number rest start at h number_is fits e =
    let bytes = number_bytes number number_is in
    let bare : eqb (slice_index line at) 34 ≡ false = value_by number line rest start at h bytes (number_some number number_is) in
    let whole : At line at ((number ++ 105 ∷ []) ++ rest) = h ∙ sym (append_assoc number (105 ∷ []) rest) in
    let len : length (number ++ 105 ∷ []) ≡ length number + 1 = length_push number 105 in
    let end : end_of Plain line at ≡ at + length number + 1 = at_end Plain line (number ++ 105 ∷ []) rest at whole (number_closed 0 number bytes) e ∙ omega (arith, len) in
    let text : slice_range line at (at + length number + 1) ≡ number ++ 105 ∷ [] = at_slice line (number ++ 105 ∷ []) rest at (at + length number + 1) whole (omega (arith, len)) in
    rw (bare, end, text, value_is_read start number number_is fits) refl

-- ---- a field

field_len : (f : Text × Text) → length (field_spelling f) ≡ length f.0 + 1 + length f.1 + 1
field_len f = omega (arith, length-append f.0 (61 ∷ (f.1 ++ (105 ∷ []))), length-append f.1 (105 ∷ []))

pub flat : (k v rest : Text) → (k ++ (61 ∷ (v ++ (105 ∷ [])))) ++ rest ≡ k ++ (61 ∷ (v ++ (105 ∷ rest)))
flat k v rest = simp append_assoc

pub field_read : (f : Text × Text) (line rest : Text) (n : ℕ) → At line n (field_spelling f ++ rest) → IsWrittenField f → is_end Plain rest ≡ true
    → next_field line n ≡ Ok (field_from n f, n + length (field_spelling f))
unfolding next_field
field_read f line rest n h w e =
    let k = f.0 in
    let v = f.1 in
    let at : At line n (k ++ (61 ∷ (v ++ (105 ∷ rest)))) = h ∙ flat k v rest in
    let key_end : end_of Equals line n ≡ n + length k = at_end Equals line k (61 ∷ (v ++ (105 ∷ rest))) n at w.0.closed refl in
    let at_equals : At line (n + length k) (61 ∷ (v ++ (105 ∷ rest))) = at_next line k (61 ∷ (v ++ (105 ∷ rest))) n at in
    let equals : slice_index line (n + length k) ≡ 61 = at_byte line 61 (v ++ (105 ∷ rest)) (n + length k) at_equals in
    let at_value : At line (n + length k + 1) (v ++ (105 ∷ rest)) = at_after line 61 (v ++ (105 ∷ rest)) (n + length k) at_equals in
    let some_key : eqb (n + length k) n ≡ false = not_eqb (n + length k) n (λ x. omega (arith, x, w.0.some)) in
    let raw : slice_range line n (n + length k) ≡ k = at_slice line k (61 ∷ (v ++ (105 ∷ rest))) n (n + length k) at refl in
    let other : bytes_eq (unescaped Equals k) (codes "time") ≡ false = false_from_ne_true (bytes_eq (unescaped Equals k) (codes "time")) (λ t. w.1 ((bytes_eq-Decides (unescaped Equals k) (codes "time")).0 t)) in
    let value = value_read line v rest n (n + length k + 1) at_value w.2 w.3 e in
    let end : n + length k + 1 + length v + 1 ≡ n + length (field_spelling f) = omega (arith, field_len f) in
    rw (key_end, equals, some_key, raw, other, value) (ap (λ m. Ok (field_from n f, m)) end)

-- ---- all fields

pub at_none : (line : Text) (n : ℕ) → At line n [] → slice_index line n ≡ 0
at_none line n at =
    let same : n + 0 ≡ n = omega arith in
    sym (get_or-drop n line 0 0 ∙ ap (λ k. get_or line k 0) same) ∙ ap (λ l. get_or l 0 0) at

no_comma : (line rest : Text) (n : ℕ) → At line n rest → is_end Space rest ≡ true → eqb (slice_index line n) 44 ≡ false
no_comma line [] n at e = ap (λ x. eqb x 44) (at_none line n at)
no_comma line (b ∷ rest) n at e =
    let byte : slice_index line n ≡ b = at_byte line b rest n at in
    not_eqb (slice_index line n) 44 (λ x. let is : eqb b 32 ≡ true = e in let b_is : b ≡ 44 = sym byte ∙ x in let clash : eqb 44 32 ≡ true = rw b_is at is in absurd cc)

plain_end : (rest : Text) → is_end Space rest ≡ true → is_end Plain rest ≡ true
plain_end [] e = refl
plain_end (b ∷ rest) e = or_left (eqb b 32) (eqb b 44) e

pub fields_read : (more : List (Text × Text)) (first : Text × Text) (line rest : Text) (at n : ℕ) (before : List (LinePart × ℤ)) → At line at (field_spelling first ++ (more_fields_text more ++ rest))
    → IsWrittenField first → AllByRecursion IsWrittenField more → is_end Space rest ≡ true → length more + 1 ≤ n
    → fields_at n before line at ≡ Ok (with_fields (with_field before (field_from at first)) (at + length (field_spelling first)) more, at + length (field_spelling first) + length (more_fields_text more))
unfolding fields_at
fields_read more first line rest at zero before h w ws e fuel = absurd (omega arith)
fields_read [] first line rest at (suc n) before h w ws e fuel =
    let end = at + length (field_spelling first) in
    let read = field_read first line rest at h w (plain_end rest e) in
    let none : eqb (slice_index line end) 44 ≡ false = no_comma line rest end (at_next line (field_spelling first) rest at h) e in
    let same : end + 0 ≡ end = omega arith in
    rw (read, none, same) refl
fields_read (f ∷ more) first line rest at (suc n) before h w ws e fuel =
    let end = at + length (field_spelling first) in
    let behind = 44 ∷ ((field_spelling f ++ more_fields_text more) ++ rest) in
    let read = field_read first line behind at h w refl in
    let at_comma : At line end behind = at_next line (field_spelling first) behind at h in
    let comma : slice_index line end ≡ 44 = at_byte line 44 ((field_spelling f ++ more_fields_text more) ++ rest) end at_comma in
    let at_field : At line (end + 1) (field_spelling f ++ (more_fields_text more ++ rest)) = at_after line 44 ((field_spelling f ++ more_fields_text more) ++ rest) end at_comma ∙ append_assoc (field_spelling f) (more_fields_text more) rest in
    let later = fields_read more f line rest (end + 1) n (with_field before (field_from at first)) at_field ws.0 ws.1 e (omega arith) in
    let total : end + 1 + length (field_spelling f) + length (more_fields_text more) ≡ end + length (more_fields_text (f ∷ more)) = omega (arith, length-append (field_spelling f) (more_fields_text more)) in
    rw (read, comma) (later ∙ ap (λ m. Ok (with_fields (with_field (with_field before (field_from at first)) (field_from (end + 1) f)) (end + 1 + length (field_spelling f)) more, m)) total)
