-- Fields that are read, which are spelled so.
use Rattle.std.proofs.Common.{◌≡◌, ℕ, ℤ, zero, suc, ◌+◌, ◌-◌, ◌<◌, ◌≤◌, Bool, true, false, not, cond, ◌&&◌, ◌||◌, eqb, List, [], ◌∷◌, ◌++◌, length, get_or, take, drop, slice_range, slice_index, bytes_eq, codes, Option, Some, None, Ok, Err, refl, sym, ap, subst, ◌∙◌, arith, append_assoc, length-append, inl, inr, ◌⊎◌, ⊎_elim, FitsSigned, w64, pos, neg_ℤ}
use Rattle.std.specs.List.{AllByRecursion}
use Rattle.std.specs.Str.Parse.{signed_digits_value}
use Rattle.std.proofs.lemmas.Bool.{not-false, and_parts, or_parts, both_ways, eqb-true}
use Rattle.std.proofs.lemmas.Bool.Decides.{nat_tests}
use Rattle.std.proofs.lemmas.List.{take_all, take_more, length_push}
use Rattle.std.proofs.lemmas.Option.{cond_some}
use Rattle.std.proofs.lemmas.Slice.Eq.{bytes_eq-Decides}
use Rattle.ts_core.specs.facts.Facts.{Text}
use Rattle.ts_line.specs.declared.fault.LineFault.{LineFault}
use Rattle.ts_line.specs.declared.fault.LineFaultKind.TheVariants.{BadField, FieldType, ReservedKey}
use Rattle.ts_line.specs.FaultText.{fault_at}
use Rattle.ts_line.specs.declared.scan.Stops.TheVariants.{Equals, Plain}
use Rattle.ts_core.specs.text.Numbers.{is_number, is_from_to, whole_of}
use Rattle.ts_line.specs.Parts.{LinePart}
use Rattle.ts_line.specs.Scan.{is_stop, end_of}
use Rattle.ts_line.specs.PartTexts.{unescaped, piece_at}
use Rattle.ts_line.specs.Values.{is_integer, is_unsigned, is_boolean, is_float, after_quotes, is_value_end, then_is, integer_value, value_begun_at, integer_by}
use Rattle.ts_line.specs.Fields.{next_field, with_field, fields_at}
use Rattle.ts_core.specs.text.Steps.{◌>>=◌}
use Rattle.ts_line.specs.Spelling.{is_closed, written_piece, field_spelling, more_fields_text, IsWrittenField, field_from, with_fields}
use Rattle.ts_core.proofs.text.NumberLemmas.{within_fits}
use Rattle.ts_line.proofs.PartFacts.{bind_ok, not_err, cut, first_of, slice_len, within, end_within, part_closes}
use Rattle.ts_line.proofs.FieldsSpelled.{flat}
use Rattle.ts_line.proofs.TagFacts.{EndsKey}

-- ---- a value

pub record IsValue (text : Text) (value : ℤ) : Type 0 where
  pub number : Text
  pub spelled : text ≡ number ++ 105 ∷ []
  pub number_is : is_number number ≡ true
  pub fits : FitsSigned w64 (signed_digits_value 10 number)
  pub told : value ≡ signed_digits_value 10 number

whole_told : (start : ℕ) (number : Text) (o : Option ℤ) (value : ℤ) → whole_of number ≡ o → integer_by start o ≡ Ok value → FitsSigned w64 (signed_digits_value 10 number) × (value ≡ signed_digits_value 10 number)
whole_told start number None value e done = absurd cc
whole_told start number (Some n) value e done =
    let w = cond_some (is_from_to (neg_ℤ (pos 9223372036854775808)) (pos 9223372036854775807) (signed_digits_value 10 number)) (signed_digits_value 10 number) n e in
    let same : n ≡ value = cc in
    (within_fits (signed_digits_value 10 number) w.0, sym (w.1 ∙ same))

integer_text : (text : Text) → is_integer text ≡ true → (text ≡ take (length text - 1) text ++ 105 ∷ []) × (is_number (take (length text - 1) text) ≡ true)
integer_text text e =
    let front = take (length text - 1) text in
    let a = and_parts (not (eqb (length text) 0) && eqb (get_or text (length text - 1) 0) 105) (is_number front) e in
    let b = and_parts (not (eqb (length text) 0)) (eqb (get_or text (length text - 1) 0) 105) a.0 in
    let some_byte : not (eqb (length text) 0) ≡ true = b.0 in
    let some : 0 < length text = grind (arith, nat_tests) in
    (sym (take_all (length text - 1 + 1) text (omega arith)) ∙ take_more text (length text - 1) 0 (omega arith) ∙ ap (λ x. front ++ x ∷ []) (eqb-true (get_or text (length text - 1) 0) 105 b.1), a.1)

faulty : {A : Type 0} (b : Bool) (x y : LineFault) (v : A) → cond b (Err x) (Err y) ≡ Ok v → ⊥
faulty true x y v e = absurd cc
faulty false x y v e = absurd cc

value_by : (start : ℕ) (text : Text) (value : ℤ) (b : Bool) → is_integer text ≡ b → integer_value start text ≡ Ok value → IsValue text value
unfolding integer_value
value_by start text value false e done =
    let no : cond (is_unsigned text || is_boolean text || is_float text) (Err (fault_at FieldType start)) (Err (fault_at BadField start)) ≡ Ok value = rw e at done in
    absurd (faulty (is_unsigned text || is_boolean text || is_float text) (fault_at FieldType start) (fault_at BadField start) value no)
value_by start text value true e done =
    let read : integer_by start (whole_of (take (length text - 1) text)) ≡ Ok value = rw e at done in
    let is = integer_text text e in
    let w = whole_told start (take (length text - 1) text) (whole_of (take (length text - 1) text)) value refl read in
    record { number = take (length text - 1) text; spelled = is.0; number_is = is.1; fits = w.0; told = w.1 }

pub value_text_told : (start : ℕ) (text : Text) (value : ℤ) → integer_value start text ≡ Ok value → IsValue text value
value_text_told start text value e = value_by start text value (is_integer text) refl e

-- a value that was read runs to its end
pub record IsValueAt (line : Text) (n : ℕ) (value : ℤ) (end : ℕ) : Type 0 where
  pub number : Text
  pub spelled : drop n line ≡ number ++ (105 ∷ drop end line)
  pub number_is : is_number number ≡ true
  pub fits : FitsSigned w64 (signed_digits_value 10 number)
  pub told : value ≡ signed_digits_value 10 number
  pub end_is : end ≡ n + length number + 1
  pub inside : end ≤ length line
  pub ends : EndsKey line end

ends_cases : (b : ℕ) (s : Bool) → eqb b 32 ≡ s → is_stop Plain b ≡ true → (b ≡ 44) ⊎ (b ≡ 32)
ends_cases b true s e = inr (eqb-true b 32 s)
ends_cases b false s e = inl (grind (arith, nat_tests))

plain_told : (start : ℕ) (line : Text) (n : ℕ) (value : ℤ) (end : ℕ) → n ≤ length line → end_of Plain line n ≡ end → integer_value start (slice_range line n end) ≡ Ok value → IsValueAt line n value end
plain_told start line n value end le e done =
    let is = value_text_told start (slice_range line n end) value done in
    let inside = end_within Plain line n le in
    let low : n ≤ end = omega (arith, e, inside.0) in
    let high : end ≤ length line = omega (arith, e, inside.1) in
    let len : length (slice_range line n end) ≡ end - n = slice_len line n end low high in
    let whole : length (slice_range line n end) ≡ length is.number + 1 = ap length is.spelled ∙ length_push is.number 105 in
    record {
      number = is.number;
      spelled = cut line n end low ∙ ap (λ (t : Text). t ++ drop end line) is.spelled ∙ append_assoc is.number (105 ∷ []) (drop end line);
      number_is = is.number_is;
      fits = is.fits;
      told = is.told;
      end_is = omega (arith, len, whole);
      inside = high;
      ends = λ lt. ends_cases (slice_index line end) (eqb (slice_index line end) 32) refl (ap (λ k. is_stop Plain (slice_index line k)) (sym e) ∙ (part_closes Plain line n le (omega (arith, lt, e))).1);
    }

value_at_by : (start : ℕ) (line : Text) (n : ℕ) (v : ℤ × ℕ) (quote : Bool) → eqb (slice_index line n) 34 ≡ quote → n ≤ length line → value_begun_at start line n ≡ Ok v → IsValueAt line n v.0 v.1
unfolding value_begun_at
value_at_by start line n v true e le done =
    let no : cond (then_is (after_quotes false (drop (n + 1) line)) is_value_end) (Err (fault_at FieldType start)) (Err (fault_at BadField start)) ≡ Ok v = rw e at done in
    absurd (faulty (then_is (after_quotes false (drop (n + 1) line)) is_value_end) (fault_at FieldType start) (fault_at BadField start) v no)
value_at_by start line n v false e le done =
    let read : (integer_value start (slice_range line n (end_of Plain line n)) >>= λ x. Ok (x, end_of Plain line n)) ≡ Ok v = rw e at done in
    let b = bind_ok (integer_value start (slice_range line n (end_of Plain line n))) (λ x. Ok (x, end_of Plain line n)) v read in
    let same : (b.0, end_of Plain line n) ≡ v = let all = b.2 in cc in
    subst (λ (x : ℤ × ℕ). IsValueAt line n x.0 x.1) same (plain_told start line n b.0 (end_of Plain line n) le refl b.1)

pub value_told : (start : ℕ) (line : Text) (n : ℕ) (v : ℤ × ℕ) → n ≤ length line → value_begun_at start line n ≡ Ok v → IsValueAt line n v.0 v.1
value_told start line n v le e = value_at_by start line n v (eqb (slice_index line n) 34) refl le e

-- ---- a field

pub record IsFieldAt (line : Text) (n : ℕ) (g : LinePart × ℤ) (end : ℕ) : Type 0 where
  pub field : Text × Text
  pub spelled : drop n line ≡ field_spelling field ++ drop end line
  pub is : IsWrittenField field
  pub told : g ≡ field_from n field
  pub end_is : end ≡ n + length (field_spelling field)
  pub inside : end ≤ length line
  pub ends : EndsKey line end

field_of : (line : Text) (n key_end : ℕ) (value : ℤ) (end : ℕ) → n ≤ length line → end_of Equals line n ≡ key_end → (key_end ≡ n → ⊥) → slice_index line key_end ≡ 61
    → (unescaped Equals (slice_range line n key_end) ≡ codes "time" → ⊥) → IsValueAt line (key_end + 1) value end → IsFieldAt line n (piece_at Equals line n key_end, value) end
field_of line n key_end value end le e ne equals other v =
    let inside = end_within Equals line n le in
    let low : n < key_end = omega (arith, e, inside.0, ne) in
    let lt : key_end < length line = within line key_end 61 equals (omega arith) in
    let key = slice_range line n key_end in
    let len : length key ≡ key_end - n = slice_len line n key_end (omega arith) (omega arith) in
    let closed = ap (λ k. is_closed Equals 0 (slice_range line n k)) (sym e) ∙ (part_closes Equals line n le (omega (arith, lt, e))).0 in
    record {
      field = (key, v.number);
      spelled = cut line n key_end (omega arith) ∙ ap (λ (x : Text). key ++ x) (first_of line key_end lt ∙ ap (λ b. b ∷ drop (key_end + 1) line) equals ∙ ap (λ (x : Text). 61 ∷ x) v.spelled) ∙ sym (flat key v.number (drop end line));
      is = (record { some = omega (arith, len, low); closed = closed }, other, v.number_is, v.fits);
      told = ap (λ (x : ℤ). (written_piece Equals n key, x)) v.told;
      end_is = omega (arith, v.end_is, len, low, length-append key (61 ∷ (v.number ++ (105 ∷ []))), length-append v.number (105 ∷ []));
      inside = v.inside;
      ends = v.ends;
    }

pub field_told : (line : Text) (n : ℕ) (g : (LinePart × ℤ) × ℕ) → n ≤ length line → next_field line n ≡ Ok g → IsFieldAt line n g.0 g.1
unfolding next_field
field_told line n g le e =
    let key_end = end_of Equals line n in
    let key = piece_at Equals line n key_end in
    let a = not_err (eqb key_end n || not (eqb (slice_index line key_end) 61)) (fault_at BadField n) _ g e in
    let b = not_err (bytes_eq key.text (codes "time")) (fault_at ReservedKey n) _ g a.1 in
    let v = bind_ok (value_begun_at n line (key_end + 1)) _ g b.1 in
    let p = or_parts (eqb key_end n) (not (eqb (slice_index line key_end) 61)) a.0 in
    let equals : slice_index line key_end ≡ 61 = eqb-true (slice_index line key_end) 61 (not-false (eqb (slice_index line key_end) 61) p.1) in
    let ne : key_end ≡ n → ⊥ = λ x. let no = p.0 in let yes : eqb key_end n ≡ true = grind (arith, nat_tests) in both_ways (eqb key_end n) no yes in
    let other : key.text ≡ codes "time" → ⊥ = λ is. both_ways (bytes_eq key.text (codes "time")) b.0 ((bytes_eq-Decides key.text (codes "time")).1 is) in
    let lt : key_end < length line = within line key_end 61 equals (omega arith) in
    let same : ((key, v.0.0), v.0.1) ≡ g = let all = v.2 in cc in
    subst (λ (x : (LinePart × ℤ) × ℕ). IsFieldAt line n x.0 x.1) same (field_of line n key_end v.0.0 v.0.1 le refl ne equals other (value_told n line (key_end + 1) v.0 (omega arith) v.1))

-- ---- all fields

pub record AreFieldsTold (n : ℕ) (line : Text) (at : ℕ) (before out : List (LinePart × ℤ)) (end : ℕ) : Type 0 where
  pub first : Text × Text
  pub more : List (Text × Text)
  pub spelled : drop at line ≡ field_spelling first ++ (more_fields_text more ++ drop end line)
  pub first_is : IsWrittenField first
  pub more_are : AllByRecursion IsWrittenField more
  pub told : out ≡ with_fields (with_field before (field_from at first)) (at + length (field_spelling first)) more
  pub end_is : end ≡ at + length (field_spelling first) + length (more_fields_text more)
  pub few : length more + 1 ≤ n
  pub inside : end ≤ length line
  pub behind : end < length line → slice_index line end ≡ 32

last_field : (n : ℕ) (line : Text) (at : ℕ) (before : List (LinePart × ℤ)) (g : LinePart × ℤ) (end : ℕ) → IsFieldAt line at g end → eqb (slice_index line end) 44 ≡ false → AreFieldsTold (suc n) line at before (with_field before g) end
last_field n line at before g end f none = record {
  first = f.field;
  more = [];
  spelled = f.spelled;
  first_is = f.is;
  more_are = tt;
  told = ap (with_field before) f.told;
  end_is = omega (arith, f.end_is);
  few = omega arith;
  inside = f.inside;
  behind = λ lt. ⊎_elim (λ is. let c : eqb (slice_index line end) 44 ≡ true = grind (arith, nat_tests) in absurd (both_ways (eqb (slice_index line end) 44) none c)) (λ is. is) (f.ends lt);
}

next_fields : (n : ℕ) (line : Text) (at : ℕ) (before : List (LinePart × ℤ)) (g : LinePart × ℤ) (next : ℕ) (out : List (LinePart × ℤ)) (end : ℕ) → IsFieldAt line at g next → slice_index line next ≡ 44 → next < length line
    → AreFieldsTold n line (next + 1) (with_field before g) out end → AreFieldsTold (suc n) line at before out end
next_fields n line at before g next out end f comma lt later = record {
  first = f.field;
  more = later.first ∷ later.more;
  spelled = f.spelled ∙ ap (λ (x : Text). field_spelling f.field ++ x) (first_of line next lt ∙ ap (λ b. b ∷ drop (next + 1) line) comma ∙ ap (λ (x : Text). 44 ∷ x) (later.spelled ∙ sym (append_assoc (field_spelling later.first) (more_fields_text later.more) (drop end line))));
  first_is = f.is;
  more_are = (later.first_is, later.more_are);
  told = later.told ∙ ap (λ x. with_fields (with_field (with_field before x) (field_from (next + 1) later.first)) (next + 1 + length (field_spelling later.first)) later.more) f.told
      ∙ ap (λ m. with_fields (with_field (with_field before (field_from at f.field)) (field_from (m + 1) later.first)) (m + 1 + length (field_spelling later.first)) later.more) f.end_is;
  end_is = omega (arith, later.end_is, f.end_is, length-append (field_spelling later.first) (more_fields_text later.more));
  few = omega (arith, later.few);
  inside = later.inside;
  behind = later.behind;
}

fields_by : (n : ℕ) (before : List (LinePart × ℤ)) (line : Text) (at : ℕ) (r : List (LinePart × ℤ) × ℕ) (g : (LinePart × ℤ) × ℕ) (comma : Bool) → eqb (slice_index line g.1) 44 ≡ comma → IsFieldAt line at g.0 g.1
    → ((before' : List (LinePart × ℤ)) (at' : ℕ) → at' ≤ length line → fields_at n before' line at' ≡ Ok r → AreFieldsTold n line at' before' r.0 r.1)
    → cond (eqb (slice_index line g.1) 44) (fields_at n (with_field before g.0) line (g.1 + 1)) (Ok (with_field before g.0, g.1)) ≡ Ok r → AreFieldsTold (suc n) line at before r.0 r.1
fields_by n before line at r g true comma f ih e =
    let step : fields_at n (with_field before g.0) line (g.1 + 1) ≡ Ok r = rw comma at e in
    let byte : slice_index line g.1 ≡ 44 = eqb-true (slice_index line g.1) 44 comma in
    let lt : g.1 < length line = within line g.1 44 byte (omega arith) in
    next_fields n line at before g.0 g.1 r.0 r.1 f byte lt (ih (with_field before g.0) (g.1 + 1) (omega arith) step)
fields_by n before line at r g false comma f ih e =
    let done : Ok (with_field before g.0, g.1) ≡ Ok r = rw comma at e in
    let same : (with_field before g.0, g.1) ≡ r = cc in
    subst (λ (x : List (LinePart × ℤ) × ℕ). AreFieldsTold (suc n) line at before x.0 x.1) same (last_field n line at before g.0 g.1 f comma)

pub fields_told : (n : ℕ) (before : List (LinePart × ℤ)) (line : Text) (at : ℕ) (r : List (LinePart × ℤ) × ℕ) → at ≤ length line → fields_at n before line at ≡ Ok r → AreFieldsTold n line at before r.0 r.1
unfolding fields_at
fields_told zero before line at r le e = absurd cc
fields_told (suc n) before line at r le e =
    let b = bind_ok (next_field line at) (λ f. cond (eqb (slice_index line f.1) 44) (fields_at n (with_field before f.0) line (f.1 + 1)) (Ok (with_field before f.0, f.1))) r e in
    fields_by n before line at r b.0 (eqb (slice_index line b.0.1) 44) refl (field_told line at b.0 le b.1) (λ before' at'. fields_told n before' line at' r) b.2
