-- The parts that are read, which spell the line.
use Rattle.std.proofs.Common.{◌≡◌, ℕ, ℤ, zero, suc, ◌+◌, ◌-◌, ◌<◌, ◌≤◌, Bool, true, false, cond, ◌||◌, eqb, ltb, List, [], ◌∷◌, ◌++◌, length, drop, slice_range, slice_index, codes, Option, Some, None, Result, Ok, Err, refl, sym, ap, subst, ◌∙◌, arith, append_assoc, length-append, inl, inr, ◌⊎◌}
use Rattle.std.proofs.lemmas.List.Folds.{list_all-append}
use Rattle.std.proofs.lemmas.Bool.{or_parts, and_from, both_ways, ltb-false, eqb-true}
use Rattle.std.proofs.lemmas.Bool.Decides.{nat_tests}
use Rattle.ts_core.specs.facts.Facts.{Text}
use Rattle.ts_line.specs.declared.fault.LineFault.{LineFault}
use Rattle.ts_line.specs.declared.fault.LineFaultKind.TheVariants.{NoMeasurement, NoField, OverLimit}
use Rattle.ts_line.specs.FaultText.{fault_at}
use Rattle.ts_line.specs.declared.scan.Stops.TheVariants.{Space, Comma}
use Rattle.ts_line.specs.Parts.{LinePart, Parts}
use Rattle.ts_line.specs.Scan.{is_stop, end_of, spaces_end}
use Rattle.ts_line.specs.PartTexts.{piece_at}
use Rattle.ts_core.specs.text.Steps.{◌>>=◌}
use Rattle.ts_line.specs.TagParts.{tags_at, next_tag}
use Rattle.ts_line.specs.Fields.{fields_at}
use Rattle.ts_line.specs.Lines.{content, measurement_at, time_at, parts_at, line_of}
use Rattle.ts_line.specs.Spelling.{are_spaces, is_closed, written_piece, tags_text, tags_from, AreTags, field_spelling, more_fields_text, field_from, with_fields, IsSpelling}
use Rattle.ts_line.proofs.Suffixes.{at_end}
use Rattle.ts_line.proofs.SpellingRead.{closed_both, comma_space, tags_closed}
use Rattle.ts_line.proofs.PartFacts.{bind_ok, not_err, cut, first_of, slice_len, within, end_within, part_closes, spaces_within, spaces_are}
use Rattle.ts_line.proofs.TagFacts.{EndsKey, AreTold, tags_told, IsTag, tag_is}
use Rattle.ts_line.proofs.FieldFacts.{AreFieldsTold, fields_told}
use Rattle.ts_line.proofs.LineFacts.{IsGap, gap_told, IsTimeAt, time_told, IsContent, content_told}

-- ---- the measurement

pub record IsMeasurement (line : Text) (n : ℕ) (m : LinePart) (end : ℕ) : Type 0 where
  pub raw : Text
  pub spelled : drop n line ≡ raw ++ drop end line
  pub some : 1 ≤ length raw
  pub closed : end < length line → is_closed Comma 0 raw ≡ true
  pub told : m ≡ written_piece Comma n raw
  pub end_is : end ≡ n + length raw
  pub inside : end ≤ length line
  pub ends : EndsKey line end
  pub short : end_of Space line n ≤ n + 4096

comma_cases : (b : ℕ) (s : Bool) → eqb b 32 ≡ s → is_stop Comma b ≡ true → (b ≡ 44) ⊎ (b ≡ 32)
comma_cases b true s e = inr (eqb-true b 32 s)
comma_cases b false s e = inl (grind (arith, nat_tests))

measurement_told : (line : Text) (n : ℕ) (m : LinePart × ℕ) → n ≤ length line → measurement_at line n ≡ Ok m → IsMeasurement line n m.0 m.1
unfolding measurement_at
measurement_told line n m le e =
    let end = end_of Comma line n in
    let raw = slice_range line n end in
    let a = not_err (ltb (n + 4096) (end_of Space line n)) (fault_at OverLimit (n + 4096)) _ m e in
    let b = not_err (eqb end n) (fault_at NoMeasurement n) _ m a.1 in
    let inside = end_within Comma line n le in
    let some : n < end = let ne = b.0 in grind (arith, nat_tests) in
    let len : length raw ≡ end - n = slice_len line n end inside.0 inside.1 in
    let same : (piece_at Comma line n end, end) ≡ m = let all = b.1 in cc in
    subst (λ (x : LinePart × ℕ). IsMeasurement line n x.0 x.1) same (record {
      raw = raw;
      spelled = cut line n end inside.0;
      some = omega (arith, len, some);
      closed = λ lt. (part_closes Comma line n le lt).0;
      told = refl;
      end_is = omega (arith, len, some);
      inside = inside.1;
      ends = λ lt. comma_cases (slice_index line end) (eqb (slice_index line end) 32) refl (part_closes Comma line n le lt).1;
      short = ltb-false (n + 4096) (end_of Space line n) a.0;
    })

-- ---- tags end in the line

inside_by : (n : ℕ) (before : List (LinePart × LinePart)) (line : Text) (at : ℕ) (r : List (LinePart × LinePart) × ℕ) (comma : Bool) → eqb (slice_index line at) 44 ≡ comma → at ≤ length line
    → ((before' : List (LinePart × LinePart)) (at' : ℕ) → at' ≤ length line → tags_at n before' line at' ≡ Ok r → r.1 ≤ length line)
    → cond (eqb (slice_index line at) 44) (next_tag before line (at + 1) >>= λ t. tags_at n (before ++ t.0 ∷ []) line t.1) (Ok (before, at)) ≡ Ok r → r.1 ≤ length line
inside_by n before line at r true comma le ih e =
    let step : (next_tag before line (at + 1) >>= λ t. tags_at n (before ++ t.0 ∷ []) line t.1) ≡ Ok r = rw comma at e in
    let b = bind_ok (next_tag before line (at + 1)) (λ t. tags_at n (before ++ t.0 ∷ []) line t.1) r step in
    let here : at < length line = within line at 44 (eqb-true (slice_index line at) 44 comma) (omega arith) in
    let is : IsTag before line (at + 1) b.0.0 b.0.1 = tag_is before line (at + 1) b.0 (omega arith) b.1 in
    ih (before ++ b.0.0 ∷ []) b.0.1 is.pair.inside b.2
inside_by n before line at r false comma le ih e =
    let done : Ok (before, at) ≡ Ok r = rw comma at e in
    let same : (before, at) ≡ r = cc in
    subst (λ (x : List (LinePart × LinePart) × ℕ). x.1 ≤ length line) same le

tags_inside : (n : ℕ) (before : List (LinePart × LinePart)) (line : Text) (at : ℕ) (r : List (LinePart × LinePart) × ℕ) → at ≤ length line → tags_at n before line at ≡ Ok r → r.1 ≤ length line
unfolding tags_at
tags_inside zero before line at r le e = let same : (before, at) ≡ r = cc in subst (λ (x : List (LinePart × LinePart) × ℕ). x.1 ≤ length line) same le
tags_inside (suc n) before line at r le e = inside_by n before line at r (eqb (slice_index line at) 44) refl le (λ before' at'. tags_inside n before' line at' r) e

-- ---- the parts from an offset on

pub record ArePartsAt (unit now : ℤ) (line : Text) (n : ℕ) (parts : Parts) : Type 0 where
  pub m : LinePart × ℕ
  pub tags : List (LinePart × LinePart) × ℕ
  pub fields : List (LinePart × ℤ) × ℕ
  pub time : ℤ
  pub measurement_is : IsMeasurement line n m.0 m.1
  pub inside : tags.1 < length line
  pub tags_are : AreTold line m.1 [] tags.0 tags.1
  pub gap_is : IsGap line tags.1
  pub fields_are : AreFieldsTold 256 line (spaces_end line tags.1) [] fields.0 fields.1
  pub time_is : IsTimeAt unit now line fields.1 time
  pub told : parts ≡ record { measurement = m.0; tags = tags.0; fields = fields.0; time = time }

tags_gap : (unit now : ℤ) (line : Text) (n : ℕ) (parts : Parts) (m : LinePart × ℕ) (tags : List (LinePart × LinePart) × ℕ) (fields : List (LinePart × ℤ) × ℕ) (time : ℤ) → IsMeasurement line n m.0 m.1
    → tags_at 65 [] line m.1 ≡ Ok tags → eqb (spaces_end line tags.1) (length line) ≡ false → fields_at 256 [] line (spaces_end line tags.1) ≡ Ok fields → time_at unit now line fields.1 ≡ Ok time
    → parts ≡ record { measurement = m.0; tags = tags.0; fields = fields.0; time = time } → ArePartsAt unit now line n parts
tags_gap unit now line n parts m tags fields time measurement tags_read more fields_read time_read told =
    let inside : tags.1 ≤ length line = tags_inside 65 [] line m.1 tags measurement.inside tags_read in
    let spaces = spaces_within line tags.1 inside in
    let lt : tags.1 < length line = grind (arith, nat_tests) in
    let tags_are = tags_told 65 [] line m.1 tags.0 tags.1 measurement.inside lt measurement.ends tt (omega arith) (omega arith) tags_read in
    let fields_are = fields_told 256 [] line (spaces_end line tags.1) fields spaces.1 fields_read in
    record {
      m = m;
      tags = tags;
      fields = fields;
      time = time;
      measurement_is = measurement;
      inside = lt;
      tags_are = tags_are;
      gap_is = gap_told line tags.1 lt tags_are.behind;
      fields_are = fields_are;
      time_is = time_told unit now line fields.1 time fields_are.inside fields_are.behind time_read;
      told = told;
    }

pub parts_told : (unit now : ℤ) (line : Text) (n : ℕ) (parts : Parts) → n ≤ length line → parts_at unit now line n ≡ Ok parts → ArePartsAt unit now line n parts
unfolding parts_at
parts_told unit now line n parts le e =
    let m = bind_ok (measurement_at line n) _ parts e in
    let tags = bind_ok (tags_at 65 [] line m.0.1) _ parts m.2 in
    let fields = bind_ok (cond (eqb (spaces_end line tags.0.1) (length line)) (Err (fault_at NoField tags.0.1)) (fields_at 256 [] line (spaces_end line tags.0.1))) _ parts tags.2 in
    let more = not_err (eqb (spaces_end line tags.0.1) (length line)) (fault_at NoField tags.0.1) (fields_at 256 [] line (spaces_end line tags.0.1)) fields.0 fields.1 in
    let time = bind_ok (time_at unit now line fields.0.1) _ parts fields.2 in
    let told : record { measurement = m.0.0; tags = tags.0.0; fields = fields.0.0; time = time.0 } ≡ parts = let all = time.2 in cc in
    tags_gap unit now line n parts m.0 tags.0 fields.0 time.0 (measurement_told line n m.0 le m.1) tags.1 more.0 more.1 time.1 (sym told)

-- ---- the whole line

not_none : (b : Bool) (r : Result (Option Parts) LineFault) (p : Parts) → cond b (Ok None) r ≡ Ok (Some p) → (b ≡ false) × (r ≡ Ok (Some p))
not_none true r p e = absurd cc
not_none false r p e = (refl, e)

key_short : (line raw rest : Text) (tags : List (Text × Text)) (n : ℕ) → drop n line ≡ raw ++ (tags_text tags ++ (32 ∷ rest)) → is_closed Comma 0 raw ≡ true → AreTags tags → end_of Space line n ≤ n + 4096
    → length raw + length (tags_text tags) ≤ 4096
key_short line raw rest tags n h closed ts short =
    let end : end_of Space line n ≡ n + length (raw ++ tags_text tags) =
    at_end Space line (raw ++ tags_text tags) (32 ∷ rest) n (h ∙ sym (append_assoc raw (tags_text tags) (32 ∷ rest))) (closed_both 0 raw (tags_text tags) (comma_space 0 raw closed) (tags_closed tags ts)) refl in
    omega (arith, short, end, length-append raw (tags_text tags))

nested : (b m t g f x s trail after r : Text) → (b ++ (m ++ (t ++ (32 ∷ (g ++ (f ++ (x ++ (s ++ trail)))))))) ++ (after ++ r) ≡ b ++ (m ++ (t ++ (32 ∷ (g ++ (f ++ (x ++ (s ++ ((trail ++ after) ++ r))))))))
nested b m t g f x s trail after r = simp append_assoc

no_comment : (line raw rest : Text) (n : ℕ) → drop n line ≡ raw ++ rest → n < length line → eqb (slice_index line n) 35 ≡ false → (more : Text) → raw ≡ codes "#" ++ more → ⊥
no_comment line raw rest n h lt e more is =
    let first : slice_index line n ∷ drop (n + 1) line ≡ 35 ∷ (more ++ rest) = sym (first_of line n lt) ∙ h ∙ ap (λ (t : Text). t ++ rest) is in
    let byte : slice_index line n ≡ 35 = cc in
    let yes : eqb (slice_index line n) 35 ≡ true = grind (arith, nat_tests) in
    both_ways (eqb (slice_index line n) 35) e yes

told_parts : (parts : Parts) (m : LinePart) (tags : List (LinePart × LinePart)) (fields : List (LinePart × ℤ)) (time : ℤ) (start m_end tags_end gap_end : ℕ) (raw : Text) (ts : List (Text × Text)) (gap : ℕ) (first : Text × Text) (more : List (Text × Text))
    → parts ≡ record { measurement = m; tags = tags; fields = fields; time = time } → m ≡ written_piece Comma start raw → m_end ≡ start + length raw → tags ≡ tags_from m_end ts → tags_end ≡ m_end + length (tags_text ts)
    → gap_end ≡ tags_end + 1 + gap → fields ≡ with_fields (field_from gap_end first ∷ []) (gap_end + length (field_spelling first)) more
    → parts ≡ record {
      measurement = written_piece Comma start raw;
      tags = tags_from (start + length raw) ts;
      fields = with_fields (field_from (start + length raw + length (tags_text ts) + 1 + gap) first ∷ []) (start + length raw + length (tags_text ts) + 1 + gap + length (field_spelling first)) more;
      time = time;
    }
told_parts parts m tags fields time start m_end tags_end gap_end raw ts gap first more told m_is m_at tags_are tags_at' gap_at fields_are =
    let m_here : m_end ≡ start + length raw = m_at in
    let gap_here : gap_end ≡ start + length raw + length (tags_text ts) + 1 + gap = omega (arith, m_at, tags_at', gap_at) in
    let a : tags ≡ tags_from (start + length raw) ts = tags_are ∙ ap (λ k. tags_from k ts) m_here in
    let b : fields ≡ with_fields (field_from (start + length raw + length (tags_text ts) + 1 + gap) first ∷ []) (start + length raw + length (tags_text ts) + 1 + gap + length (field_spelling first)) more =
    fields_are ∙ ap (λ k. with_fields (field_from k first ∷ []) (k + length (field_spelling first)) more) gap_here in
    told ∙ (λ i. record { measurement = m_is i; tags = a i; fields = b i; time = time })

spelled_by : (unit now : ℤ) (source line : Text) (start : ℕ) (parts : Parts) → length source ≤ 65536 → IsContent source line → spaces_end line 0 ≡ start → start ≤ length line → eqb (slice_index line start) 35 ≡ false
    → ArePartsAt unit now line start parts → IsSpelling unit now source parts
spelled_by unit now source line start parts short content start_is le other p =
    let measurement = p.measurement_is in
    let tags = p.tags_are in
    let gap = p.gap_is in
    let fields = p.fields_are in
    let time = p.time_is in
    let before = slice_range line 0 start in
    let before_len : length before ≡ start = slice_len line 0 start (omega arith) le ∙ omega arith in
    let lt : p.m.1 < length line = omega (arith, p.inside, tags.end_is) in
    let behind : drop p.tags.1 line ≡ 32 ∷ (gap.gap ++ (field_spelling fields.first ++ (more_fields_text fields.more ++ (time.stamp ++ time.trail)))) =
    gap.spelled ∙ ap (λ (t : Text). 32 ∷ (gap.gap ++ t)) (fields.spelled ∙ ap (λ (t : Text). field_spelling fields.first ++ (more_fields_text fields.more ++ t)) time.spelled) in
    let from_start : drop start line ≡ measurement.raw ++ (tags_text tags.tags ++ (32 ∷ (gap.gap ++ (field_spelling fields.first ++ (more_fields_text fields.more ++ (time.stamp ++ time.trail)))))) =
    measurement.spelled ∙ ap (λ (t : Text). measurement.raw ++ t) (tags.spelled ∙ ap (λ (t : Text). tags_text tags.tags ++ t) behind) in
    let body : line ≡ before ++ (measurement.raw ++ (tags_text tags.tags ++ (32 ∷ (gap.gap ++ (field_spelling fields.first ++ (more_fields_text fields.more ++ (time.stamp ++ time.trail))))))) =
    cut line 0 start (omega arith) ∙ ap (λ (t : Text). before ++ t) from_start in
    let whole = content.spelled ∙ ap (λ (t : Text). t ++ (content.after ++ content.return)) body
    ∙ nested before measurement.raw (tags_text tags.tags) gap.gap (field_spelling fields.first) (more_fields_text fields.more) time.stamp time.trail content.after content.return in
    record {
      before = before;
      measurement = measurement.raw;
      tags = tags.tags;
      gap = gap.gap;
      first = fields.first;
      more = fields.more;
      stamp = time.stamp;
      time = p.time;
      after = time.trail ++ content.after;
      return = content.return;
      spelled = whole;
      before_is = ap (λ k. are_spaces (slice_range line 0 k)) (sym start_is) ∙ spaces_are line 0;
      gap_is = gap.gap_is;
      after_is = list_all-append (λ b. eqb b 32) time.trail content.after ∙ and_from (are_spaces time.trail) (are_spaces content.after) time.trail_is content.after_is;
      return_is = content.return_is;
      measurement_is = record { some = measurement.some; closed = measurement.closed lt };
      no_comment = no_comment line measurement.raw _ start from_start (omega (arith, lt, measurement.end_is)) other;
      tags_are = tags.are;
      keys_once = tags.keys_once;
      first_is = fields.first_is;
      more_are = fields.more_are;
      timed = time.timed;
      short = short;
      short_key = key_short line measurement.raw _ tags.tags start from_start (measurement.closed lt) tags.are measurement.short;
      few_tags = omega (arith, tags.few);
      few_fields = omega (arith, fields.few);
      told = told_parts parts p.m.0 p.tags.0 p.fields.0 p.time start p.m.1 p.tags.1 (spaces_end line p.tags.1) measurement.raw tags.tags (length gap.gap) fields.first fields.more p.told measurement.told measurement.end_is tags.told tags.end_is gap.end_is fields.told
          ∙ ap (λ n. record {
            measurement = written_piece Comma n measurement.raw;
            tags = tags_from (n + length measurement.raw) tags.tags;
            fields = with_fields (field_from (n + length measurement.raw + length (tags_text tags.tags) + 1 + length gap.gap) fields.first ∷ []) (n + length measurement.raw + length (tags_text tags.tags) + 1 + length gap.gap + length (field_spelling fields.first)) fields.more;
            time = p.time;
          }) (sym before_len);
    }

pub spelling_told : (unit now : ℤ) (source : Text) (parts : Parts) → line_of unit now source ≡ Ok (Some parts) → IsSpelling unit now source parts
unfolding line_of
spelling_told unit now source parts e =
    let line = content source in
    let start = spaces_end line 0 in
    let short = not_err (ltb 65536 (length source)) (fault_at OverLimit 65536) _ (Some parts) e in
    let some = not_none (eqb start (length line) || eqb (slice_index line start) 35) _ parts short.1 in
    let b = or_parts (eqb start (length line)) (eqb (slice_index line start) 35) some.0 in
    let p = bind_ok (parts_at unit now line start) _ (Some parts) some.1 in
    let same : p.0 ≡ parts = let all = p.2 in cc in
    let inside = spaces_within line 0 (omega arith) in
    spelled_by unit now source line start parts (ltb-false 65536 (length source) short.0) (content_told source) refl inside.1 b.1 (parts_told unit now line start parts inside.1 (p.1 ∙ ap (λ (q : Parts). Ok q) same))
