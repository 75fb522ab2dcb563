-- Tags that are read, which are spelled so.
use Rattle.std.proofs.Common.{◌≡◌, ℕ, zero, suc, ◌+◌, ◌-◌, ◌<◌, ◌≤◌, Bool, true, false, not, ◌||◌, eqb, leb, List, [], ◌∷◌, ◌++◌, length, map, drop, slice_range, slice_index, bytes_eq, codes, Ok, refl, sym, ap, subst, ◌∙◌, arith, append_assoc, append-nil, length-drop, length-append, inl, inr, ◌⊎◌, ⊎_elim}
use Rattle.std.proofs.lemmas.Bool.{or_parts, both_ways, not-false, eqb-true}
use Rattle.std.proofs.lemmas.Bool.Decides.{nat_tests}
use Rattle.std.proofs.lemmas.List.{map_push}
use Rattle.std.proofs.lemmas.Slice.Eq.{bytes_eq-Decides}
use Rattle.ts_core.specs.facts.Facts.{Text}
use Rattle.ts_core.specs.lists.Members.{Among, AllDistinct}
use Rattle.ts_line.specs.declared.fault.LineFaultKind.TheVariants.{BadTag, RepeatedTagKey, OverLimit, ReservedKey}
use Rattle.ts_line.specs.FaultText.{fault_at}
use Rattle.ts_line.specs.declared.scan.Stops.TheVariants.{Equals}
use Rattle.ts_line.specs.Parts.{LinePart}
use Rattle.ts_line.specs.Scan.{is_stop, end_of}
use Rattle.ts_line.specs.PartTexts.{piece_at}
use Rattle.ts_line.specs.TagParts.{pair_at, has_key, next_tag, tags_at}
use Rattle.ts_core.specs.text.Steps.{◌>>=◌}
use Rattle.ts_line.specs.Spelling.{IsWrittenPart, written_piece, tags_text, tags_from, tag_key, AreTags}
use Rattle.ts_line.proofs.TagsSpelled.{piece_key, flat, map_snoc}
use Rattle.ts_line.proofs.PartFacts.{bind_ok, not_err, cut, first_of, slice_len, within, end_within, part_closes}

abbrev Tags : Type 0
Tags = List (LinePart × LinePart)

-- a part ended there, or the line did
abbrev pub EndsKey : Text → ℕ → Type 0
EndsKey line n = n < length line → (slice_index line n ≡ 44) ⊎ (slice_index line n ≡ 32)

-- ---- a pair

pub record IsPair (line : Text) (n : ℕ) (t : LinePart × LinePart) (end : ℕ) : Type 0 where
  pub key : Text
  pub value : Text
  pub spelled : drop n line ≡ key ++ (61 ∷ (value ++ drop end line))
  pub key_is : IsWrittenPart Equals key
  pub some_value : 1 ≤ length value
  pub value_is : end < length line → IsWrittenPart Equals value
  pub told : t ≡ (written_piece Equals n key, written_piece Equals (n + length key + 1) value)
  pub end_is : end ≡ n + length key + 1 + length value
  pub inside : end ≤ length line
  pub ends : EndsKey line end

ends_cases : (b : ℕ) (s : Bool) → eqb b 32 ≡ s → is_stop Equals b ≡ true → eqb b 61 ≡ false → (b ≡ 44) ⊎ (b ≡ 32)
ends_cases b true s e other = inr (eqb-true b 32 s)
ends_cases b false s e other = inl (grind (arith, nat_tests))

ends_with : (b : ℕ) → is_stop Equals b ≡ true → eqb b 61 ≡ false → (b ≡ 44) ⊎ (b ≡ 32)
ends_with b e other = ends_cases b (eqb b 32) refl e other

pub pair_told : (line : Text) (n : ℕ) (t : LinePart × LinePart) (end : ℕ) → n ≤ length line → pair_at line n ≡ Ok (t, end) → IsPair line n t end
unfolding pair_at
pair_told line n t end le e =
    let key_end = end_of Equals line n in
    let value_end = end_of Equals line (key_end + 1) in
    let key = slice_range line n key_end in
    let value = slice_range line (key_end + 1) value_end in
    let all = not_err (eqb key_end n || not (eqb (slice_index line key_end) 61) || eqb value_end (key_end + 1) || eqb (slice_index line value_end) 61) (fault_at BadTag n) _ (t, end) e in
    let a = or_parts (eqb key_end n || not (eqb (slice_index line key_end) 61) || eqb value_end (key_end + 1)) (eqb (slice_index line value_end) 61) all.0 in
    let b = or_parts (eqb key_end n || not (eqb (slice_index line key_end) 61)) (eqb value_end (key_end + 1)) a.0 in
    let c = or_parts (eqb key_end n) (not (eqb (slice_index line key_end) 61)) b.0 in
    let equals : slice_index line key_end ≡ 61 = eqb-true (slice_index line key_end) 61 (not-false (eqb (slice_index line key_end) 61) c.1) in
    let key_in = end_within Equals line n le in
    let key_lt : key_end < length line = within line key_end 61 equals (omega arith) in
    let value_in = end_within Equals line (key_end + 1) (omega arith) in
    let key_ne : n < key_end = let ne = c.0 in grind (arith, nat_tests) in
    let value_ne : key_end + 1 < value_end = let ne = b.1 in grind (arith, nat_tests) in
    let key_len : length key ≡ key_end - n = slice_len line n key_end key_in.0 key_in.1 in
    let value_len : length value ≡ value_end - (key_end + 1) = slice_len line (key_end + 1) value_end value_in.0 value_in.1 in
    let back : n + length key ≡ key_end = omega (arith, key_len) in
    let whole : ((piece_at Equals line n key_end, piece_at Equals line (key_end + 1) value_end), value_end) ≡ (t, end) = let same = all.1 in cc in
    let end_is : value_end ≡ end = ap (λ (p : (LinePart × LinePart) × ℕ). p.1) whole in
    subst (λ (m : ℕ). IsPair line n t m) end_is (record {
      key = key;
      value = value;
      spelled = cut line n key_end key_in.0 ∙ ap (λ (x : Text). key ++ x) (first_of line key_end key_lt ∙ ap (λ b. b ∷ drop (key_end + 1) line) equals ∙ ap (λ (x : Text). 61 ∷ x) (cut line (key_end + 1) value_end value_in.0));
      key_is = record { some = omega (arith, key_len); closed = (part_closes Equals line n le key_lt).0 };
      some_value = omega (arith, value_len);
      value_is = λ lt. record { some = omega (arith, value_len); closed = (part_closes Equals line (key_end + 1) (omega arith) lt).0 };
      told = sym (ap (λ (p : (LinePart × LinePart) × ℕ). p.0) whole) ∙ ap (λ m. (written_piece Equals n key, written_piece Equals (m + 1) value)) (sym back);
      end_is = omega (arith, key_len, value_len);
      inside = value_in.1;
      ends = λ lt. ends_with (slice_index line value_end) (part_closes Equals line (key_end + 1) (omega arith) lt).1 a.1;
    })

-- ---- all tags

among_push : (k : Text) (keys : List Text) (key : Text) → (Among k keys → ⊥) → (k ≡ key → ⊥) → Among k (keys ++ key ∷ []) → ⊥
among_push k [] key n other a = ⊎_elim (λ e. other e) (λ none. none) a
among_push k (x ∷ keys) key n other a = ⊎_elim (λ e. n (inl e)) (λ later. among_push k keys key (λ b. n (inr b)) other later) a

distinct_push : (keys : List Text) (key : Text) → AllDistinct keys → (Among key keys → ⊥) → AllDistinct (keys ++ key ∷ [])
distinct_push [] key d n = (λ a. a, tt)
distinct_push (k ∷ keys) key d n =
    (λ a. among_push k keys key d.0 (λ e. n (inl (sym e))) a, distinct_push keys key d.1 (λ a. n (inr a)))

pub record AreTold (line : Text) (at : ℕ) (before out : Tags) (end : ℕ) : Type 0 where
  pub tags : List (Text × Text)
  pub spelled : drop at line ≡ tags_text tags ++ drop end line
  pub are : AreTags tags
  pub told : out ≡ before ++ tags_from at tags
  pub end_is : end ≡ at + length (tags_text tags)
  pub keys_once : AllDistinct (map piece_key before ++ map tag_key tags)
  pub few : length before + length tags ≤ 64
  pub behind : slice_index line end ≡ 32

pub key_missing : (tags : Tags) (key : Text) → has_key tags key ≡ false → Among key (map piece_key tags) → ⊥
key_missing [] key e a = a
key_missing (t ∷ ts) key e a =
    let p = or_parts (bytes_eq t.0.text key) (has_key ts key) e in
    ⊎_elim (λ is. both_ways (bytes_eq t.0.text key) p.0 ((bytes_eq-Decides t.0.text key).1 (sym is))) (λ later. key_missing ts key p.1 later) a

-- facts about a tag that was taken
pub record IsTag (before : Tags) (line : Text) (n : ℕ) (tag : LinePart × LinePart) (next : ℕ) : Type 0 where
  pub pair : IsPair line n tag next
  pub spare : length before < 64
  pub other : bytes_eq (piece_key tag) (codes "time") ≡ false
  pub new : has_key before (piece_key tag) ≡ false

pub tag_is : (before : Tags) (line : Text) (n : ℕ) (t : (LinePart × LinePart) × ℕ) → n ≤ length line → next_tag before line n ≡ Ok t → IsTag before line n t.0 t.1
unfolding next_tag
tag_is before line n t le e =
    let p = bind_ok (pair_at line n) _ t e in
    let spare = not_err (leb 64 (length before)) (fault_at OverLimit n) _ t p.2 in
    let other = not_err (bytes_eq p.0.0.0.text (codes "time")) (fault_at ReservedKey n) _ t spare.1 in
    let new = not_err (has_key before p.0.0.0.text) (fault_at RepeatedTagKey n) _ t other.1 in
    let same : p.0 ≡ t = let all = new.1 in cc in
    let less : length before < 64 = let r = spare.0 in grind (arith, nat_tests) in
    subst (λ (x : (LinePart × LinePart) × ℕ). IsTag before line n x.0 x.1) same (record { pair = pair_told line n p.0.0 p.0.1 le p.1; spare = less; other = other.0; new = new.0 })

next_inside : (line : Text) (tags : List (Text × Text)) (next end : ℕ) → next ≤ length line → end < length line → drop next line ≡ tags_text tags ++ drop end line → next < length line
next_inside line tags next end le lt spelled = omega (arith, ap length spelled, length-append (tags_text tags) (drop end line), length-drop next line, length-drop end line)

join_text : (line key value : Text) (tags : List (Text × Text)) (at next end : ℕ) → at < length line → slice_index line at ≡ 44 → drop (at + 1) line ≡ key ++ (61 ∷ (value ++ drop next line)) → drop next line ≡ tags_text tags ++ drop end line
    → drop at line ≡ tags_text ((key, value) ∷ tags) ++ drop end line
join_text line key value tags at next end here byte first later =
    first_of line at here ∙ ap (λ b. b ∷ drop (at + 1) line) byte
    ∙ ap (λ (x : Text). 44 ∷ x) (first ∙ ap (λ (x : Text). key ++ (61 ∷ (value ++ x))) later ∙ sym (flat key value (tags_text tags) (drop end line)))

join_told : (before out : Tags) (tag : LinePart × LinePart) (key value : Text) (tags : List (Text × Text)) (at next : ℕ) → out ≡ (before ++ tag ∷ []) ++ tags_from next tags
    → next ≡ at + 1 + length key + 1 + length value → tag ≡ (written_piece Equals (at + 1) key, written_piece Equals (at + 1 + length key + 1) value) → out ≡ before ++ tags_from at ((key, value) ∷ tags)
join_told before out tag key value tags at next later at_is is =
    later ∙ ap (λ m. (before ++ tag ∷ []) ++ tags_from m tags) at_is
    ∙ ap (λ (t : LinePart × LinePart). (before ++ t ∷ []) ++ tags_from (at + 1 + length key + 1 + length value) tags) is
    ∙ append_assoc before ((written_piece Equals (at + 1) key, written_piece Equals (at + 1 + length key + 1) value) ∷ []) (tags_from (at + 1 + length key + 1 + length value) tags)

join_keys : (before : Tags) (tag : LinePart × LinePart) (key value : Text) (tags : List (Text × Text)) → piece_key tag ≡ tag_key (key, value) → AllDistinct (map piece_key (before ++ tag ∷ []) ++ map tag_key tags)
    → AllDistinct (map piece_key before ++ map tag_key ((key, value) ∷ tags))
join_keys before tag key value tags key_is d =
    subst (λ (ks : List Text). AllDistinct ks) (map_snoc before tag (map tag_key tags) ∙ ap (λ k. map piece_key before ++ k ∷ map tag_key tags) key_is) d

joined : (before : Tags) (line : Text) (at : ℕ) (out : Tags) (end : ℕ) (tag : LinePart × LinePart) (next : ℕ) → at < length line → slice_index line at ≡ 44 → end < length line
    → IsTag before line (at + 1) tag next → AreTold line next (before ++ tag ∷ []) out end → AreTold line at before out end
joined before line at out end tag next here byte lt is later =
    let pair = is.pair in
    let inside : next < length line = next_inside line later.tags next end pair.inside lt later.spelled in
    let key_is : piece_key tag ≡ tag_key (pair.key, pair.value) = ap (λ (t : LinePart × LinePart). t.0.text) pair.told in
    record {
      tags = (pair.key, pair.value) ∷ later.tags;
      spelled = join_text line pair.key pair.value later.tags at next end here byte pair.spelled later.spelled;
      are = ((pair.key_is, pair.value_is inside, λ t. both_ways (bytes_eq (piece_key tag) (codes "time")) is.other ((bytes_eq-Decides (piece_key tag) (codes "time")).1 (key_is ∙ t))), later.are);
      told = join_told before out tag pair.key pair.value later.tags at next later.told pair.end_is pair.told;
      end_is = omega (arith, later.end_is, pair.end_is, length-append pair.key (61 ∷ (pair.value ++ tags_text later.tags)), length-append pair.value (tags_text later.tags));
      keys_once = join_keys before tag pair.key pair.value later.tags key_is later.keys_once;
      few = omega (arith, later.few, length-append before (tag ∷ []));
      behind = later.behind;
    }

taken : (n : ℕ) (before : Tags) (line : Text) (at : ℕ) (out : Tags) (end : ℕ) (tag : LinePart × LinePart) (next : ℕ) → at < length line → slice_index line at ≡ 44 → end < length line → AllDistinct (map piece_key before)
    → suc n + length before ≡ 65 → IsTag before line (at + 1) tag next
    → ((before' : Tags) (at' : ℕ) → at' ≤ length line → end < length line → EndsKey line at' → AllDistinct (map piece_key before') → length before' ≤ 64 → n + length before' ≡ 65 → tags_at n before' line at' ≡ Ok (out, end) → AreTold line at' before' out end)
    → tags_at n (before ++ tag ∷ []) line next ≡ Ok (out, end) → AreTold line at before out end
taken n before line at out end tag next here byte lt d fuel is ih go =
    let count : length (before ++ tag ∷ []) ≡ length before + 1 = omega (arith, length-append before (tag ∷ [])) in
    let distinct : AllDistinct (map piece_key (before ++ tag ∷ [])) = subst (λ (ks : List Text). AllDistinct ks) (sym (map_push piece_key before tag)) (distinct_push (map piece_key before) (piece_key tag) d (key_missing before (piece_key tag) is.new)) in
    joined before line at out end tag next here byte lt is (ih (before ++ tag ∷ []) next is.pair.inside lt is.pair.ends distinct (omega (arith, is.spare, count)) (omega (arith, fuel, count)) go)

told_by : (n : ℕ) (before : Tags) (line : Text) (at : ℕ) (out : Tags) (end : ℕ) (comma : Bool) → eqb (slice_index line at) 44 ≡ comma → at ≤ length line → end < length line → EndsKey line at → AllDistinct (map piece_key before)
    → length before ≤ 64 → suc n + length before ≡ 65
    → ((before' : Tags) (at' : ℕ) → at' ≤ length line → end < length line → EndsKey line at' → AllDistinct (map piece_key before') → length before' ≤ 64 → n + length before' ≡ 65 → tags_at n before' line at' ≡ Ok (out, end) → AreTold line at' before' out end)
    → tags_at (suc n) before line at ≡ Ok (out, end) → AreTold line at before out end
unfolding tags_at
told_by n before line at out end false none le lt ends d few fuel ih e =
    let done : Ok (before, at) ≡ Ok (out, end) = rw none at e in
    let whole : (before, at) ≡ (out, end) = cc in
    let same : at ≡ end = ap (λ (p : Tags × ℕ). p.1) whole in
    let all : before ≡ out = ap (λ (p : Tags × ℕ). p.0) whole in
    let here : at < length line = omega (arith, lt, same) in
    let space : slice_index line end ≡ 32 = ⊎_elim (λ is. let c : eqb (slice_index line at) 44 ≡ true = grind (arith, nat_tests) in absurd (both_ways (eqb (slice_index line at) 44) none c)) (λ is. ap (slice_index line) (sym same) ∙ is) (ends here) in
    record {
      tags = [];
      spelled = ap (λ k. drop k line) same;
      are = tt;
      told = sym all ∙ sym (append-nil before);
      end_is = omega (arith, same);
      keys_once = subst (λ (ks : List Text). AllDistinct ks) (sym (append-nil (map piece_key before))) d;
      few = omega (arith, few);
      behind = space;
    }
told_by n before line at out end true comma le lt ends d few fuel ih e =
    let step : (next_tag before line (at + 1) >>= λ t. tags_at n (before ++ t.0 ∷ []) line t.1) ≡ Ok (out, end) = rw comma at e in
    let b = bind_ok (next_tag before line (at + 1)) (λ t. tags_at n (before ++ t.0 ∷ []) line t.1) (out, end) step in
    let byte : slice_index line at ≡ 44 = eqb-true (slice_index line at) 44 comma in
    let here : at < length line = within line at 44 byte (omega arith) in
    let is : IsTag before line (at + 1) b.0.0 b.0.1 = tag_is before line (at + 1) b.0 (omega arith) b.1 in
    taken n before line at out end b.0.0 b.0.1 here byte lt d fuel is ih b.2

pub tags_told : (n : ℕ) (before : Tags) (line : Text) (at : ℕ) (out : Tags) (end : ℕ) → at ≤ length line → end < length line → EndsKey line at → AllDistinct (map piece_key before) → length before ≤ 64 → n + length before ≡ 65
    → tags_at n before line at ≡ Ok (out, end) → AreTold line at before out end
tags_told zero before line at out end le lt ends d few fuel e = absurd (omega arith)
tags_told (suc n) before line at out end le lt ends d few fuel e = told_by n before line at out end (eqb (slice_index line at) 44) refl le lt ends d few fuel (λ before' at'. tags_told n before' line at' out end) e
