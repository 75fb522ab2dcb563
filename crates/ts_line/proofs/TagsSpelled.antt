-- Spelled tags, which are read.
use Rattle.std.proofs.Common.{◌≡◌, ℕ, zero, suc, ◌+◌, ◌≤◌, Bool, true, false, eqb, leb, List, [], ◌∷◌, ◌++◌, length, map, slice_index, bytes_eq, codes, Ok, refl, sym, ap, subst, ◌∙◌, arith, append_assoc, append-nil, inl, inr, ⊎_elim, length-append}
use Rattle.std.proofs.lemmas.Bool.{false_from_ne_true}
use Rattle.std.proofs.lemmas.Bool.Decides.{nat_tests}
use Rattle.std.proofs.lemmas.Slice.Eq.{bytes_eq-Decides}
use Rattle.ts_core.specs.facts.Facts.{Text}
use Rattle.ts_core.specs.lists.Members.{Among, AllDistinct}
use Rattle.ts_line.specs.declared.scan.Stops.TheVariants.{Equals}
use Rattle.ts_line.specs.Parts.{LinePart}
use Rattle.ts_line.specs.Scan.{end_of}
use Rattle.ts_line.specs.PartTexts.{unescaped, piece_at}
use Rattle.ts_line.specs.TagParts.{pair_at, has_key, next_tag, tags_at}
use Rattle.ts_line.specs.Spelling.{IsWrittenPart, written_piece, tags_text, tags_from, tag_key, AreTags}
use Rattle.ts_line.proofs.Suffixes.{At, at_next, at_byte, at_after, at_slice, is_end, at_end}

abbrev Tags : Type 0
Tags = List (LinePart × LinePart)

-- a part that is read where it is
pub at_piece : (line raw rest : Text) (n end : ℕ) → At line n (raw ++ rest) → end ≡ n + length raw → piece_at Equals line n end ≡ written_piece Equals n raw
at_piece line raw rest n end at e = ap (λ (t : Text). record { start = n; raw = t; text = unescaped Equals t }) (at_slice line raw rest n end at e)

pub not_eqb : (a b : ℕ) → (a ≡ b → ⊥) → eqb a b ≡ false
not_eqb a b ne = grind (arith, nat_tests)

-- ---- a pair

pub pair_read : (line k v rest : Text) (n : ℕ) → At line n (k ++ (61 ∷ (v ++ rest))) → IsWrittenPart Equals k → IsWrittenPart Equals v → is_end Equals rest ≡ true → (slice_index line (n + length k + 1 + length v) ≡ 61 → ⊥)
    → pair_at line n ≡ Ok ((written_piece Equals n k, written_piece Equals (n + length k + 1) v), n + length k + 1 + length v)
unfolding pair_at
pair_read line k v rest n at kw vw e other =
    let key_end : end_of Equals line n ≡ n + length k = at_end Equals line k (61 ∷ (v ++ rest)) n at kw.closed refl in
    let at_equals : At line (n + length k) (61 ∷ (v ++ rest)) = at_next line k (61 ∷ (v ++ rest)) n at in
    let equals : slice_index line (n + length k) ≡ 61 = at_byte line 61 (v ++ rest) (n + length k) at_equals in
    let at_value : At line (n + length k + 1) (v ++ rest) = at_after line 61 (v ++ rest) (n + length k) at_equals in
    let value_end : end_of Equals line (n + length k + 1) ≡ n + length k + 1 + length v = at_end Equals line v rest (n + length k + 1) at_value vw.closed e in
    let some_key : eqb (n + length k) n ≡ false = not_eqb (n + length k) n (λ x. omega (arith, x, kw.some)) in
    let some_value : eqb (n + length k + 1 + length v) (n + length k + 1) ≡ false = not_eqb (n + length k + 1 + length v) (n + length k + 1) (λ x. omega (arith, x, vw.some)) in
    let one : eqb (slice_index line (n + length k + 1 + length v)) 61 ≡ false = not_eqb (slice_index line (n + length k + 1 + length v)) 61 other in
    let key = at_piece line k (61 ∷ (v ++ rest)) n (n + length k) at refl in
    let value = at_piece line v rest (n + length k + 1) (n + length k + 1 + length v) at_value refl in
    rw (key_end, value_end, equals, some_key, some_value, one) (ap (λ (p : LinePart × LinePart). Ok (p, n + length k + 1 + length v)) (λ i. (key i, value i)))

-- ---- keys that differ

among_mid : (x y : Text) (xs ys : List Text) → x ≡ y → Among x (xs ++ y ∷ ys)
among_mid x y [] ys e = inl e
among_mid x y (z ∷ xs) ys e = inr (among_mid x y xs ys e)

pub distinct_mid : (y : Text) (xs ys : List Text) → AllDistinct (xs ++ y ∷ ys) → Among y xs → ⊥
distinct_mid y [] ys d a = a
distinct_mid y (x ∷ xs) ys d a = ⊎_elim (λ e. d.0 (among_mid x y xs ys (sym e))) (λ later. distinct_mid y xs ys d.1 later) a

abbrev pub piece_key : LinePart × LinePart → Text
piece_key t = t.0.text

key_by : (b : Bool) (t : LinePart × LinePart) (ts : Tags) (key : Text) → bytes_eq t.0.text key ≡ b → (Among key (map piece_key (t ∷ ts)) → ⊥) → (has_key ts key ≡ false) → has_key (t ∷ ts) key ≡ false
key_by true t ts key e absent ih = absurd (absent (inl (sym ((bytes_eq-Decides t.0.text key).0 e))))
key_by false t ts key e absent ih = rw e ih

pub no_key : (tags : Tags) (key : Text) → (Among key (map piece_key tags) → ⊥) → has_key tags key ≡ false
no_key [] key absent = refl
no_key (t ∷ ts) key absent = key_by (bytes_eq t.0.text key) t ts key refl absent (no_key ts key (λ a. absent (inr a)))

-- ---- all tags

pub map_snoc : (before : Tags) (t : LinePart × LinePart) (keys : List Text) → map piece_key (before ++ t ∷ []) ++ keys ≡ map piece_key before ++ piece_key t ∷ keys
map_snoc [] t keys = refl
map_snoc (b ∷ before) t keys = ap (λ (ks : List Text). piece_key b ∷ ks) (map_snoc before t keys)

pub flat : (k v more rest : Text) → (k ++ (61 ∷ (v ++ more))) ++ rest ≡ k ++ (61 ∷ (v ++ (more ++ rest)))
flat k v more rest = simp append_assoc

-- a space follows the tags
tags_end : (ts : List (Text × Text)) (rest : Text) → is_end Equals (tags_text ts ++ (32 ∷ rest)) ≡ true
tags_end [] rest = refl
tags_end (t ∷ ts) rest = refl

tags_next : (ts : List (Text × Text)) (line rest : Text) (n : ℕ) → At line n (tags_text ts ++ (32 ∷ rest)) → slice_index line n ≡ 61 → ⊥
tags_next [] line rest n at e = let is : slice_index line n ≡ 32 = at_byte line 32 rest n at in absurd (omega (arith, is, e))
tags_next (t ∷ ts) line rest n at e = let is : slice_index line n ≡ 44 = at_byte line 44 _ n at in absurd (omega (arith, is, e))

pub tags_read : (ts : List (Text × Text)) (line rest : Text) (at n : ℕ) (before : Tags) → At line at (tags_text ts ++ (32 ∷ rest)) → AreTags ts → AllDistinct (map piece_key before ++ map tag_key ts)
    → length before + length ts ≤ 64 → n + length before ≡ 65 → tags_at n before line at ≡ Ok (before ++ tags_from at ts, at + length (tags_text ts))
unfolding tags_at next_tag
tags_read [] line rest at zero before h w d few fuel = absurd (omega arith)
tags_read [] line rest at (suc n) before h w d few fuel =
    let none : eqb (slice_index line at) 44 ≡ false = not_eqb (slice_index line at) 44 (λ e. omega (arith, e, at_byte line 32 rest at h)) in
    let same : at + 0 ≡ at = omega arith in
    rw (none, append-nil before, same) refl
tags_read (t ∷ ts) line rest at zero before h w d few fuel = absurd (omega arith)
tags_read (t ∷ ts) line rest at (suc n) before h w d few fuel =
    let k = t.0 in
    let v = t.1 in
    let behind = tags_text ts ++ (32 ∷ rest) in
    let at_comma : At line at (44 ∷ (k ++ (61 ∷ (v ++ behind)))) = h ∙ ap (λ (x : Text). 44 ∷ x) (flat k v (tags_text ts) (32 ∷ rest)) in
    let comma : slice_index line at ≡ 44 = at_byte line 44 (k ++ (61 ∷ (v ++ behind))) at at_comma in
    let at_key : At line (at + 1) (k ++ (61 ∷ (v ++ behind))) = at_after line 44 (k ++ (61 ∷ (v ++ behind))) at at_comma in
    let at_equals : At line (at + 1 + length k) (61 ∷ (v ++ behind)) = at_next line k (61 ∷ (v ++ behind)) (at + 1) at_key in
    let at_value : At line (at + 1 + length k + 1) (v ++ behind) = at_after line 61 (v ++ behind) (at + 1 + length k) at_equals in
    let end = at + 1 + length k + 1 + length v in
    let at_behind : At line end behind = at_next line v behind (at + 1 + length k + 1) at_value in
    let tag : LinePart × LinePart = (written_piece Equals (at + 1) k, written_piece Equals (at + 1 + length k + 1) v) in
    let pair : pair_at line (at + 1) ≡ Ok (tag, end) = pair_read line k v behind (at + 1) at_key w.0.0 w.0.1 (tags_end ts rest) (tags_next ts line rest end at_behind) in
    let spare : leb 64 (length before) ≡ false = grind (arith, nat_tests) in
    let other : bytes_eq (tag_key t) (codes "time") ≡ false = false_from_ne_true (bytes_eq (tag_key t) (codes "time")) (λ e. w.0.2 ((bytes_eq-Decides (tag_key t) (codes "time")).0 e)) in
    let new : has_key before (tag_key t) ≡ false = no_key before (tag_key t) (distinct_mid (tag_key t) (map piece_key before) (map tag_key ts) d) in
    let distinct : AllDistinct (map piece_key (before ++ tag ∷ []) ++ map tag_key ts) = subst (λ (ks : List Text). AllDistinct ks) (sym (map_snoc before tag (map tag_key ts))) d in
    let count : length (before ++ tag ∷ []) ≡ length before + 1 = omega (arith, length-append before (tag ∷ [])) in
    let later = tags_read ts line rest end n (before ++ tag ∷ []) at_behind w.1 distinct (omega arith) (omega arith) in
    let total : end + length (tags_text ts) ≡ at + length (tags_text (t ∷ ts)) = omega (arith, length-append k (61 ∷ (v ++ tags_text ts)), length-append v (tags_text ts)) in
    rw (comma, pair, spare, other, new) (later ∙ ap (λ (r : Tags). Ok (r, end + length (tags_text ts))) (append_assoc before (tag ∷ []) (tags_from end ts)) ∙ ap (λ m. Ok (before ++ tag ∷ tags_from end ts, m)) total)
