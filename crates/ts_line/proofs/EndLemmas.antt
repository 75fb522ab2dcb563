-- Steps of the loops that find the ends of tags and fields without their parts.
use Rattle.std.proofs.Common.{◌≡◌, ℕ, suc, zero, ◌+◌, ◌<◌, eqb, false, ◌||◌, ℤ, nat_le, slice_range, List, [], ◌∷◌, ◌++◌, length, slice_index, bytes_eq, codes, Ok, refl, sym, ap, ◌∙◌, arith}
use Rattle.std.proofs.lemmas.Bool.Decides.{nat_tests}
use Rattle.std.proofs.lemmas.Bool.{ne_eqb}
use Rattle.ts_core.specs.facts.Facts.{Text}
use Rattle.ts_line.specs.declared.fault.LineFaultKind.TheVariants.{OverLimit, ReservedKey, RepeatedTagKey}
use Rattle.ts_line.specs.FaultText.{fault_at}
use Rattle.ts_line.specs.declared.scan.Stops.TheVariants.{Equals}
use Rattle.ts_line.specs.Parts.{LinePart}
use Rattle.ts_line.specs.Scan.{end_of}
use Rattle.ts_line.specs.PartTexts.{unescaped, piece_at}
use Rattle.ts_line.specs.Values.{value_begun_at}
use Rattle.ts_line.specs.Fields.{next_field}
use Rattle.ts_line.specs.TagParts.{pair_at, has_key, next_tag}
use Rattle.ts_line.specs.Ends.{pairs_at}
use Rattle.ts_line.proofs.PartFacts.{bind_ok, not_err}

-- n tags from `first` end at `at`
abbrev pub AreBefore : ℕ → Text → ℕ → ℕ → Type 0
AreBefore zero line first at = first ≡ at
AreBefore (suc n) line first at = (slice_index line first ≡ 44) × ((t : (LinePart × LinePart) × ℕ) × (pair_at line (first + 1) ≡ Ok t) × AreBefore n line t.1 at)

one_more : (n : ℕ) (line : Text) (first : ℕ) (t : (LinePart × LinePart) × ℕ) → slice_index line first ≡ 44 → pair_at line (first + 1) ≡ Ok t → pairs_at (suc n) line first ≡ t.0 ∷ pairs_at n line t.1
one_more n line first t comma read = rw (comma, read) refl

pub length_before : (n : ℕ) (line : Text) (first at : ℕ) → AreBefore n line first at → length (pairs_at n line first) ≡ n
length_before zero line first at are = refl
length_before (suc n) line first at are = rw (one_more n line first are.1.0 are.0 are.1.1) (omega (arith, length_before n line are.1.0.1 at are.1.2))

grown : (n : ℕ) (line : Text) (first at : ℕ) (t : (LinePart × LinePart) × ℕ) → AreBefore n line first at → slice_index line at ≡ 44 → pair_at line (at + 1) ≡ Ok t
    → (pairs_at (suc n) line first ≡ pairs_at n line first ++ t.0 ∷ []) × AreBefore (suc n) line first t.1
grown zero line first at t are comma read =
    let here : slice_index line first ≡ 44 = ap (slice_index line) are ∙ comma in
    let there : pair_at line (first + 1) ≡ Ok t = ap (λ k. pair_at line (k + 1)) are ∙ read in
    (one_more zero line first t here there, (here, (t, there, refl)))
grown (suc n) line first at t are comma read =
    let ih = grown n line are.1.0.1 at t are.1.2 comma read in (
      one_more (suc n) line first are.1.0 are.0 are.1.1 ∙ ap (λ (ts : List (LinePart × LinePart)). are.1.0.0 ∷ ts) ih.0
          ∙ ap (λ (ts : List (LinePart × LinePart)). ts ++ t.0 ∷ []) (sym (one_more n line first are.1.0 are.0 are.1.1)),
      (are.0, (are.1.0, are.1.1, ih.1)),
    )

-- a tag that is taken is the pair there
taken_pair : (before : List (LinePart × LinePart)) (line : Text) (start : ℕ) (t : (LinePart × LinePart) × ℕ) → next_tag before line start ≡ Ok t → pair_at line start ≡ Ok t
unfolding next_tag
taken_pair before line start t e =
    let b = bind_ok (pair_at line start) _ t e in
    let x = not_err _ (fault_at OverLimit start) _ t b.2 in
    let y = not_err _ (fault_at ReservedKey start) _ t x.1 in
    let z = not_err _ (fault_at RepeatedTagKey start) _ t y.1 in
    b.1 ∙ z.1

pub pairs_grown : (n : ℕ) (line : Text) (first at : ℕ) (t : (LinePart × LinePart) × ℕ) → AreBefore n line first at → slice_index line at ≡ 44 → next_tag (pairs_at n line first) line (at + 1) ≡ Ok t
    → (pairs_at (n + 1) line first ≡ pairs_at n line first ++ t.0 ∷ []) × AreBefore (n + 1) line first t.1
pairs_grown n line first at t are comma read = let k : n + 1 ≡ suc n = omega arith in rw k (grown n line first at t are comma (taken_pair (pairs_at n line first) line (at + 1) t read))

-- ---- a key among the tags

pub key_step : (n : ℕ) (line : Text) (at : ℕ) (key : Text) (t : (LinePart × LinePart) × ℕ) → slice_index line at ≡ 44 → pair_at line (at + 1) ≡ Ok t
    → has_key (pairs_at (n + 1) line at) key ≡ (bytes_eq t.0.0.text key || has_key (pairs_at n line t.1) key)
key_step n line at key t comma read = let k : n + 1 ≡ suc n = omega arith in rw (k, comma, read) refl

-- ---- a tag and a field that have no fault

pub tag_kept : (before : List (LinePart × LinePart)) (line : Text) (start end : ℕ) (t : LinePart × LinePart) → pair_at line start ≡ Ok (t, end) → length before < 64
    → bytes_eq t.0.text (codes "time") ≡ false → has_key before t.0.text ≡ false → next_tag before line start ≡ Ok (t, end)
unfolding next_tag
tag_kept before line start end t read few other new =
    let spare : nat_le 64 (length before) ≡ false = grind (arith, nat_tests) in
    rw (read, spare, other, new) refl

pub field_kept : (line : Text) (start key_end end : ℕ) (n : ℤ) → key_end ≡ end_of Equals line start → (key_end ≡ start → ⊥) → slice_index line key_end ≡ 61
    → bytes_eq (unescaped Equals (slice_range line start key_end)) (codes "time") ≡ false → value_begun_at start line (key_end + 1) ≡ Ok (n, end)
    → next_field line start ≡ Ok ((piece_at Equals line start key_end, n), end)
unfolding next_field
field_kept line start key_end end n e ne equals other read =
    let some : eqb key_end start ≡ false = ne_eqb _ _ ne in
    rw (← e, some, equals, other, read) refl
