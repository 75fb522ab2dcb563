-- The text that a part spells, byte by byte.
use Rattle.std.proofs.Common.{◌≡◌, ℕ, ◌+◌, ◌-◌, ◌<◌, ◌≤◌, Bool, true, false, cond, ◌&&◌, [], ◌∷◌, ◌++◌, length, get_or, drop, slice_range, bytes_eq, eqb, refl, sym, ap, ◌∙◌, arith, append_assoc, append-nil, length-drop, ⊎_elim}
use Rattle.std.specs.List.{list_any}
use Rattle.std.proofs.Math.Bool.{and-false}
use Rattle.std.proofs.lemmas.Bool.{or_parts, and_parts, cases_lt}
use Rattle.std.proofs.lemmas.List.{at_drop_more, at_drop_all}
use Rattle.std.proofs.lemmas.Bool.Decides.{nat_tests}
use Rattle.ts_core.specs.facts.Facts.{Text}
use Rattle.ts_line.specs.declared.scan.Stops.{Stops}
use Rattle.ts_line.specs.Scan.{is_backslash, is_stop}
use Rattle.ts_line.specs.PartTexts.{begins_escapable, unescaped, piece_at, plain_piece}
use Rattle.ts_core.proofs.lists.ListSteps.{slice_step}

abbrev pub is_escape_at : Stops → Text → ℕ → Bool
is_escape_at stops raw i = is_backslash (get_or raw i 0) && begins_escapable stops (drop (i + 1) raw)

unescaped_step : (stops : Stops) (raw : Text) (i : ℕ) → i < length raw
    → unescaped stops (drop i raw) ≡ cond (is_escape_at stops raw i) (unescaped stops (drop (i + 1) raw)) (get_or raw i 0 ∷ unescaped stops (drop (i + 1) raw))
unescaped_step stops raw i lt = at_drop_more (unescaped stops) raw i 0 lt

-- a backslash that escapes is left out
pub escape_passed : (stops : Stops) (raw : Text) (i : ℕ) → i < length raw → is_escape_at stops raw i ≡ true → unescaped stops (drop i raw) ≡ unescaped stops (drop (i + 1) raw)
escape_passed stops raw i lt e = unescaped_step stops raw i lt ∙ rw e refl

-- another byte stays
pub byte_passed : (stops : Stops) (raw : Text) (from i : ℕ) → from ≤ i → i < length raw → is_escape_at stops raw i ≡ false
    → slice_range raw from i ++ unescaped stops (drop i raw) ≡ slice_range raw from (i + 1) ++ unescaped stops (drop (i + 1) raw)
byte_passed stops raw from i le lt e =
    let here : unescaped stops (drop i raw) ≡ get_or raw i 0 ∷ unescaped stops (drop (i + 1) raw) = unescaped_step stops raw i lt ∙ rw e refl in
    ap (λ bs. slice_range raw from i ++ bs) here
    ∙ sym (append_assoc (slice_range raw from i) (get_or raw i 0 ∷ []) (unescaped stops (drop (i + 1) raw)))
    ∙ ap (λ bs. bs ++ unescaped stops (drop (i + 1) raw)) (sym (slice_step raw from i le lt))

no_escape : (stops : Stops) (bs : Text) → list_any (is_stop stops) bs ≡ false → begins_escapable stops bs ≡ false
no_escape stops [] e = refl
no_escape stops (c ∷ bs) e = (or_parts (is_stop stops c) (list_any (is_stop stops) bs) e).0

-- a text without a byte that may be escaped spells itself
pub plain_text : (stops : Stops) (raw : Text) → list_any (is_stop stops) raw ≡ false → unescaped stops raw ≡ raw
plain_text stops [] e = refl
plain_text stops (b ∷ bs) e =
    let p = or_parts (is_stop stops b) (list_any (is_stop stops) bs) e in
    rw (no_escape stops bs p.1, and-false (is_backslash b)) (ap (λ (xs : Text). b ∷ xs) (plain_text stops bs p.1))

pub plain_is : (stops : Stops) (line : Text) (start end : ℕ) → list_any (is_stop stops) (slice_range line start end) ≡ false → piece_at stops line start end ≡ plain_piece line start end
plain_is stops line start end e = ap (λ (t : Text). record { start = start; raw = slice_range line start end; text = t }) (plain_text stops (slice_range line start end) e)

-- ---- the text so far, the bytes that are passed and not yet in it, and the rest

pub text_kept : (stops : Stops) (raw : Text) (from i : ℕ) (before total : Text) → from ≤ i → i < length raw → is_escape_at stops raw i ≡ false
    → before ++ slice_range raw from i ++ unescaped stops (drop i raw) ≡ total → before ++ slice_range raw from (i + 1) ++ unescaped stops (drop (i + 1) raw) ≡ total
text_kept stops raw from i before total le lt e so_far =
    append_assoc before (slice_range raw from (i + 1)) (unescaped stops (drop (i + 1) raw))
    ∙ ap (λ bs. before ++ bs) (sym (byte_passed stops raw from i le lt e))
    ∙ sym (append_assoc before (slice_range raw from i) (unescaped stops (drop i raw))) ∙ so_far

pub text_cut : (stops : Stops) (raw : Text) (from i : ℕ) (before total : Text) → i < length raw → is_escape_at stops raw i ≡ true
    → before ++ slice_range raw from i ++ unescaped stops (drop i raw) ≡ total → (before ++ slice_range raw from i) ++ slice_range raw (i + 1) (i + 1) ++ unescaped stops (drop (i + 1) raw) ≡ total
text_cut stops raw from i before total lt e so_far =
    let zero : (i + 1) - (i + 1) ≡ 0 = omega arith in
    let none : slice_range raw (i + 1) (i + 1) ≡ [] = rw zero refl in
    rw (none, append-nil (before ++ slice_range raw from i), ← escape_passed stops raw i lt e) so_far

-- ---- a part that isn't empty has a text that isn't

some_after : (stops : Stops) (bs : Text) → begins_escapable stops bs ≡ true → 1 ≤ length bs
some_after stops [] e = absurd cc
some_after stops (c ∷ bs) e = omega arith

unescaped_by : (stops : Stops) (b : ℕ) (bs : Text) (e : Bool) → (is_backslash b && begins_escapable stops bs) ≡ e → (1 ≤ length bs → 1 ≤ length (unescaped stops bs)) → 1 ≤ length (unescaped stops (b ∷ bs))
unescaped_by stops b bs true e ih = rw e (ih (some_after stops bs (and_parts (is_backslash b) (begins_escapable stops bs) e).1))
unescaped_by stops b bs false e ih = rw e (omega arith)

pub text_some : (stops : Stops) (raw : Text) → 1 ≤ length raw → 1 ≤ length (unescaped stops raw)
text_some stops [] some = absurd (omega arith)
text_some stops (b ∷ bs) some = unescaped_by stops b bs (is_backslash b && begins_escapable stops bs) refl (text_some stops bs)

-- ---- two texts, byte by byte

-- the texts of what is left of two parts
abbrev pub same_from : Stops → Text → ℕ → Text → ℕ → Bool
same_from stops xs i ys j = bytes_eq (unescaped stops (drop i xs)) (unescaped stops (drop j ys))

none_and_some : (xs ys : Text) → xs ≡ [] → 1 ≤ length ys → (bytes_eq xs ys ≡ false) × (bytes_eq ys xs ≡ false)
none_and_some xs [] e some = absurd (omega arith)
none_and_some xs (y ∷ ys) e some = rw e (refl, refl)

nothing_from : (stops : Stops) (xs : Text) (i : ℕ) → length xs ≤ i → unescaped stops (drop i xs) ≡ []
nothing_from stops xs i le = at_drop_all (unescaped stops) xs i le

some_from : (stops : Stops) (xs : Text) (i : ℕ) → i < length xs → 1 ≤ length (unescaped stops (drop i xs))
some_from stops xs i lt = text_some stops (drop i xs) (omega (arith, lt, length-drop i xs))

-- both ended, so they are the same
pub both_ended : (stops : Stops) (xs ys : Text) (i j : ℕ) → length xs ≤ i → length ys ≤ j → same_from stops xs i ys j ≡ true
both_ended stops xs ys i j le le' = rw (nothing_from stops xs i le, nothing_from stops ys j le') refl

pub left_ended : (stops : Stops) (xs ys : Text) (i j : ℕ) → length xs ≤ i → j < length ys → same_from stops xs i ys j ≡ false
left_ended stops xs ys i j le lt = (none_and_some (unescaped stops (drop i xs)) (unescaped stops (drop j ys)) (nothing_from stops xs i le) (some_from stops ys j lt)).0

pub right_ended : (stops : Stops) (xs ys : Text) (i j : ℕ) → i < length xs → length ys ≤ j → same_from stops xs i ys j ≡ false
right_ended stops xs ys i j lt le = (none_and_some (unescaped stops (drop j ys)) (unescaped stops (drop i xs)) (nothing_from stops ys j le) (some_from stops xs i lt)).1

-- what is left of both, where the first ended
pub left_rest : (stops : Stops) (xs ys : Text) (i j : ℕ) → length xs ≤ i → j ≤ length ys → eqb j (length ys) ≡ same_from stops xs i ys j
left_rest stops xs ys i j le within = ⊎_elim
    (λ (lt : j < length ys). let no : eqb j (length ys) ≡ false = grind (arith, nat_tests) in no ∙ sym (left_ended stops xs ys i j le lt))
    (λ (past : length ys ≤ j). let yes : eqb j (length ys) ≡ true = grind (arith, nat_tests) in yes ∙ sym (both_ended stops xs ys i j le past))
    (cases_lt j (length ys))

pub right_rest : (stops : Stops) (xs ys : Text) (i j : ℕ) → i < length xs → length ys ≤ j → eqb i (length xs) ≡ same_from stops xs i ys j
right_rest stops xs ys i j lt le = let no : eqb i (length xs) ≡ false = grind (arith, nat_tests) in no ∙ sym (right_ended stops xs ys i j lt le)
