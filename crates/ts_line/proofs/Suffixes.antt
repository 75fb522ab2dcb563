-- The suffix of a line from an offset on.
use Rattle.std.proofs.Common.{◌≡◌, ℕ, ◌+◌, ◌-◌, Bool, true, not, eqb, [], ◌∷◌, ◌++◌, length, get_or, take, drop, slice_range, slice_index, refl, sym, ap, ◌∙◌, arith}
use Rattle.std.proofs.lemmas.Bool.{not-true, and_parts}
use Rattle.std.proofs.lemmas.List.{take_at, drop_at, drop-drop, get_or-drop}
use Rattle.ts_core.specs.facts.Facts.{Text}
use Rattle.ts_line.specs.declared.scan.Stops.{Stops}
use Rattle.ts_line.specs.Scan.{is_stop, ends, part_len, end_of, spaces, spaces_end}
use Rattle.ts_line.specs.Spelling.{are_spaces, is_closed}

-- the line has this text from there on
abbrev pub At : Text → ℕ → Text → Type 0
At line n text = drop n line ≡ text

pub at_next : (line xs ys : Text) (n : ℕ) → At line n (xs ++ ys) → At line (n + length xs) ys
at_next line xs ys n at = sym (drop-drop (length xs) n line) ∙ ap (λ l. drop (length xs) l) at ∙ drop_at xs ys (length xs) refl

pub at_byte : (line : Text) (b : ℕ) (ys : Text) (n : ℕ) → At line n (b ∷ ys) → slice_index line n ≡ b
at_byte line b ys n at =
    let same : n + 0 ≡ n = omega arith in
    sym (get_or-drop n line 0 0 ∙ ap (λ k. get_or line k 0) same) ∙ ap (λ l. get_or l 0 0) at

pub at_after : (line : Text) (b : ℕ) (ys : Text) (n : ℕ) → At line n (b ∷ ys) → At line (n + 1) ys
at_after line b ys n at = at_next line (b ∷ []) ys n at

pub at_slice : (line raw rest : Text) (n end : ℕ) → At line n (raw ++ rest) → end ≡ n + length raw → slice_range line n end ≡ raw
at_slice line raw rest n end at e =
    let len : length raw ≡ end - n = omega arith in
    ap (λ l. take (end - n) l) at ∙ take_at raw rest (end - n) len

-- ---- the end of a part

-- a byte that ends such a part, or the end
abbrev pub is_end : Stops → Text → Bool
is_end stops [] = true
is_end stops (b ∷ bs) = is_stop stops b

pub closed_len : (stops : Stops) (before : ℕ) (raw rest : Text) → is_closed stops before raw ≡ true → is_end stops rest ≡ true → part_len stops before (raw ++ rest) ≡ length raw
closed_len stops before [] [] c e = refl
closed_len stops before [] (s ∷ rest) c e = rw (e, c) refl
closed_len stops before (b ∷ bs) rest c e =
    let p = and_parts (not (ends stops before b)) (is_closed stops b bs) c in
    let tail : part_len stops b (bs ++ rest) ≡ length bs = closed_len stops b bs rest p.1 e in
    rw (not-true (ends stops before b) p.0) (omega (arith, tail))

pub at_end : (stops : Stops) (line raw rest : Text) (n : ℕ) → At line n (raw ++ rest) → is_closed stops 0 raw ≡ true → is_end stops rest ≡ true → end_of stops line n ≡ n + length raw
unfolding end_of
at_end stops line raw rest n at c e = ap (λ l. n + part_len stops 0 l) at ∙ ap (λ k. n + k) (closed_len stops 0 raw rest c e)

-- ---- spaces

-- no space, or the end
abbrev pub is_no_space : Text → Bool
is_no_space [] = true
is_no_space (b ∷ bs) = not (eqb b 32)

spaces_len : (gap rest : Text) → are_spaces gap ≡ true → is_no_space rest ≡ true → spaces (gap ++ rest) ≡ length gap
spaces_len [] [] g e = refl
spaces_len [] (b ∷ rest) g e = rw (not-true (eqb b 32) e) refl
spaces_len (b ∷ gap) rest g e =
    let p = and_parts (eqb b 32) (are_spaces gap) g in
    let tail : spaces (gap ++ rest) ≡ length gap = spaces_len gap rest p.1 e in
    rw p.0 (omega (arith, tail))

pub at_spaces : (line gap rest : Text) (n : ℕ) → At line n (gap ++ rest) → are_spaces gap ≡ true → is_no_space rest ≡ true → spaces_end line n ≡ n + length gap
unfolding spaces_end
at_spaces line gap rest n at g e = ap (λ l. n + spaces l) at ∙ ap (λ k. n + k) (spaces_len gap rest g e)
