-- Facts about the bytes that a step of the reader passed.
use Rattle.std.proofs.Common.{◌≡◌, ℕ, suc, ◌+◌, ◌-◌, ◌<◌, ◌≤◌, Bool, true, false, not, cond, eqb, [], ◌∷◌, ◌++◌, length, get_or, take, drop, slice_range, slice_index, Result, Ok, Err, refl, sym, ap, ◌∙◌, arith, length-drop, inl, inr, ◌⊎◌}
use Rattle.std.proofs.lemmas.Bool.{and_parts, and_from, cases_lt}
use Rattle.std.proofs.lemmas.List.{take-append-drop, drop-drop, at_drop_more, at_drop_all, get_or_past, get_or-drop, length-take-le}
use Rattle.ts_core.specs.facts.Facts.{Text}
use Rattle.ts_line.specs.declared.fault.LineFault.{LineFault}
use Rattle.ts_line.specs.declared.scan.Stops.{Stops}
use Rattle.ts_line.specs.Scan.{is_stop, is_escaped, ends, part_len, end_of, spaces, spaces_end}
use Rattle.ts_core.specs.text.Steps.{◌>>=◌}
use Rattle.ts_line.specs.Spelling.{are_spaces, is_closed}

-- ---- steps that may find a fault

pub bind_ok : {A B : Type 0} (r : Result A LineFault) (f : A → Result B LineFault) (y : B) → (r >>= f) ≡ Ok y → (x : A) × (r ≡ Ok x) × (f x ≡ Ok y)
bind_ok (Ok x) f y e = (x, refl, e)
bind_ok (Err e') f y e = absurd cc

pub not_err : {A : Type 0} (b : Bool) (e' : LineFault) (r : Result A LineFault) (y : A) → cond b (Err e') r ≡ Ok y → (b ≡ false) × (r ≡ Ok y)
not_err true e' r y e = absurd cc
not_err false e' r y e = (refl, e)

-- ---- cutting a line

pub cut : (line : Text) (n end : ℕ) → n ≤ end → drop n line ≡ slice_range line n end ++ drop end line
cut line n end le =
    let back : n + (end - n) ≡ end = omega arith in
    sym (take-append-drop (end - n) (drop n line)) ∙ ap (λ (t : Text). slice_range line n end ++ t) (drop-drop (end - n) n line ∙ ap (λ k. drop k line) back)

pub first_of : (line : Text) (n : ℕ) → n < length line → drop n line ≡ slice_index line n ∷ drop (n + 1) line
first_of line n lt = at_drop_more (λ (t : Text). t) line n 0 lt

pub nothing_left : (line : Text) (n : ℕ) → length line ≤ n → drop n line ≡ []
nothing_left line n le = at_drop_all (λ (t : Text). t) line n le

pub slice_len : (line : Text) (n end : ℕ) → n ≤ end → end ≤ length line → length (slice_range line n end) ≡ end - n
slice_len line n end le within = let short : end - n ≤ length (drop n line) = omega (arith, length-drop n line) in length-take-le (end - n) (drop n line) short

past_zero : (line : Text) (n : ℕ) → length line ≤ n → slice_index line n ≡ 0
past_zero line n le = get_or_past line n 0 le

past_by : (line : Text) (n b : ℕ) (r : (n < length line) ⊎ (length line ≤ n)) → slice_index line n ≡ b → 1 ≤ b → n < length line
past_by line n b (inl lt) e some = lt
past_by line n b (inr le) e some = absurd (omega (arith, e, some, past_zero line n le))

side : (m n : ℕ) → (m < n) ⊎ (n ≤ m)
side m n = cases_lt m n

-- a byte that isn't 0 is in the line
pub within : (line : Text) (n b : ℕ) → slice_index line n ≡ b → 1 ≤ b → n < length line
within line n b e some = past_by line n b (side n (length line)) e some

-- ---- the end of a part

len_by : (stops : Stops) (before b : ℕ) (bs : Text) (e : Bool) → ends stops before b ≡ e → part_len stops b bs ≤ length bs → part_len stops before (b ∷ bs) ≤ length (b ∷ bs)
len_by stops before b bs true e ih = rw e (omega arith)
len_by stops before b bs false e ih = rw e (omega (arith, ih))

len_within : (stops : Stops) (before : ℕ) (bs : Text) → part_len stops before bs ≤ length bs
len_within stops before [] = omega arith
len_within stops before (b ∷ bs) = len_by stops before b bs (ends stops before b) refl (len_within stops b bs)

pub end_within : (stops : Stops) (line : Text) (n : ℕ) → n ≤ length line → (n ≤ end_of stops line n) × (end_of stops line n ≤ length line)
unfolding end_of
end_within stops line n le = (omega arith, omega (arith, len_within stops 0 (drop n line), length-drop n line))

abbrev Closes : Stops → ℕ → Text → Type 0
Closes stops before bs = (is_closed stops before (take (part_len stops before bs) bs) ≡ true) × (is_stop stops (get_or bs (part_len stops before bs) 0) ≡ true)

closes_by : (stops : Stops) (before b : ℕ) (bs : Text) (e : Bool) → ends stops before b ≡ e → (part_len stops b bs < length bs → Closes stops b bs) → part_len stops before (b ∷ bs) < length (b ∷ bs) → Closes stops before (b ∷ bs)
closes_by stops before b bs true e ih lt =
    let p = and_parts (is_stop stops b) (not (is_escaped stops before)) e in
    rw e (p.1, p.0)
closes_by stops before b bs false e ih lt =
    let n = part_len stops b bs in
    let is : part_len stops before (b ∷ bs) ≡ n + 1 = rw e refl in
    let more : n + 1 ≡ suc n = omega arith in
    let rest = ih (omega (arith, lt, is)) in
    let going : not (ends stops before b) ≡ true = ap not e in
    rw (is, more) (and_from (not (ends stops before b)) (is_closed stops b (take n bs)) going rest.0, rest.1)

closes : (stops : Stops) (before : ℕ) (bs : Text) → part_len stops before bs < length bs → Closes stops before bs
closes stops before [] lt = absurd (omega arith)
closes stops before (b ∷ bs) lt = closes_by stops before b bs (ends stops before b) refl (closes stops b bs) lt

-- where a part ends inside of the line, it is closed, and a byte that ends it is there
pub part_closes : (stops : Stops) (line : Text) (n : ℕ) → n ≤ length line → end_of stops line n < length line
    → (is_closed stops 0 (slice_range line n (end_of stops line n)) ≡ true) × (is_stop stops (slice_index line (end_of stops line n)) ≡ true)
unfolding end_of
part_closes stops line n le lt =
    let k = part_len stops 0 (drop n line) in
    let all = closes stops 0 (drop n line) (omega (arith, lt, length-drop n line)) in
    let same : (n + k) - n ≡ k = omega arith in
    (ap (λ m. is_closed stops 0 (take m (drop n line))) same ∙ all.0, ap (is_stop stops) (sym (get_or-drop n line k 0)) ∙ all.1)

-- ---- spaces

spaces_by : (b : ℕ) (bs : Text) (e : Bool) → eqb b 32 ≡ e → (spaces bs ≤ length bs) × (are_spaces (take (spaces bs) bs) ≡ true) → (spaces (b ∷ bs) ≤ length (b ∷ bs)) × (are_spaces (take (spaces (b ∷ bs)) (b ∷ bs)) ≡ true)
spaces_by b bs true e ih =
    let more : spaces bs + 1 ≡ suc (spaces bs) = omega arith in
    rw (e, more) (omega (arith, ih.0), and_from (eqb b 32) (are_spaces (take (spaces bs) bs)) e ih.1)
spaces_by b bs false e ih = rw e (omega arith, refl)

spaces_told : (bs : Text) → (spaces bs ≤ length bs) × (are_spaces (take (spaces bs) bs) ≡ true)
spaces_told [] = (omega arith, refl)
spaces_told (b ∷ bs) = spaces_by b bs (eqb b 32) refl (spaces_told bs)

pub spaces_within : (line : Text) (n : ℕ) → n ≤ length line → (n ≤ spaces_end line n) × (spaces_end line n ≤ length line)
unfolding spaces_end
spaces_within line n le = (omega arith, omega (arith, (spaces_told (drop n line)).0, length-drop n line))

pub spaces_are : (line : Text) (n : ℕ) → are_spaces (slice_range line n (spaces_end line n)) ≡ true
unfolding spaces_end
spaces_are line n =
    let k = spaces (drop n line) in
    let same : (n + k) - n ≡ k = omega arith in
    ap (λ m. are_spaces (take m (drop n line))) same ∙ (spaces_told (drop n line)).1
