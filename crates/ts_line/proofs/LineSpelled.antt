-- A spelled line, which is read.
use Rattle.std.proofs.Common.{◌≡◌, ℕ, zero, suc, ◌+◌, ◌-◌, ◌<◌, ◌≤◌, true, false, eqb, [], ◌∷◌, ◌++◌, length, get_or, take, refl, sym, ap, ◌∙◌, arith, append_assoc, length-append, inl, inr, ◌⊎◌}
use Rattle.std.proofs.lemmas.Bool.{and_parts}
use Rattle.std.proofs.lemmas.Bool.Decides.{nat_tests}
use Rattle.std.proofs.lemmas.List.{take_at, length_push, get_or_push, get_or-append-add}
use Rattle.ts_core.specs.facts.Facts.{Text}
use Rattle.ts_line.specs.Scan.{is_backslash}
use Rattle.ts_line.specs.Lines.{is_bare_space, trimmed, without_return, content}
use Rattle.ts_line.specs.Spelling.{are_spaces}
use Rattle.ts_line.proofs.LineLemmas.{trimmed_step}
use Rattle.ts_line.proofs.TagsSpelled.{not_eqb}

-- ---- reading a text with spaces and a carriage return at its end

-- a byte that is no space, no backslash and no carriage return
pub record IsPlainByte (b : ℕ) : Type 0 where
  pub no_space : eqb b 32 ≡ false
  pub no_backslash : is_backslash b ≡ false
  pub no_return : eqb b 13 ≡ false

space_at : (text rest : Text) (k : ℕ) → are_spaces text ≡ true → k < length text → get_or (text ++ rest) k 0 ≡ 32
space_at [] rest k e lt = absurd (omega arith)
space_at (b ∷ bs) rest zero e lt = let p = and_parts (eqb b 32) (are_spaces bs) e in grind (arith, nat_tests)
space_at (b ∷ bs) rest (suc k) e lt = let p = and_parts (eqb b 32) (are_spaces bs) e in space_at bs rest k p.1 (omega arith)

-- spaces after a byte, and then anything
abbrev tail_of : Text → ℕ → Text → Text → Text
tail_of front b after rest = front ++ (b ∷ (after ++ rest))

byte_b : (front after rest : Text) (b : ℕ) → get_or (tail_of front b after rest) (length front) 0 ≡ b
byte_b front after rest b =
    let same : length front + 0 ≡ length front = omega arith in
    sym (ap (λ k. get_or (tail_of front b after rest) k 0) same) ∙ get_or-append-add front (b ∷ (after ++ rest)) 0 0

byte_after : (front after rest : Text) (b k : ℕ) → are_spaces after ≡ true → k < length after → get_or (tail_of front b after rest) (length front + 1 + k) 0 ≡ 32
byte_after front after rest b k e lt =
    let same : length front + suc k ≡ length front + 1 + k = omega arith in
    sym (ap (λ n. get_or (tail_of front b after rest) n 0) same) ∙ get_or-append-add front (b ∷ (after ++ rest)) (suc k) 0 ∙ space_at after rest k e lt

-- the byte before a space of those
byte_before : (front after rest : Text) (b k : ℕ) → are_spaces after ≡ true → k < length after → IsPlainByte b → is_backslash (get_or (tail_of front b after rest) (length front + 1 + k - 1) 0) ≡ false
byte_before front after rest b zero e lt p =
    let same : length front + 1 + 0 - 1 ≡ length front = omega arith in
    ap (λ n. is_backslash (get_or (tail_of front b after rest) n 0)) same ∙ ap is_backslash (byte_b front after rest b) ∙ p.no_backslash
byte_before front after rest b (suc k) e lt p =
    let same : length front + 1 + suc k - 1 ≡ length front + 1 + k = omega arith in
    ap (λ n. is_backslash (get_or (tail_of front b after rest) n 0)) same ∙ ap is_backslash (byte_after front after rest b k e (omega arith))

bare_after : (front after rest : Text) (b k : ℕ) → are_spaces after ≡ true → k < length after → IsPlainByte b → is_bare_space (tail_of front b after rest) (length front + 1 + k) ≡ true
unfolding is_bare_space
bare_after front after rest b k e lt p =
    let first : eqb (length front + 1 + k) 0 ≡ false = not_eqb (length front + 1 + k) 0 (λ x. omega (arith, x)) in
    rw (byte_after front after rest b k e lt, first, byte_before front after rest b k e lt p) refl

stays : (front after rest : Text) (b : ℕ) → IsPlainByte b → is_bare_space (tail_of front b after rest) (length front) ≡ false
unfolding is_bare_space
stays front after rest b p = rw (byte_b front after rest b, p.no_space) refl

trimmed_to : (front after rest : Text) (b k : ℕ) → are_spaces after ≡ true → k ≤ length after → IsPlainByte b → trimmed (tail_of front b after rest) (length front + 1 + k) ≡ length front + 1
trimmed_to front after rest b zero e le p =
    let same : length front + 1 + 0 ≡ length front + 1 = omega arith in
    let less : length front + 1 - 1 ≡ length front = omega arith in
    ap (trimmed (tail_of front b after rest)) same ∙ trimmed_step (tail_of front b after rest) (length front + 1) (omega arith) ∙ rw (less, stays front after rest b p) refl
trimmed_to front after rest b (suc k) e le p =
    let less : length front + 1 + suc k - 1 ≡ length front + 1 + k = omega arith in
    trimmed_step (tail_of front b after rest) (length front + 1 + suc k) (omega arith) ∙ rw (less, bare_after front after rest b k e (omega arith) p) (trimmed_to front after rest b k e (omega arith) p)

last_by : (front after : Text) (b : ℕ) → are_spaces after ≡ true → IsPlainByte b → eqb (get_or (tail_of front b after []) (length front + 1 + length after - 1) 0) 13 ≡ false
last_by front [] b e p =
    let same : length front + 1 + 0 - 1 ≡ length front = omega arith in
    ap (λ n. eqb (get_or (tail_of front b [] []) n 0) 13) same ∙ ap (λ x. eqb x 13) (byte_b front [] [] b) ∙ p.no_return
last_by front (a ∷ after) b e p =
    let same : length front + 1 + length (a ∷ after) - 1 ≡ length front + 1 + length after = omega arith in
    ap (λ n. eqb (get_or (tail_of front b (a ∷ after) []) n 0) 13) same ∙ ap (λ x. eqb x 13) (byte_after front (a ∷ after) [] b (length after) e (omega arith))

tail_len : (front after rest : Text) (b : ℕ) → length (tail_of front b after rest) ≡ length front + 1 + length after + length rest
tail_len front after rest b = omega (arith, length-append front (b ∷ (after ++ rest)), length-append after rest)

return_by : (front after return : Text) (b : ℕ) → are_spaces after ≡ true → IsPlainByte b → ((return ≡ []) ⊎ (return ≡ 13 ∷ [])) → without_return (tail_of front b after return) ≡ length front + 1 + length after
return_by front after return b e p (inl is) =
    let source = tail_of front b after [] in
    let len : length source ≡ length front + 1 + length after = omega (arith, tail_len front after [] b) in
    let last : eqb (get_or source (length source - 1) 0) 13 ≡ false = rw len (last_by front after b e p) in
    let some : eqb (length source) 0 ≡ false = not_eqb (length source) 0 (λ x. omega (arith, x, len)) in
    rw (is, last, some) len
return_by front after return b e p (inr is) =
    let source = tail_of front b after (13 ∷ []) in
    let whole : source ≡ (front ++ (b ∷ after)) ++ 13 ∷ [] = sym (append_assoc front (b ∷ after) (13 ∷ [])) in
    let len : length source ≡ length front + 1 + length after + 1 = omega (arith, tail_len front after (13 ∷ []) b) in
    let offset : length (front ++ (b ∷ after)) ≡ length source - 1 = omega (arith, len, length-append front (b ∷ after)) in
    let last : get_or source (length source - 1) 0 ≡ 13 = ap (λ l. get_or l (length source - 1) 0) whole ∙ get_or_push (front ++ (b ∷ after)) 13 0 (length source - 1) offset in
    let some : eqb (length source) 0 ≡ false = not_eqb (length source) 0 (λ x. omega (arith, x, len)) in
    rw (is, last, some) (omega (arith, len))

pub content_read : (front after return : Text) (b : ℕ) → are_spaces after ≡ true → IsPlainByte b → ((return ≡ []) ⊎ (return ≡ 13 ∷ [])) → content (front ++ (b ∷ (after ++ return))) ≡ front ++ b ∷ []
unfolding content
content_read front after return b e p r =
    let source = tail_of front b after return in
    let whole : source ≡ (front ++ b ∷ []) ++ (after ++ return) = sym (append_assoc front (b ∷ []) (after ++ return)) in
    let end : trimmed source (without_return source) ≡ length front + 1 = ap (trimmed source) (return_by front after return b e p r) ∙ trimmed_to front after return b (length after) e (omega arith) p in
    ap (λ n. take n source) end ∙ ap (take (length front + 1)) whole ∙ take_at (front ++ b ∷ []) (after ++ return) (length front + 1) (length_push front b)
