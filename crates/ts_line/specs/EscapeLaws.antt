-- Two readings of escapes agree: testing for a backslash directly before a byte, and reading pairs from left to right.
-- This holds since nothing escapes a backslash. (InfluxData 1.8, line protocol reference, special characters.)
use Rattle.std.proofs.Common.{◌≡◌, ℕ, ◌+◌, Bool, true, false, cond, ◌&&◌, [], ◌∷◌, refl, sym, ap, ◌∙◌, arith}
use Rattle.std.proofs.Math.Bool.{and-false, and-true}
use Rattle.std.proofs.lemmas.Bool.Decides.{nat_tests}
use Rattle.ts_core.specs.facts.Facts.{Text}
use Rattle.ts_line.specs.declared.scan.Stops.{Stops}
use Rattle.ts_line.specs.declared.scan.Stops.TheVariants.{Space, Comma, Equals, Plain}
use Rattle.ts_line.specs.Scan.{is_backslash, is_stop, is_escaped, ends, part_len}
use Rattle.ts_line.specs.PartTexts.{unescaped}

-- the byte may be escaped in a part with these delimiters
abbrev pub is_escapable : Stops → ℕ → Bool
is_escapable Plain byte = false
is_escapable stops byte = is_stop stops byte

-- length in bytes of a part, if a backslash and an escapable byte are skipped as a pair
abbrev pub pair_len : Stops → Text → ℕ
pair_len stops [] = 0
pair_len stops (b ∷ []) = cond (is_stop stops b) 0 1
pair_len stops (b ∷ c ∷ bs) = cond (is_stop stops b) 0
    (cond (is_backslash b && is_escapable stops c) (pair_len stops bs + 2) (pair_len stops (c ∷ bs) + 1))

-- text of a part, if each such pair gives its second byte
abbrev pub pair_text : Stops → Text → Text
pair_text stops [] = []
pair_text stops (b ∷ []) = b ∷ []
pair_text stops (b ∷ c ∷ bs) =
    cond (is_backslash b && is_stop stops c) (c ∷ pair_text stops bs) (b ∷ pair_text stops (c ∷ bs))

-- both readings give the same lengths and texts
pub record ReadsPairs : Type 0 where
  pub lengths : (stops : Stops) (text : Text) → part_len stops 0 text ≡ pair_len stops text
  pub texts : (stops : Stops) (raw : Text) → unescaped stops raw ≡ pair_text stops raw

-- ---- an escapable byte is no backslash; in a part with escapes it is a delimiter

stop_is_other : (stops : Stops) (b : ℕ) → is_stop stops b ≡ true → is_backslash b ≡ false
stop_is_other Space b e = grind (arith, nat_tests)
stop_is_other Comma b e = grind (arith, nat_tests)
stop_is_other Equals b e = grind (arith, nat_tests)
stop_is_other Plain b e = grind (arith, nat_tests)

pub unescaped_after : (stops : Stops) (before : ℕ) → is_backslash before ≡ false → is_escaped stops before ≡ false
unescaped_after Space before e = e
unescaped_after Comma before e = e
unescaped_after Equals before e = e
unescaped_after Plain before e = refl

-- of the byte before the first, only a backslash matters
pub len_from : (stops : Stops) (before : ℕ) (bs : Text)
    → is_backslash before ≡ false → part_len stops before bs ≡ part_len stops 0 bs
len_from stops before [] e = refl
len_from stops before (b ∷ bs) e = rw (unescaped_after stops before e, unescaped_after stops 0 refl) refl

-- after any byte, a delimiter that isn't escapable ends a part
ends_plainly : (stops : Stops) (b c : ℕ) → is_escapable stops c ≡ false → ends stops b c ≡ is_stop stops c
ends_plainly Space b c n = rw n refl
ends_plainly Comma b c n = rw n refl
ends_plainly Equals b c n = rw n refl
ends_plainly Plain b c n = and-true (is_stop Plain c)

ends_escaped : (stops : Stops) (b c : ℕ) → is_backslash b ≡ true → is_escapable stops c ≡ true → ends stops b c ≡ false
ends_escaped Space b c w e = rw w (and-false (is_stop Space c))
ends_escaped Comma b c w e = rw w (and-false (is_stop Comma c))
ends_escaped Equals b c w e = rw w (and-false (is_stop Equals c))
ends_escaped Plain b c w e = absurd cc

escapable_stop : (stops : Stops) (c : ℕ) → is_escapable stops c ≡ true → is_stop stops c ≡ true
escapable_stop Space c e = e
escapable_stop Comma c e = e
escapable_stop Equals c e = e
escapable_stop Plain c e = absurd cc

starts_bare : (stops : Stops) (b : ℕ) → ends stops 0 b ≡ is_stop stops b
starts_bare stops b = rw (unescaped_after stops 0 refl) (and-true (is_stop stops b))

-- ---- lengths

len_by : (stops : Stops) (b c : ℕ) (bs : Text) (s w e : Bool)
    → is_stop stops b ≡ s → is_backslash b ≡ w → is_escapable stops c ≡ e
    → part_len stops 0 bs ≡ pair_len stops bs
    → part_len stops 0 (c ∷ bs) ≡ pair_len stops (c ∷ bs) → part_len stops 0 (b ∷ c ∷ bs) ≡ pair_len stops (b ∷ c ∷ bs)
len_by stops b c bs true w e s-is w-is e-is one two = rw (starts_bare stops b, s-is) refl
len_by stops b c bs false true true s-is w-is e-is one two =
    let rest : part_len stops c bs ≡ pair_len stops bs =
    len_from stops c bs (stop_is_other stops c (escapable_stop stops c e-is)) ∙ one in
    rw (starts_bare stops b, s-is, w-is, e-is, ends_escaped stops b c w-is e-is) (omega (arith, rest))
len_by stops b c bs false true false s-is w-is e-is one two =
    let same : ends stops b c ≡ ends stops 0 c = ends_plainly stops b c e-is ∙ sym (starts_bare stops c) in
    rw (starts_bare stops b, s-is, w-is, e-is, same) (ap (λ n. n + 1) two)
len_by stops b c bs false false e s-is w-is e-is one two =
    rw (starts_bare stops b, s-is, w-is) (ap (λ n. n + 1) (len_from stops b (c ∷ bs) w-is ∙ two))

single : (stops : Stops) (b : ℕ) (s : Bool) → is_stop stops b ≡ s → part_len stops 0 (b ∷ []) ≡ pair_len stops (b ∷ [])
single stops b true e = rw (starts_bare stops b, e) refl
single stops b false e = rw (starts_bare stops b, e) refl

same_lengths : (stops : Stops) (text : Text) → part_len stops 0 text ≡ pair_len stops text
same_lengths stops [] = refl
same_lengths stops (b ∷ []) = single stops b (is_stop stops b) refl
same_lengths stops (b ∷ c ∷ bs) = len_by stops b c bs (is_stop stops b)
    (is_backslash b) (is_escapable stops c) refl refl refl (same_lengths stops bs) (same_lengths stops (c ∷ bs))

-- ---- texts

text_by : (stops : Stops) (b c : ℕ) (bs : Text) (w e : Bool) → is_backslash b ≡ w → is_stop stops c ≡ e
    → unescaped stops bs ≡ pair_text stops bs
    → unescaped stops (c ∷ bs) ≡ pair_text stops (c ∷ bs) → unescaped stops (b ∷ c ∷ bs) ≡ pair_text stops (b ∷ c ∷ bs)
text_by stops b c bs true true w-is e-is one two =
    let other : is_backslash c ≡ false = stop_is_other stops c e-is in
    rw (w-is, e-is, other) (ap (λ (t : Text). c ∷ t) one)
text_by stops b c bs true false w-is e-is one two = rw (w-is, e-is) (ap (λ (t : Text). b ∷ t) two)
text_by stops b c bs false e w-is e-is one two = rw w-is (ap (λ (t : Text). b ∷ t) two)

last_text : (stops : Stops) (b : ℕ) → unescaped stops (b ∷ []) ≡ b ∷ []
last_text stops b = rw (and-false (is_backslash b)) refl

same_texts : (stops : Stops) (raw : Text) → unescaped stops raw ≡ pair_text stops raw
same_texts stops [] = refl
same_texts stops (b ∷ []) = last_text stops b
same_texts stops (b ∷ c ∷ bs) =
    text_by stops b c bs (is_backslash b) (is_stop stops c) refl refl (same_texts stops bs) (same_texts stops (c ∷ bs))

pub reads_pairs : ReadsPairs
reads_pairs = record { lengths = same_lengths; texts = same_texts }
