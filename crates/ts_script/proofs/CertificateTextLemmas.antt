-- Offsets of the `;` of a certificate.
use Rattle.std.proofs.Common.{◌≡◌, ◌≢◌, ◌∙◌, ℕ, suc, ◌<◌, ◌==◌, cond, [], ◌∷◌, ◌++◌, length, get_or, refl, ap, ap₂, sym, append_assoc, arith}
use Rattle.std.proofs.lemmas.Bool.Decides.{nat_tests}
use Rattle.std.proofs.lemmas.List.{map-append}
use Rattle.ts_core.specs.facts.Facts.{Text}
use Rattle.ts_script.specs.ScriptCertificates.{with_line_feeds}

abbrev pub HasNone : Text → Type 0
HasNone text = (i : ℕ) → i < length text → get_or text i 0 ≢ 59

other_byte : (b : ℕ) → b ≢ 59 → cond (b == 59) 10 b ≡ b
other_byte b other = grind (arith, nat_tests)

-- a text without one is as it was
pub none_there : (text : Text) → HasNone text → with_line_feeds text ≡ text
none_there [] none = refl
none_there (b ∷ bs) none = ap₂ (λ (x : ℕ) (xs : Text). x ∷ xs) (other_byte b (none 0 (omega arith))) (none_there bs (λ i h. none (suc i) (omega arith)))

-- the first one is after a text without one
pub first_there : (text first others : Text) → text ≡ first ++ (59 ∷ others) → HasNone first → with_line_feeds text ≡ first ++ (10 ∷ with_line_feeds others)
first_there text first others e none =
    ap with_line_feeds e ∙ map-append (λ b. cond (b == 59) 10 b) first (59 ∷ others) ∙ ap (λ (t : Text). t ++ (10 ∷ with_line_feeds others)) (none_there first none)

-- a turn of the loop: the text before the first one is appended, and an LF
pub one_more : (lines first put ended others rest whole : Text) → put ≡ lines ++ first → ended ≡ put ++ (10 ∷ []) → rest ≡ first ++ (10 ∷ others) → lines ++ rest ≡ whole → ended ++ others ≡ whole
one_more lines first put ended others rest whole p n r w =
    ap (λ (t : Text). t ++ others) (n ∙ ap (λ (t : Text). t ++ (10 ∷ [])) p) ∙ append_assoc (lines ++ first) (10 ∷ []) others ∙ append_assoc lines first (10 ∷ others) ∙ ap (λ (t : Text). lines ++ t) (sym r) ∙ w
