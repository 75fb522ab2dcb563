-- One byte of a value's shape.
use Rattle.std.proofs.Common.{◌≡◌, ◌<◌, ◌≤◌, Bool, true, false, cond, ◌&&◌, ◌||◌, eqb, [], ◌∷◌, length, drop, get_or, Some, None, refl, arith}
use Rattle.std.specs.Char.{is_ascii_digit}
use Rattle.ts_core.specs.facts.Facts.{Text}
use Rattle.ts_line.specs.Values.{after_digits, after_quotes}

pub digits_step : (some : Bool) (text : Text) → 0 < length text
    → after_digits some text ≡ cond (is_ascii_digit (get_or text 0 0)) (after_digits true (drop 1 text)) (cond some (Some text) None)
digits_step some [] lt = absurd (omega arith)
digits_step some (b ∷ bs) lt = refl

pub digits_end : (some : Bool) (text : Text) → length text ≤ 0 → after_digits some text ≡ cond some (Some text) None
digits_end some [] le = refl
digits_end some (b ∷ bs) le = absurd (omega arith)

pub quotes_step : (escaped : Bool) (text : Text) → 0 < length text
    → after_quotes escaped text ≡ cond (escaped && (eqb (get_or text 0 0) 34 || eqb (get_or text 0 0) 92)) (after_quotes false (drop 1 text)) (cond (eqb (get_or text 0 0) 34) (Some (drop 1 text)) (after_quotes (eqb (get_or text 0 0) 92) (drop 1 text)))
quotes_step escaped [] lt = absurd (omega arith)
quotes_step escaped (b ∷ bs) lt = refl

pub quotes_end : (escaped : Bool) (text : Text) → length text ≤ 0 → after_quotes escaped text ≡ None
quotes_end escaped [] le = refl
quotes_end escaped (b ∷ bs) le = absurd (omega arith)
