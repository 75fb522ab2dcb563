-- Ends of numbers.
use Rattle.std.proofs.Common.{◌≡◌, ℕ, ◌+◌, ◌<◌, Bool, true, false, cond, not, ◌||◌, eqb, [], length, drop, get_or, ap, refl, ◌∙◌, arith}
use Rattle.std.specs.Char.{is_ascii_digit}
use Rattle.std.proofs.lemmas.Bool.Decides.{nat_tests}
use Rattle.std.proofs.lemmas.List.{at_drop_more, drop_all}
use Rattle.ts_core.specs.facts.Facts.{Text}
use Rattle.ts_script.specs.Moments.{number_len}

cond_not_at : (b : Bool) (x y : ℕ) → b ≡ true → cond (not (not b)) x y ≡ x
cond_not_at true x y e = refl
cond_not_at false x y e = absurd cc

cond_not_out : (b : Bool) (x y : ℕ) → b ≡ false → cond (not (not b)) x y ≡ y
cond_not_out true x y e = absurd cc
cond_not_out false x y e = refl

abbrev pub in_number : ℕ → Bool
in_number b = eqb b 45 || is_ascii_digit b

pub number_len-more : (bs : Text) (i : ℕ) → i < length bs → in_number (get_or bs i 0) ≡ true → number_len (drop i bs) ≡ 1 + number_len (drop (i + 1) bs)
unfolding number_len
number_len-more bs i lt e = at_drop_more number_len bs i 0 lt ∙ cond_not_at (in_number (get_or bs i 0)) (1 + number_len (drop (i + 1) bs)) 0 e

pub number_len-stop : (bs : Text) (i : ℕ) → i < length bs → in_number (get_or bs i 0) ≡ false → number_len (drop i bs) ≡ 0
unfolding number_len
number_len-stop bs i lt e = at_drop_more number_len bs i 0 lt ∙ cond_not_out (in_number (get_or bs i 0)) (1 + number_len (drop (i + 1) bs)) 0 e

pub number_len-end : (bs : Text) → number_len (drop (length bs) bs) ≡ 0
unfolding number_len
number_len-end bs = let none : drop (length bs) bs ≡ [] = drop_all (length bs) bs (omega arith) in ap number_len none

pub in_number-ascii : (b : ℕ) → in_number b ≡ true → b < 128
in_number-ascii b e = grind (arith, nat_tests)
