-- Texts appended in a row, when out of memory.
use Rattle.std.proofs.Common.{◌≡◌, ◌∙◌, List, [], ◌∷◌, ◌++◌, Bor, Result, Ok, Err, OnErr, refl, ap, sym, append-nil}
use Rattle.std.proofs.lemmas.List.{append_assoc}
use Rattle.ts_core.specs.facts.Facts.{Text}
use Rattle.ts_core.specs.text.FaultTexts.{parts_joined, EndsEarly}

-- nothing of them is appended
pub ends_at_once : (text old new : Text) → new ≡ old → EndsEarly text old new
ends_at_once text old new e = record { written = []; missing = text; stands = e ∙ sym (append-nil old); whole = refl }

-- a word, and a beginning of the others
ends_later : (word text old middle new : Text) → middle ≡ old ++ word → EndsEarly text middle new → EndsEarly (word ++ text) old new
ends_later word text old middle new e w = record {
  written = word ++ w.written;
  missing = w.missing;
  stands = w.stands ∙ ap (λ (t : Text). t ++ w.written) e ∙ append_assoc old word w.written;
  whole = ap (λ (t : Text). word ++ t) w.whole ∙ sym (append_assoc word w.written w.missing);
}

pub ends_behind : {T E : Type 0} (r : Result T E) (parts : List (Bor Text)) (first : Bor Text) (others : List (Bor Text)) (old middle new : Text)
    → parts ≡ first ∷ others → middle ≡ old ++ first.now → OnErr r (EndsEarly (parts_joined others) middle new) → OnErr r (EndsEarly (parts_joined parts) old new)
ends_behind {T} {E} (Ok x) parts first others old middle new split e w = tt
ends_behind {T} {E} (Err x) parts first others old middle new split e w = rw split (ends_later first.now (parts_joined others) old middle new e w)
