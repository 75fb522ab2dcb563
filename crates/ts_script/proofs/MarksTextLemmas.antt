-- The text of marks, and its length.
use Rattle.std.proofs.Common.{◌≡◌, ◌⊎◌, ◌∙◌, ◌≤◌, ◌++◌, List, [], ◌∷◌, ℕ, ℤ, length, append_assoc, Result, Ok, Err, OnOk, arith, refl, ap, inl, inr}
use Rattle.ts_core.specs.facts.Facts.{Text}
use Rattle.ts_core.specs.store.Marks.{Marks}
use Rattle.ts_core.specs.settings.Settings.{Rule, Settings}
use Rattle.ts_script.specs.MarksTexts.{lows_text, raw_text, marks_text}

-- no rule or no low index is left
pub no_lows : (rules : List Rule) (lows : List ℤ) → (rules ≡ []) ⊎ (lows ≡ []) → lows_text rules lows ≡ []
no_lows [] lows e = refl
no_lows (r ∷ rules) [] e = refl
no_lows (r ∷ rules) (l ∷ lows) (inl e) = absurd (omega (arith, ap length e))
no_lows (r ∷ rules) (l ∷ lows) (inr e) = absurd (omega (arith, ap length e))

-- the raw mark, and then these
pub marks_put : {T E : Type 0} (r : Result T E) (old middle new rest : Text) (mark : ℤ) (s : Settings) (m : Marks)
    → mark ≡ m.raw → rest ≡ lows_text s.rules m.lows → middle ≡ old ++ raw_text mark → OnOk r (new ≡ middle ++ rest) → OnOk r (new ≡ old ++ marks_text s m)
marks_put {T} {E} (Err x) old middle new rest mark s m k l b e = tt
marks_put {T} {E} (Ok x) old middle new rest mark s m k l b e =
    e ∙ ap (λ (t : Text). t ++ rest) b ∙ append_assoc old (raw_text mark) rest ∙ (λ j. old ++ (raw_text (k j) ++ l j))

-- no longer than a greater length
pub no_longer : {T E : Type 0} (r : Result T E) (a n m : ℕ) → n ≤ m → OnOk r (a ≤ n) → OnOk r (a ≤ m)
no_longer {T} {E} (Err x) a n m more e = tt
no_longer {T} {E} (Ok x) a n m more e = omega (arith, more, e)
