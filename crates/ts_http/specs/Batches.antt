-- A batch of lines: the effect of each line, and the report on all of them.
-- (InfluxData 1.8, API reference: /write, partial writes; line protocol reference. Own rules: the lines are
-- written one by one; the report has the first refused line and the number of refused lines.)
use Rattle.std.specs.Prelude.{◌≡◌, ℕ, ◌+◌, ℤ, ◌==◌, List, [], ◌∷◌, ◌++◌, map, codes, if◌then◌else◌, Option, Some, None, decimal}
use Rattle.ts_core.specs.facts.Facts.{Text}
use Rattle.ts_core.specs.declared.facts.time_unit.TimeUnit.{TimeUnit}
use Rattle.ts_store.specs.write.LineTexts.{refusal_text}
use Rattle.ts_store.specs.store.WholeStates.{WholeState, TakesText, StopsInText}
use Rattle.ts_store.specs.declared.write.write_text.LineOutcome.{LineOutcome}

-- ---- lines, whose timestamps have a precision, at a moment

module _ (precision : TimeUnit) (now : ℤ) where
  -- Lines one after another, with the outcome of each.
  abbrev pub TakesLines : WholeState → List Text → List LineOutcome → WholeState → Type 0
  TakesLines old [] [] new = new ≡ old
  TakesLines old (text ∷ texts) (o ∷ os) new =
      (mid : WholeState) × TakesText precision now old text o mid × TakesLines mid texts os new
  TakesLines old [] (o ∷ os) new = ⊥
  TakesLines old (text ∷ texts) [] new = ⊥

  -- One of these lines ran out of memory; the lines before it were written, and those after it were not.
  pub record StopsAtLine (old : WholeState) (texts : List Text) (new : WholeState) : Type 0 where
    pub done : List Text
    pub line : Text
    pub others : List Text
    pub lines_are : texts ≡ done ++ (line ∷ others)
    pub outcomes : List LineOutcome
    pub mid : WholeState
    pub took : TakesLines old done outcomes mid
    pub stopped : StopsInText precision now mid line new

-- ---- the body

-- a byte before the first line
abbrev pub onto_first_reply : ℕ → List Text → List Text
onto_first_reply b [] = (b ∷ []) ∷ []
onto_first_reply b (line ∷ lines) = (b ∷ line) ∷ lines

-- the lines of a body, between its LFs; the last LF is followed by another line, which may be blank
abbrev pub body_lines : Text → List Text
body_lines [] = [] ∷ []
body_lines (b ∷ bs) = if b == 10 then [] ∷ body_lines bs else onto_first_reply b (body_lines bs)

-- ---- the report

-- the lines that were refused, by their numbers, with the texts of their faults
abbrev pub refusals_from : ℕ → List (Option Text) → List (ℕ × Text)
refusals_from n [] = []
refusals_from n (None ∷ os) = refusals_from (n + 1) os
refusals_from n (Some text ∷ os) = (n, text) ∷ refusals_from (n + 1) os

-- the refusals of outcomes, counted from 1
abbrev pub refusals_of : List LineOutcome → List (ℕ × Text)
refusals_of outcomes = refusals_from 1 (map refusal_text outcomes)

-- the first refused line, and the number of refused lines
abbrev pub partial_text : ℕ × Text → ℕ → Text
partial_text first n =
    codes "partial write: line " ++ (decimal first.0 ++ (codes ": " ++ (first.1 ++ (codes "; dropped=" ++ decimal n))))
