-- Ends of tokens, and of the text between quotes.
-- (Own rule.)
use Rattle.std.specs.Prelude.{◌≡◌, ℕ, ◌+◌, ◌-◌, ◌≤◌, true}
use Rattle.std.specs.Str.{IsCharBoundary}
use Rattle.ts_core.specs.text.Cursors.{IsOffsetFrom}
use Rattle.ts_core.specs.facts.Facts.{Text}
use Rattle.ts_ql.specs.declared.token.Kind.{Kind}
use Rattle.ts_ql.specs.Lexing.{is_quoted}

-- the text between the first and the last byte is a whole text
pub record HasInnerText (text : Text) (start end : ℕ) : Type 0 where
  pub long : start + 2 ≤ end
  pub first : IsCharBoundary text (start + 1)
  pub last : IsCharBoundary text (end - 1)

-- a token isn't empty, and a quoted one has a text between its quotes
pub record IsTokenFrom (text : Text) (start : ℕ) (shape : Kind × ℕ) : Type 0 where
  pub end : IsOffsetFrom text (start + 1) shape.1
  pub inner : is_quoted shape.0 ≡ true → HasInnerText text start shape.1
