-- The state of a line reader. (Own rule.)
use Rattle.std.specs.Prelude.{ℕ, List, Bool, Option, Some, None, slice_range}
use Rattle.ts_core.specs.io.ReadingAhead.{Ahead}

-- the read buffer, the line so far, and a flag that is true if the line is too long and so skipped
pub record ReaderState : Type 0 where
  pub ahead : Ahead
  pub line : List ℕ
  pub long : Bool

-- the line so far: a slice of the consumed bytes, or the copied bytes
abbrev pub line_so_far : List ℕ → Option (ℕ × ℕ) → List ℕ → List ℕ
line_so_far used (Some borrowed) kept = slice_range used borrowed.0 borrowed.1
line_so_far used None kept = kept
