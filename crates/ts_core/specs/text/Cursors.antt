-- Byte offsets in a text. (Own rule.)
use Rattle.std.specs.Prelude.{◌≤◌, ℕ, List, length}
use Rattle.std.specs.Str.{IsCharBoundary}

-- an offset at or after another, at a character boundary
pub record IsOffsetFrom (text : List ℕ) (from at : ℕ) : Type 0 where
  pub order : from ≤ at
  pub within : at ≤ length text
  pub boundary : IsCharBoundary text at
