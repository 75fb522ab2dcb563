-- Search keys that divide valid times as a bucket's bound does. (Own rule.)
use Rattle.std.specs.Prelude.{◌≡◌, ℤ, int_lt}
use Rattle.ts_core.specs.facts.Times.{IsTime}

-- the same valid times are before both
abbrev pub IsEdgeAt : ℤ → ℤ → Type 0
IsEdgeAt moment edge = (t : ℤ) → IsTime t → int_lt t edge ≡ int_lt t moment
