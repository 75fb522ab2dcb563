-- Times in a query's range. (Own rule.)
use Rattle.std.specs.Prelude.{ℤ, pos, negsuc, ◌≤ℤ◌}

-- a signed 64-bit number
abbrev pub IsInstant : ℤ → Type 0
IsInstant p = (negsuc 9223372036854775807 ≤ℤ p) × (p ≤ℤ pos 9223372036854775807)
