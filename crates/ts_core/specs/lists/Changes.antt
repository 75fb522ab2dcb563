-- Changing the value of one key of a finite map, and merging parts up to a size. (Own rules.)
use Rattle.std.specs.Prelude.{ℕ, ◌+◌, ◌^◌, nat_lt, Option, Some, None, if◌then◌else◌}
use Rattle.std.specs.declared.cmp.Ordering.{Ordering}
use Rattle.std.specs.FinMap.{FinMap, get, insert}

abbrev pub with_change : {K X : Type 0} {R : K → K → Ordering} → FinMap R X → K → (X → X) → Option X → FinMap R X
with_change m k f None = m
with_change m k f (Some x) = insert m k (f x)

-- changes the value of a key, if the map has it
abbrev pub changed : {K X : Type 0} {R : K → K → Ordering} → FinMap R X → K → (X → X) → FinMap R X
changed m k f = with_change m k f (get m k)

abbrev pub or_else : {X : Type 0} → X → Option X → X
or_else x None = x
or_else x (Some y) = y

-- merges a part, if the sizes add up to at most 2^62; else changes nothing
abbrev pub joined_within : {P : Type 0} → (P → ℕ) → (P → P → P) → P → P → P
joined_within size join part c = if nat_lt (2 ^ 62) (size c + size part) then c else join c part
