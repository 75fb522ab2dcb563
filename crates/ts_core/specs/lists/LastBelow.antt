-- The last index below n that passes a test. (Own rule.)
use Rattle.std.specs.Prelude.{ℕ, zero, suc, Bool, List, Option, Some, None, if◌then◌else◌, ◌==◌, slice_index_or}

-- the greatest number below n that passes
unfoldable pub last_below : (ℕ → Bool) → ℕ → Option ℕ
last_below p zero = None
last_below p (suc n) = if p n then Some n else last_below p n

-- the last index below n whose item passes
abbrev pub last_with : {X : Type 0} → X → (X → Bool) → List X → ℕ → Option ℕ
last_with d p xs n = last_below (λ i. p (slice_index_or xs i d)) n

-- the last index below n with this hash
abbrev pub newest_of : List ℕ → ℕ → ℕ → Option ℕ
newest_of hashes hash n = last_with 0 (λ h. h == hash) hashes n
