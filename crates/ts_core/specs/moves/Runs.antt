-- The number of steps that a retention run still takes. Each waiting column takes a step, and so do each 256 expired
-- cells of a rule, and the end. (Own rules.)
use Rattle.std.specs.Prelude.{◌≡◌, ℕ, ◌+◌, ◌≤◌, ◌/◌, int_lt, Bool, true, false, List, [], ◌∷◌, filter, length, if◌then◌else◌}
use Rattle.ts_core.specs.store.Cells.{Cell}
use Rattle.ts_core.specs.store.StoreStates.{RuleCells, StoreState}

-- n cells in batches of at most 256
abbrev pub batches_of : ℕ → ℕ
batches_of n = (n + 255) / 256

-- the number of a rule's cells below its low index
abbrev pub expired_count : RuleCells → ℕ
expired_count r = length (filter (λ (k : Cell). int_lt k.index r.low) r.cells)

abbrev pub batches_left : List RuleCells → ℕ
batches_left [] = 0
batches_left (r ∷ rs) = batches_of (expired_count r) + batches_left rs

abbrev pub steps_left : StoreState → ℕ
steps_left s = if s.running then length s.waiting + batches_left s.rules + 1 else 0

-- ---- the calls of one run, each with the steps that are left after it

-- Each call of an open run is a pair: true if it is a step, and the number of steps left after it. A step lowers that
-- number by one, and no other call raises it.
abbrev pub Falls : ℕ → List (Bool × ℕ) → Type 0
Falls left [] = Unit {0}
Falls left ((true, after) ∷ calls) = (left ≡ after + 1) × Falls after calls
Falls left ((false, after) ∷ calls) = (after ≤ left) × Falls after calls

abbrev pub count_steps : List (Bool × ℕ) → ℕ
count_steps [] = 0
count_steps ((true, after) ∷ calls) = count_steps calls + 1
count_steps ((false, after) ∷ calls) = count_steps calls

abbrev pub last_left : ℕ → List (Bool × ℕ) → ℕ
last_left left [] = left
last_left left ((step, after) ∷ calls) = last_left after calls
