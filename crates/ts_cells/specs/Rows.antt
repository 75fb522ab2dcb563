-- The cells of one bucket in creation order, with the position of each rollup series' cell. (Own rules.)
use Rattle.std.specs.Prelude.{◌≡◌, ℕ, zero, suc, ◌<◌, ◌≤◌, ◌+◌, T, List, [], ◌∷◌, length, get_or, max, Option, slice_get}
use Rattle.std.specs.Ordering.{nat_cmp}
use Rattle.std.specs.FinMap.{is_sorted, find}
use Rattle.ts_core.specs.lists.Changes.{or_else}

-- marks a rollup series without a cell
abbrev pub no_slot : ℕ
no_slot = 4294967295

-- rollup series with the positions of their cells, sorted by the rollup series' indices
abbrev pub AreSortedSlots : List (ℕ × ℕ) → Type 0
AreSortedSlots slots = T (is_sorted nat_cmp slots)

-- the position of a rollup series' cell
abbrev pub slot_of : List (ℕ × ℕ) → ℕ → ℕ
slot_of slots series = or_else no_slot (find nat_cmp series slots)

-- the first index after those of the rollup series
abbrev pub slots_width : List (ℕ × ℕ) → ℕ
slots_width [] = 0
slots_width (e ∷ es) = max (e.0 + 1) (slots_width es)

-- the values of a function from 0 on
abbrev pub table : {X : Type 0} → (ℕ → X) → ℕ → List X
table f zero = []
table f (suc n) = f 0 ∷ table (λ j. f (suc j)) n

-- the part of each rollup series
abbrev pub by_series : {P : Type 0} → List P → List (ℕ × ℕ) → List (Option P)
by_series parts slots = table (λ j. slice_get parts (slot_of slots j)) (slots_width slots)

-- each cell is at the position of its rollup series, and at no other's
pub record IsSlotMap (slots : List (ℕ × ℕ)) (series_of_slot : List ℕ) (count : ℕ) : Type 0 where
  pub few : count ≤ no_slot
  pub as_many : length series_of_slot ≡ count
  pub there : (n : ℕ) → n < count → slot_of slots (get_or series_of_slot n 0) ≡ n
  pub back : (j : ℕ) → slot_of slots j < count → get_or series_of_slot (slot_of slots j) 0 ≡ j
  pub none : (j : ℕ) → count ≤ slot_of slots j → slot_of slots j ≡ no_slot
