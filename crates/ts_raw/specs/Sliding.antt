-- Blocks by their offsets in the bytes. (Own rule.)
use Rattle.std.specs.Prelude.{ℕ, ◌+◌, ◌-◌, ◌<◌, ◌≤◌, ◌⊎◌, List, [], ◌∷◌, length, slice_index_or}
use Rattle.std.specs.List.{AllByRecursion}
use Rattle.ts_raw.specs.declared.block_handle.BlockHandle.{BlockHandle}

-- the number of bytes of the blocks
abbrev pub bytes_in_blocks : List BlockHandle → ℕ
bytes_in_blocks [] = 0
bytes_in_blocks (m ∷ ms) = (m.end - m.start) + bytes_in_blocks ms

-- each block starts before this offset
abbrev pub AllStartBefore : ℕ → List BlockHandle → Type 0
AllStartBefore offset ms = AllByRecursion (λ (m : BlockHandle). m.start < offset) ms

-- no block starts from one offset, inclusive, to another, exclusive
abbrev pub NoneStartBetween : ℕ → ℕ → List BlockHandle → Type 0
NoneStartBetween from to ms = AllByRecursion (λ (m : BlockHandle). (m.start < from) ⊎ (to ≤ m.start)) ms

-- the block at this index is the first in the bytes that starts at the offset or after it
abbrev pub IsNextBlock : ℕ → List BlockHandle → ℕ → Type 0
IsNextBlock from ms at = (at < length ms) × ((d : BlockHandle)
    → (from ≤ (slice_index_or ms at d).start) × NoneStartBetween from (slice_index_or ms at d).start ms)
