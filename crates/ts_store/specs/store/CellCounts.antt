-- The number of facts of a cell, in both parts. `StandsFor` doesn't restrict cells below a low index, which exist until
-- a step removes them. So the limit of their counts is an invariant of its own. (Own rule.)
use Rattle.std.specs.Prelude.{ℕ, ◌+◌, ◌≤◌, List, length, filter}
use Rattle.std.specs.FinMap as finmap
use Rattle.std.specs.List.{AllByRecursion}
use Rattle.ts_core.specs.settings.Settings.{Rule}
use Rattle.ts_core.specs.store.Cells.{Cell, is_in_cell}
use Rattle.ts_core.specs.lists.Changes.{or_else}
use Rattle.ts_core.specs.store.StoreStates.{ColumnPoints, facts_of}
use Rattle.ts_core.specs.store.StoreData.{CellMap, no_parts, RuleData}

-- the number in its frozen part
abbrev pub frozen_count : CellMap → Cell → ℕ
frozen_count m k = (or_else no_parts (finmap.get m k)).frozen.count

-- the number of the columns' raw facts
abbrev pub live_count : Rule → Cell → List ColumnPoints → ℕ
live_count r k columns = length (filter (is_in_cell r k) (facts_of columns))

-- each cell of a rule has at most n facts
abbrev pub HoldsFew : ℕ → List ColumnPoints → Rule → CellMap → Type 0
HoldsFew n columns r m = (k : Cell) → frozen_count m k + live_count r k columns ≤ n

-- the same for each rule
abbrev pub HoldFew : ℕ → List ColumnPoints → List RuleData → Type 0
HoldFew n columns = AllByRecursion (λ (r : RuleData). HoldsFew n columns r.rule r.cells)
