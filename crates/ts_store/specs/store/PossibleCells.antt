-- The existing cells of a rule: each is one that a valid time and some tag values have. With the range of times, the
-- interval and the offset of a rule, the index of such a cell fits in 64 bits. (Own rules.)
use Rattle.std.specs.Prelude.{◌≡◌, ℤ, List, length}
use Rattle.std.specs.FinMap as finmap
use Rattle.std.specs.List.{AllByRecursion}
use Rattle.ts_core.specs.lists.Members.{Among}
use Rattle.ts_core.specs.facts.Times.{IsTime}
use Rattle.ts_core.specs.settings.Settings.{Rule}
use Rattle.ts_core.specs.store.Marks.{index_of}
use Rattle.ts_core.specs.store.Cells.{Cell}
use Rattle.ts_core.specs.store.StoreData.{CellMap, RuleData}

-- some valid time is in the bucket
abbrev pub IsBucketIndex : Rule → ℤ → Type 0
IsBucketIndex r i = (t : ℤ) × IsTime t × (index_of r t ≡ i)

-- a cell that the rule can have: its bucket contains a valid time, and its group has a value for each kept tag
pub record IsPossibleCell (r : Rule) (k : Cell) : Type 0 where
  pub index : IsBucketIndex r k.index
  pub group : length k.group ≡ length r.kept_tags

-- each cell is one that the rule can have
abbrev pub HasPossibleCells : Rule → CellMap → Type 0
HasPossibleCells r m = (k : Cell) → Among k (finmap.keys m) → IsPossibleCell r k

-- the same for each rule
abbrev pub HavePossibleCells : List RuleData → Type 0
HavePossibleCells = AllByRecursion (λ (r : RuleData). HasPossibleCells r.rule r.cells)
