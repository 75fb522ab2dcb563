-- Slots of the group table in byte order of their values, each with rows if its group has data. (Own rules.)
use Rattle.std.specs.Prelude.{T, List, [], ◌∷◌, Option, Some, None}
use Rattle.std.specs.FinMap.{is_sorted}
use Rattle.ts_core.specs.facts.Facts.{Text}
use Rattle.ts_core.specs.aggregates.Aggregates.{Aggregate}
use Rattle.ts_core.specs.queries.Answers.{group_cmp}
use Rattle.ts_exec.specs.GroupTables.{Table}

abbrev pub Slots : Type 0
Slots = List (List Text × Option (List Aggregate))

abbrev pub AreSlots : Slots → Type 0
AreSlots slots = T (is_sorted group_cmp slots)

-- prepends a group, if it has data
abbrev pub with_made : List Text → Option (List Aggregate) → Table → Table
with_made g None t = t
with_made g (Some rows) t = (g, rows) ∷ t

-- the groups that have data
abbrev pub made : Slots → Table
made [] = []
made (slot ∷ slots) = with_made slot.0 slot.1 (made slots)
