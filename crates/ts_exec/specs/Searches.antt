-- Binary search for a group. (Own rule.)
use Rattle.std.specs.Prelude.{◌≡◌, ◌<◌, ℕ, List, Option, Result, MatchResult, length}
use Rattle.std.specs.declared.cmp.Ordering.TheVariants.{Less, Equal, Greater}
use Rattle.std.specs.List.{HoldsAt}
use Rattle.std.specs.List.Sorted.{IsPartitionPoint}
use Rattle.ts_core.specs.facts.Facts.{Text}
use Rattle.ts_core.specs.aggregates.Aggregates.{Aggregate}
use Rattle.ts_core.specs.queries.Answers.{group_cmp}
use Rattle.ts_exec.specs.Slots.{Slots}

abbrev pub IsSlotOfGroup : List Text → Slots → Result ℕ ℕ → Type 0
IsSlotOfGroup g slots row_index =
    MatchResult row_index (HoldsAt (λ (e : List Text × Option (List Aggregate)). group_cmp e.0 g ≡ Equal) slots)
    (IsPartitionPoint (λ (e : List Text × Option (List Aggregate)). group_cmp e.0 g ≡ Less)
    (λ (e : List Text × Option (List Aggregate)). group_cmp e.0 g ≡ Greater) slots)

-- slot i has the group
pub record HoldsGroup (g : List Text) (slots : Slots) (i : ℕ) : Type 0 where
  pub within : i < length slots
  pub is : HoldsAt (λ (e : List Text × Option (List Aggregate)). group_cmp e.0 g ≡ Equal) slots i
