-- Creating a key of a finite map, and changing the parts of a cell. (Own rules.)
use Rattle.std.specs.Prelude.{ℕ, Option, Some, None}
use Rattle.std.specs.declared.cmp.Ordering.{Ordering}
use Rattle.std.specs.FinMap.{FinMap, get, insert}
use Rattle.ts_core.specs.lists.Changes.{joined_within}
use Rattle.ts_core.specs.store.TwoParts.{PartsOf, in_frozen, in_live, with_live}
use Rattle.ts_cells.specs.declared.parts.Change.{Change}
use Rattle.ts_cells.specs.declared.parts.Change.TheVariants.{Freeze, Add, Correct}

abbrev pub inserted_unless : {K X : Type 0} {R : K → K → Ordering} → FinMap R X → K → X → Option X → FinMap R X
inserted_unless m k x None = insert m k x
inserted_unless m k x (Some y) = m

-- sets the value of a key unless it has one
abbrev pub inserted_if_absent : {K X : Type 0} {R : K → K → Ordering} → FinMap R X → K → X → FinMap R X
inserted_if_absent m k x = inserted_unless m k x (get m k)

-- the parts of a cell after a change
abbrev pub parts_after : {P : Type 0} → (P → ℕ) → (P → P → P) → Change P → PartsOf P → PartsOf P
parts_after size join (Freeze part) = in_frozen (joined_within size join part)
parts_after size join (Add part) = in_live (joined_within size join part)
parts_after size join (Correct live) = with_live live
