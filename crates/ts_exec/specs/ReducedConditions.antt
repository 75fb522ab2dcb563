-- Conditions that have the same meaning together. (Own rules.)
use Rattle.std.specs.Prelude.{◌≡◌, Bool, false, ◌&&◌, List}
use Rattle.std.specs.List.{list_all}
use Rattle.ts_core.specs.facts.Facts.{Series}
use Rattle.ts_core.specs.queries.Queries.{Condition, meets}

abbrev pub meets_all : List Condition → Series → Bool
meets_all conditions s = list_all (meets s) conditions

-- the same series meet all of these and all of those
abbrev pub AreMetAlike : List Condition → List Condition → Type 0
AreMetAlike these those = (s : Series) → meets_all these s ≡ meets_all those s

abbrev pub IsMetByNone : List Condition → Type 0
IsMetByNone conditions = (s : Series) → meets_all conditions s ≡ false

-- no series meets both
abbrev pub Contradicts : Condition → Condition → Type 0
Contradicts a b = (s : Series) → (meets s a && meets s b) ≡ false
