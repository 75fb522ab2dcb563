-- The rules of a store, as they are in memory: settings, marks and rollups are lists side by side. (Own rule.)
use Rattle.std.specs.Prelude.{ℤ, List, map}
use Rattle.std.specs.List.{zip}
use Rattle.ts_core.specs.settings.Settings.{Rule}
use Rattle.ts_core.specs.store.StoreData.{CellMap, RuleData}

-- each rule with its low index and its cells
abbrev pub rules_with : List Rule → List ℤ → List CellMap → List RuleData
rules_with rs lows ms =
    map (λ (p : Rule × (ℤ × CellMap)). record { rule = p.0; low = p.1.0; cells = p.1.1 }) (zip rs (zip lows ms))
