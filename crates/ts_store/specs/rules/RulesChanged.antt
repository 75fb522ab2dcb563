-- A rule is added to a store, or dropped. (Own rules. InfluxData 1.8, database management: a retention policy and a
-- continuous query are created and dropped while the database is in use.)
use Rattle.std.specs.Prelude.{◌≡◌, ◌⊎◌, ◌↔◌, ◌≤◌, ℤ, false, List, [], ◌∷◌, ◌++◌, IfOk, IfSome, IsNone, OnOk, OnErr, IsErr, Result, Ok, Err}
use Rattle.ts_core.specs.declared.settings.settings_fault.SettingsError.{SettingsError}
use Rattle.ts_core.specs.declared.settings.settings_fault.SettingsError.TheVariants.{Fault, OutOfMemory}
use Rattle.ts_core.specs.facts.Facts.{Text, Fact}
use Rattle.ts_core.specs.settings.Settings.{Rule, is_unnamed}
use Rattle.ts_core.specs.settings.SettingsFaults.{added_fault, is_named}
use Rattle.ts_core.specs.store.History.{AddRule, DropRule}
use Rattle.ts_core.specs.store.Cells.{Cell}
use Rattle.ts_core.specs.store.Marks.{first_from}
use Rattle.ts_core.specs.moves.Runs.{steps_left}
use Rattle.ts_core.specs.store.StoreStates.{facts_of}
use Rattle.ts_core.specs.store.StoreData.{CellMap, StoreData, store_settings, state_of, GoesOn}
use Rattle.ts_core.specs.lists.Beside.{kept_beside}
use Rattle.ts_core.specs.moves.RuleMoves.{IsFresh, rule_added, rule_dropped}
use Rattle.ts_store.specs.store.Inventories.{Inventory, inventory_of, AreFilled}

-- ---- a rule is added

-- The inventory of a store with an added rule: one more list of cells, exactly those of the raw facts from the low
-- index on. The columns stay, and the same of them wait.
pub record GainsRule (facts : List Fact) (r : Rule) (low : ℤ) (old new : Inventory) : Type 0 where
  pub columns : new.columns ≡ old.columns
  pub waiting : new.waiting ≡ old.waiting
  pub made : List Cell
  pub cells : new.cells ≡ old.cells ++ made ∷ []
  pub filled : AreFilled facts r low made

-- The rule is last in the settings. Its low index is the first bucket that starts at or above the raw mark. It has
-- exactly the cells of the raw facts from there on. Their frozen parts are empty, and their live parts are those of the
-- raw facts. Nothing else changes, and the number of steps left of an open run stays.
pub record RuleComes (old new : StoreData) (r : Rule) (low : ℤ) : Type 0 where
  pub first : low ≡ first_from r old.raw_mark
  pub cells : CellMap
  pub fresh : IsFresh r low (facts_of old.columns) cells
  pub whole : new ≡ rule_added r low cells old
  pub history : GoesOn old (AddRule r) new
  pub inventory : GainsRule (facts_of old.columns) r low (inventory_of old) (inventory_of new)
  pub left : steps_left (state_of new) ≡ steps_left (state_of old)

-- The call that adds a rule. Without an error, the rule is added, and the result is its low index. A rule with a fault
-- is refused with this fault. A rule without one may still run out of memory. On an error, nothing changes.
pub record AddsRule (old new : StoreData) (r : Rule) (result : Result ℤ SettingsError) : Type 0 where
  pub ok : IfOk result (RuleComes old new r)
  pub err : OnErr result (new ≡ old)
  pub refused : IfSome (added_fault (store_settings old) r) (λ fault. result ≡ Err (Fault fault))
  pub taken : IsNone (added_fault (store_settings old) r) → ((low : ℤ) × (result ≡ Ok low)) ⊎ (result ≡ Err OutOfMemory)

-- ---- a rule is dropped

-- The rule with this name is removed from the settings, with its low index and its cells. Nothing else changes, and the
-- number of steps left of an open run isn't greater than before.
pub record RuleGoes (old new : StoreData) (name : Text) : Type 0 where
  pub whole : new ≡ rule_dropped name old
  pub history : GoesOn old (DropRule name) new
  pub columns : (inventory_of new).columns ≡ (inventory_of old).columns
  pub waiting : (inventory_of new).waiting ≡ (inventory_of old).waiting
  pub cells : (inventory_of new).cells
      ≡ kept_beside (is_unnamed name) (store_settings old).rules (inventory_of old).cells
  pub left : steps_left (state_of new) ≤ steps_left (state_of old)

-- The call that drops a rule. It is refused exactly if no rule has the name, and then nothing changes.
pub record DropsRule {E : Type 0} (old new : StoreData) (name : Text) (result : Result (Unit {0}) E) : Type 0 where
  pub ok : OnOk result (RuleGoes old new name)
  pub err : OnErr result (new ≡ old)
  pub unknown : IsErr result ↔ (is_named (store_settings old).rules name ≡ false)
