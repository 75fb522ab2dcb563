-- Transitions of a store's content that add and drop rules, and their laws. (Own rules.)
use Rattle.std.specs.Prelude.{◌≡◌, ℕ, ◌<◌, ℤ, pos, filter, map, ◌+ℤ◌, ◌≤ℤ◌, ◌<ℤ◌, ◌≤◌, ◌^◌, unsigned_abs, FitsSigned, Bool, true, IsTrue, List, [], ◌∷◌, ◌++◌, length, Some, None}
use Rattle.std.specs.Int.{int_max, w64}
use Rattle.std.specs.List.{remove}
use Rattle.std.specs.FinMap as finmap
use Rattle.ts_core.specs.lists.Members.{Among}
use Rattle.ts_core.specs.facts.Facts.{Text, Fact}
use Rattle.ts_core.specs.facts.Times.{least_time}
use Rattle.ts_core.specs.settings.Settings.{Rule, Settings, Outlasts, is_unnamed}
use Rattle.ts_core.specs.settings.SettingsFaults.{settings_fault, added_fault, is_named}
use Rattle.ts_core.specs.store.History.{History, AddRule, DropRule, settings_of, raw_mark, IsLawful}
use Rattle.ts_core.specs.aggregates.Aggregates.{empty_aggregate}
use Rattle.ts_core.specs.store.Cells.{Cell, cell_of, is_rolled, total_of}
use Rattle.ts_core.specs.store.Marks.{index_of, first_from, low_of, since_added, start_of_rule, IsFirstFrom, IsGreatestLeft}
use Rattle.ts_core.specs.moves.Runs.{steps_left}
use Rattle.ts_core.specs.store.StoreStates.{CellParts, facts_of}
use Rattle.ts_core.specs.store.StoreData.{CellMap, RuleData, StoreData, store_settings, state_of, AreLive, GoesOn}

-- ---- a rule is added

-- the cells of a new rule: those of the raw facts from its low index on, with empty frozen parts, and none below
pub record IsFresh (r : Rule) (low : ℤ) (facts : List Fact) (m : CellMap) : Type 0 where
  pub there : (f : Fact)
      → Among f facts → is_rolled r f ≡ true → low ≤ℤ (cell_of r f).index → finmap.get m (cell_of r f) ≡ None → ⊥
  pub above : (k : Cell) → k.index <ℤ low → finmap.get m k ≡ None
  pub frozen : (k : Cell) (p : CellParts) → finmap.get m k ≡ Some p → p.frozen ≡ empty_aggregate
  pub live : (k : Cell) (p : CellParts) → finmap.get m k ≡ Some p → p.live ≡ total_of r k facts

abbrev pub rule_added : Rule → ℤ → CellMap → StoreData → StoreData
rule_added r low m k = record k { rules = k.rules ++ record { rule = r; low = low; cells = m } ∷ [] }

-- ---- a rule is dropped

-- the rule doesn't have the name
abbrev pub stays_without : Text → RuleData → Bool
stays_without name r = is_unnamed name r.rule

-- The rule at an index has the name, and no other rule has it. So dropping the name removes the rule with this index.
pub record IsRuleAt (name : Text) (rules : List Rule) (index : ℕ) : Type 0 where
  pub inside : index < length rules
  pub named : IsTrue (is_named rules name)
  pub without : filter (is_unnamed name) rules ≡ remove rules index
  pub data_without : (all : List RuleData)
      → map (λ (r : RuleData). r.rule) all ≡ rules → filter (stays_without name) all ≡ remove all index

abbrev pub rule_dropped : Text → StoreData → StoreData
rule_dropped name k = record k { rules = filter (stays_without name) k.rules }

-- ---- laws

-- adding a valid rule is an event of the history, if its low index is the first bucket at or above the raw mark
abbrev pub RuleAdded : Type 0
RuleAdded = (k : StoreData) (r : Rule) (m : CellMap)
    → added_fault (store_settings k) r ≡ None → IsFresh r (first_from r k.raw_mark) (facts_of k.columns) m
    → GoesOn k (AddRule r) (rule_added r (first_from r k.raw_mark) m k)

-- dropping an existing rule is an event of the history
abbrev pub RuleDropped : Type 0
RuleDropped = (k : StoreData) (name : Text)
    → IsTrue (is_named (store_settings k).rules name) → GoesOn k (DropRule name) (rule_dropped name k)

-- Live parts are still those of the raw facts. An added rule doesn't change the number of steps left, and a dropped one
-- doesn't raise it.
pub record RulesKeep : Type 0 where
  pub added_live : (k : StoreData) (r : Rule) (low : ℤ) (m : CellMap) → IsFresh r low (facts_of k.columns) m
      → AreLive k.columns k.rules → AreLive k.columns (rule_added r low m k).rules
  pub dropped_live : (k : StoreData) (name : Text)
      → AreLive k.columns k.rules → AreLive k.columns (rule_dropped name k).rules
  pub added_left : (k : StoreData) (r : Rule) (low : ℤ) (m : CellMap)
      → IsFresh r low (facts_of k.columns) m → steps_left (state_of (rule_added r low m k)) ≡ steps_left (state_of k)
  pub dropped_left : (k : StoreData) (name : Text)
      → steps_left (state_of (rule_dropped name k)) ≤ steps_left (state_of k)

-- after a lawful history the settings have no fault
abbrev pub SettingsStayFaultless : Type 0
SettingsStayFaultless = (opening : Settings) (h : History)
    → IsLawful opening h → settings_fault (settings_of opening h) ≡ None

-- `first_from` is the first bucket that starts at or above a time
abbrev pub StartsAtFirst : Type 0
StartsAtFirst = (r : Rule) (t : ℤ) → pos 1 ≤ℤ r.interval → IsFirstFrom r t (first_from r t)

-- A low index is the greater of two: the starting index of its rule, and the index of the greatest time left by the
-- begins since then.
abbrev pub LowsAre : Type 0
LowsAre = (opening : Settings) (h : History) (r : Rule) → pos 1 ≤ℤ r.interval
    → (m : ℤ) × IsGreatestLeft r.duration (since_added r.name h) m
    × (low_of opening h r ≡ int_max (start_of_rule opening h r) (index_of r m))

-- Bucket indices fit 64 bits, for valid times and for these less a duration, if the interval is at least a second.
pub record IndicesFit : Type 0 where
  pub bucket : (r : Rule) (t : ℤ)
      → pos 1000000000 ≤ℤ r.interval → FitsSigned w64 r.offset → unsigned_abs t ≤ 2 ^ 65 → FitsSigned w64 (index_of r t)
  pub first : (r : Rule) (t : ℤ) → pos 1000000000 ≤ℤ r.interval
      → FitsSigned w64 r.offset → unsigned_abs t ≤ 2 ^ 65 → FitsSigned w64 (first_from r t)

-- a low index is at least the bucket of the least time, and at most the bucket after that of the raw mark
abbrev pub LowsAreNear : Type 0
LowsAreNear = (opening : Settings) (h : History) (r : Rule)
    → pos 1 ≤ℤ r.interval → Outlasts r.duration opening.raw_duration
    → (index_of r least_time ≤ℤ low_of opening h r) × (low_of opening h r ≤ℤ (index_of r (raw_mark opening h) +ℤ pos 1))
