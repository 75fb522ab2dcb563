-- A store's content as data, and the state that it represents. (Own rules.)
use Rattle.std.specs.Prelude.{◌≡◌, ℕ, ℤ, Bool, false, List, [], ◌∷◌, map, Some}
use Rattle.std.specs.List.{AllByRecursion, AllZip}
use Rattle.std.specs.FinMap as finmap
use Rattle.std.specs.FinMap.{FinMap}
use Rattle.ts_core.specs.facts.Facts.{Series, Column}
use Rattle.ts_core.specs.facts.Times.{least_time}
use Rattle.ts_core.specs.settings.Settings.{Rule, Settings}
use Rattle.ts_core.specs.store.History.{Event, History}
use Rattle.ts_core.specs.store.Marks.{Marks, index_of}
use Rattle.ts_core.specs.aggregates.Aggregates.{empty_aggregate}
use Rattle.ts_core.specs.store.Cells.{Cell, cell_cmp, total_of}
use Rattle.ts_core.specs.store.StoreStates.{ColumnPoints, CellParts, RuleCells, StoreState, StandsFor, facts_of}
use Rattle.ts_core.specs.store.Views.{Shows, view_state_of}
use Rattle.ts_core.specs.lists.Changes.{or_else}
use Rattle.ts_core.specs.store.TwoParts.{both_parts}

-- the parts of each existing cell
abbrev pub CellMap : Type 0
CellMap = FinMap cell_cmp CellParts

-- the parts of a missing cell
abbrev pub no_parts : CellParts
no_parts = both_parts empty_aggregate

-- a rule with its low index and its cells
pub record RuleData : Type 0 where
  pub rule : Rule
  pub low : ℤ
  pub cells : CellMap

-- the content of a store
pub record StoreData : Type 0 where
  -- how long raw points are kept, and the raw mark
  pub raw_duration : ℕ
  pub raw_mark : ℤ
  pub rules : List RuleData
  -- true if a run is in progress; and the columns that it hasn't moved yet
  pub running : Bool
  pub waiting : List Column
  -- the registered series, and the columns with their raw points, each in creation order
  pub series : List Series
  pub columns : List ColumnPoints
  -- the number of accepted facts, including repeats
  pub accepted : ℕ

abbrev pub store_settings : StoreData → Settings
store_settings k = record { raw_duration = k.raw_duration; rules = map (λ (r : RuleData). r.rule) k.rules }

abbrev pub store_marks : StoreData → Marks
store_marks k = record { raw = k.raw_mark; lows = map (λ (r : RuleData). r.low) k.rules }

-- Each rule stays with its low index. The relation holds of these and of the cells before and after.
abbrev pub OfEachRule : (Rule → ℤ → CellMap → CellMap → Type 0) → List RuleData → List RuleData → Type 0
OfEachRule R = AllZip (λ (a b : RuleData). (b.rule ≡ a.rule) × (b.low ≡ a.low) × R a.rule a.low a.cells b.cells)

-- ---- the state that the data represents

abbrev pub rule_cells : RuleData → RuleCells
rule_cells r = record {
  rule = r.rule;
  low = r.low;
  cells = finmap.keys r.cells;
  parts = λ k. or_else no_parts (finmap.get r.cells k);
}

abbrev pub state_of : StoreData → StoreState
state_of k = record {
  settings = store_settings k;
  marks = store_marks k;
  running = k.running;
  waiting = k.waiting;
  series = k.series;
  columns = k.columns;
  accepted = k.accepted;
  rules = map rule_cells k.rules;
}

-- before any write
abbrev pub new_data : Settings → StoreData
new_data opening = record {
  raw_duration = opening.raw_duration;
  raw_mark = least_time;
  rules = map (λ (r : Rule). record { rule = r; low = index_of r least_time; cells = finmap.empty }) opening.rules;
  running = false;
  waiting = [];
  series = [];
  columns = [];
  accepted = 0;
}

-- ---- properties of the histories that it represents

-- P holds of every history that the store represents
abbrev pub OfEachHistory : StoreData → (Settings → History → Type 0) → Type 0
OfEachHistory k P = (opening : Settings) (h : History) → StandsFor opening h (state_of k) → P opening h

-- an event happens: a store that represented a history represents it with this event
abbrev pub GoesOn : StoreData → Event → StoreData → Type 0
GoesOn old event new = OfEachHistory old (λ opening h. StandsFor opening (event ∷ h) (state_of new))

-- no event happens: the store still represents every history that it did
abbrev pub StaysFor : StoreData → StoreData → Type 0
StaysFor old new = OfEachHistory old (λ opening h. StandsFor opening h (state_of new))

-- the view of the store shows every history that the store represents
abbrev pub ShowsEach : StoreData → Type 0
ShowsEach k = OfEachHistory k (λ opening h. Shows opening h (view_state_of (state_of k)))

-- ---- live parts of all cells

-- The live part of each existing cell is the aggregate of the raw facts in it, also below the low index. `StandsFor`
-- says so from the low index on; a cell below it exists until a step removes it.
abbrev pub IsLive : List ColumnPoints → Rule → CellMap → Type 0
IsLive columns r m = (k : Cell) (p : CellParts) → finmap.get m k ≡ Some p → p.live ≡ total_of r k (facts_of columns)

-- the same for each rule
abbrev pub AreLive : List ColumnPoints → List RuleData → Type 0
AreLive columns = AllByRecursion (λ (r : RuleData). IsLive columns r.rule r.cells)
