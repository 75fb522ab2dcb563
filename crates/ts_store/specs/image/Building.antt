-- A store from parts: settings, marks, columns with their points, and frozen parts of cells. All that follows from
-- these, such as live parts, is computed. (Own rules.)
use Rattle.std.specs.Prelude.{◌≡◌, ℕ, ℤ, pos, ◌+ℤ◌, ◌≤◌, ◌≤ℤ◌, ◌^◌, Bool, true, false, List, [], ◌∷◌, ◌++◌, length, map, filter, set, get_or, None, refl}
use Rattle.std.specs.FinMap as finmap
use Rattle.std.specs.List.{AllByRecursion, AllZip, zip}
use Rattle.std.specs.Coded.{Coded, code_by, coded×, coded_ℕ, coded_ℤ, coded_list, coded_bool}
use Rattle.ts_core.specs.lists.Members.{Among}
use Rattle.ts_core.specs.facts.Facts.{Series, Column, Fact}
use Rattle.ts_core.specs.settings.Settings.{Rule, Settings}
use Rattle.ts_core.specs.facts.Times.{least_time}
use Rattle.ts_core.specs.store.Marks.{Marks, index_of}
use Rattle.ts_core.specs.aggregates.Aggregates.{Aggregate, empty_aggregate}
use Rattle.ts_core.specs.store.Cells.{Cell, cell_of, is_rolled}
use Rattle.ts_core.specs.store.StoreStates.{ColumnPoints, facts_of}
use Rattle.ts_core.specs.store.StoreCodes.{coded_rule, coded_series, coded_column_points, coded_cell_map}
use Rattle.ts_core.specs.store.StoreData.{CellMap, RuleData, StoreData, OfEachRule, store_settings, store_marks, AreLive}
use Rattle.ts_store.specs.store.CellCounts.{HoldFew}
use Rattle.ts_store.specs.store.PossibleCells.{HavePossibleCells}
use Rattle.ts_store.specs.write.LinesPut.{PutsCells}
use Rattle.ts_store.specs.store.RuleLists.{rules_with}

-- a store under construction
pub record Built : Type 0 where
  pub settings : Settings
  pub marks : Marks
  pub running : Bool
  pub accepted : ℕ
  -- the registered series, and the columns with their points, each in creation order
  pub series : List Series
  pub columns : List ColumnPoints
  -- for each column, true if it waits for the open run
  pub waits : List Bool
  -- the cells of each rule; live parts are empty
  pub cells : List CellMap

abbrev pub new_built : Settings → Marks → ℕ → Bool → Built
new_built settings marks accepted running = record {
  settings = settings;
  marks = marks;
  running = running;
  accepted = accepted;
  series = [];
  columns = [];
  waits = [];
  cells = map (λ (r : Rule). finmap.empty) settings.rules;
}

-- ---- parts are appended

abbrev pub with_built_series : Series → Built → Built
with_built_series s b = record b { series = b.series ++ s ∷ [] }

abbrev pub with_built_column : ColumnPoints → Bool → Built → Built
with_built_column c waits b = record b { columns = b.columns ++ c ∷ []; waits = b.waits ++ waits ∷ [] }

-- the cells of the rule with this index
abbrev pub cell_map_at : List CellMap → ℕ → CellMap
cell_map_at ms rule = get_or ms rule finmap.empty

-- a cell of the rule with this index, with a frozen part
abbrev pub with_built_cell : ℕ → Cell → Aggregate → Built → Built
with_built_cell rule k frozen b = record b {
  cells = set b.cells rule
      (finmap.insert (cell_map_at b.cells rule) k (record { frozen = frozen; live = empty_aggregate }));
}

-- ---- conditions for a store of the parts

-- a low index: at least that of the least time, and at most one more than that of the raw mark
pub record IsLowIndex (mark : ℤ) (r : Rule) (low : ℤ) : Type 0 where
  pub least : index_of r least_time ≤ℤ low
  pub most : low ≤ℤ (index_of r mark +ℤ pos 1)

-- each rule has one
abbrev pub AreLowIndices : ℤ → List Rule → List ℤ → Type 0
AreLowIndices mark = AllZip (IsLowIndex mark)

-- each rule with its low index and the cells that were added
abbrev pub built_rules : Built → List RuleData
built_rules b = rules_with b.settings.rules b.marks.lows b.cells

-- No count overflows, each rule has a low index, and each cell is one that its rule can have. No column waits unless a
-- run is in progress.
pub record IsBuildable (b : Built) : Type 0 where
  pub accepted : b.accepted ≤ 2 ^ 62
  pub facts : length (facts_of b.columns) ≤ b.accepted
  pub lows : AreLowIndices b.marks.raw b.settings.rules b.marks.lows
  pub counts : HoldFew b.accepted b.columns (built_rules b)
  pub possible : HavePossibleCells (built_rules b)
  pub idle : b.running ≡ false → AllByRecursion (λ (w : Bool). w ≡ false) b.waits

-- ---- the store of the parts

-- the columns that wait, in creation order
abbrev pub waiting_of : List ColumnPoints → List Bool → List Column
waiting_of columns waits =
    map (λ (p : ColumnPoints × Bool). p.0.column) (filter (λ (p : ColumnPoints × Bool). p.1) (zip columns waits))

-- the rule has the cell of each of these facts, from the low index on
abbrev pub HasCellsOf : List Fact → Rule → ℤ → CellMap → Type 0
HasCellsOf facts r low m = (f : Fact)
    → Among f facts → is_rolled r f ≡ true → low ≤ℤ (cell_of r f).index → finmap.get m (cell_of r f) ≡ None → ⊥

-- the same for each rule
abbrev pub HaveCells : List Fact → List RuleData → Type 0
HaveCells facts = AllByRecursion (λ (r : RuleData). HasCellsOf facts r.rule r.low r.cells)

-- The store has these parts. Besides the cells of the parts it has those of raw facts from the low index on, and no
-- others. Frozen parts are those of the parts, and live parts those of the raw facts.
pub record IsBuiltFrom (b : Built) (k : StoreData) : Type 0 where
  pub settings : store_settings k ≡ b.settings
  pub marks : store_marks k ≡ b.marks
  pub running : k.running ≡ b.running
  pub accepted : k.accepted ≡ b.accepted
  pub series : k.series ≡ b.series
  pub columns : k.columns ≡ b.columns
  pub waiting : k.waiting ≡ waiting_of b.columns b.waits
  pub cells : OfEachRule (PutsCells (facts_of b.columns)) (built_rules b) k.rules
  pub has_cells : HaveCells (facts_of b.columns) k.rules
  pub live : AreLive b.columns k.rules

-- ---- codes

abbrev pub coded_built : Coded Built
coded_built =
    code_by ((ℕ × List Rule)
    × ((ℤ × List ℤ) × (Bool × (ℕ × (List Series × (List ColumnPoints × (List Bool × List CellMap)))))))
    (coded× (coded× coded_ℕ (coded_list coded_rule)) (coded×
    (coded× coded_ℤ (coded_list coded_ℤ)) (coded× coded_bool (coded× coded_ℕ (coded× (coded_list coded_series)
    (coded× (coded_list coded_column_points) (coded× (coded_list coded_bool) (coded_list coded_cell_map))))))))
    (λ b. (
      (b.settings.raw_duration, b.settings.rules),
      ((b.marks.raw, b.marks.lows), (b.running, (b.accepted, (b.series, (b.columns, (b.waits, b.cells)))))),
    ))
    (λ p. record {
      settings = record { raw_duration = p.0.0; rules = p.0.1 };
      marks = record { raw = p.1.0.0; lows = p.1.0.1 };
      running = p.1.1.0;
      accepted = p.1.1.1.0;
      series = p.1.1.1.1.0;
      columns = p.1.1.1.1.1.0;
      waits = p.1.1.1.1.1.1.0;
      cells = p.1.1.1.1.1.1.1;
    })
    (λ _. refl)
