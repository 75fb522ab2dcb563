-- The transitions of a store's content. A run begins, moves a column, removes cells and ends; the series, columns and
-- cells of a line are created, and its facts are inserted. (Own rules.)
use Rattle.std.specs.Prelude.{◌≡◌, ◌⊎◌, ◌+◌, ℕ, ℤ, ◌≤ℤ◌, ◌<ℤ◌, true, false, Some, None, int_lt, int_le, List, [], ◌∷◌, filter, map, if◌then◌else◌}
use Rattle.std.specs.Int.{int_max}
use Rattle.std.specs.FinMap as finmap
use Rattle.ts_core.specs.lists.Members.{Among, AllDistinct}
use Rattle.ts_core.specs.lists.Beside.{changed_beside}
use Rattle.ts_core.specs.store.History.{kept_since}
use Rattle.ts_core.specs.store.Marks.{index_of}
use Rattle.ts_core.specs.facts.Facts.{Series, Column, Fact, same_text, id_of, same_id}
use Rattle.ts_core.specs.settings.Settings.{Rule}
use Rattle.ts_core.specs.aggregates.Aggregates.{aggregate_of_one, merged_within}
use Rattle.ts_core.specs.store.Cells.{Cell, cell_of, is_rolled, total_of}
use Rattle.ts_core.specs.store.StoreStates.{ColumnPoints, CellParts, column_of, fact_at, facts_of}
use Rattle.ts_core.specs.store.RawFacts.{same_column}
use Rattle.ts_core.specs.store.TwoParts.{in_frozen, with_live}
use Rattle.ts_core.specs.lists.Changes.{changed, or_else}
use Rattle.ts_core.specs.store.StoreData.{CellMap, no_parts, RuleData, StoreData, OfEachRule}

-- changes the cells of a rule
abbrev pub in_cells : (Rule → CellMap → CellMap) → RuleData → RuleData
in_cells f r = record r { cells = f r.rule r.cells }

-- ---- a step moves a column: points below the raw mark are frozen, and the live parts of their cells are folded anew

-- merges each point into its cell, if that exists
abbrev pub frozen_points : Rule → Column → List (ℤ × ℤ) → CellMap → CellMap
frozen_points r c [] m = m
frozen_points r c (p ∷ ps) m =
    frozen_points r c ps (changed m (cell_of r (fact_at c p)) (in_frozen (merged_within (aggregate_of_one p.0 p.1))))

-- folds the live part of a cell anew from the raw facts, if the cell exists
abbrev pub refolded : Rule → Cell → List Fact → CellMap → CellMap
refolded r k facts m = changed m k (with_live (total_of r k facts))

-- the same for the cell of each point
abbrev pub refolded_points : Rule → Column → List (ℤ × ℤ) → List Fact → CellMap → CellMap
refolded_points r c [] facts m = m
refolded_points r c (p ∷ ps) facts m = refolded_points r c ps facts (refolded r (cell_of r (fact_at c p)) facts m)

-- if the column is of the rule's measurement, freezes its points, and folds the live parts of their cells anew from the
-- remaining raw facts
abbrev pub moved_cells : Rule → Column → List (ℤ × ℤ) → List Fact → CellMap → CellMap
moved_cells r c ps facts m =
    if same_text c.series.measurement r.measurement then refolded_points r c ps facts (frozen_points r c ps m) else m

-- the same for each rule
abbrev pub all_moved : Column → List (ℤ × ℤ) → List Fact → List RuleData → List RuleData
all_moved c ps facts = map (in_cells (λ (r : Rule). moved_cells r c ps facts))

-- the points below a mark; `kept_points` leaves the others in the column
abbrev pub points_below : ℤ → List (ℤ × ℤ) → List (ℤ × ℤ)
points_below mark ps = filter (λ (p : ℤ × ℤ). int_lt p.0 mark) ps

abbrev pub kept_points : Column → ℤ → ColumnPoints → ColumnPoints
kept_points c mark s = if same_column s.column c
    then record { column = s.column; points = filter (λ (p : ℤ × ℤ). int_le mark p.0) s.points } else s

-- moves the first waiting column
abbrev pub column_moved : Column → List (ℤ × ℤ) → List Column → StoreData → StoreData
column_moved c ps rest k = record k {
  waiting = rest;
  columns = map (kept_points c k.raw_mark) k.columns;
  rules = all_moved c (points_below k.raw_mark ps) (facts_of (map (kept_points c k.raw_mark) k.columns)) k.rules;
}

-- ---- a run begins

abbrev pub raised_low : ℤ → Rule → ℤ → ℤ
raised_low now r low = int_max low (index_of r (kept_since r.duration now))

-- the low indices of these rules, raised
abbrev pub raised : ℤ → List Rule → List ℤ → List ℤ
raised now = changed_beside (raised_low now)

abbrev pub raised_rule : ℤ → RuleData → RuleData
raised_rule now r = record r { low = raised_low now r.rule r.low }

abbrev pub run_begun : ℤ → StoreData → StoreData
run_begun now k = record k {
  raw_mark = int_max k.raw_mark (kept_since k.raw_duration now);
  rules = map (raised_rule now) k.rules;
  running = true;
  waiting = map column_of k.columns;
}

-- ---- cells below the low indices are removed

-- the cells from a low index on stay
abbrev pub KeepsFrom : ℤ → CellMap → CellMap → Type 0
KeepsFrom low m n = (k : Cell) → low ≤ℤ k.index → finmap.get n k ≡ finmap.get m k

-- the same for each rule
abbrev pub Expired : List RuleData → List RuleData → Type 0
Expired = OfEachRule (λ r. KeepsFrom)

-- each cell of the second map is in the first, with the same parts
abbrev pub IsOf : CellMap → CellMap → Type 0
IsOf m n = (k : Cell) (p : CellParts) → finmap.get n k ≡ Some p → finmap.get m k ≡ Some p

-- the same for each rule
abbrev pub AreOf : List RuleData → List RuleData → Type 0
AreOf = OfEachRule (λ r low. IsOf)

abbrev pub with_rules : List RuleData → StoreData → StoreData
with_rules rs k = record k { rules = rs }

abbrev pub run_ended : StoreData → StoreData
run_ended k = record k { running = false }

-- ---- series, columns and cells are created, and facts are inserted

-- n has a cell for each fact of the rule's measurement from the low index on. Compared with m, no cell is lost, no part
-- changes, and no cell is created below the low index.
pub record GainsEmptyCells (r : Rule) (low : ℤ) (facts : List Fact) (m n : CellMap) : Type 0 where
  pub there : (f : Fact)
      → Among f facts → is_rolled r f ≡ true → low ≤ℤ (cell_of r f).index → finmap.get n (cell_of r f) ≡ None → ⊥
  pub stays : (k : Cell) → finmap.get n k ≡ None → finmap.get m k ≡ None
  pub parts : (k : Cell) → or_else no_parts (finmap.get n k) ≡ or_else no_parts (finmap.get m k)
  pub above : (k : Cell) → k.index <ℤ low → finmap.get n k ≡ finmap.get m k

-- the same for each rule
abbrev pub GainEmptyCells : List Fact → List RuleData → List RuleData → Type 0
GainEmptyCells facts = OfEachRule (λ r low. GainsEmptyCells r low facts)

-- more series, columns and cells, but no more facts
abbrev pub grown : List Series → List ColumnPoints → List RuleData → StoreData → StoreData
grown series columns rs k = record k { series = series; columns = columns; rules = rs }

-- inserts a fact, replacing the one with its id; nothing else changes
pub record Puts (before after : List Fact) (f : Fact) : Type 0 where
  pub once : AllDistinct after
  pub new : Among f after
  pub kept : (g : Fact) → Among g before → same_id (id_of g) (id_of f) ≡ false → Among g after
  pub only : (g : Fact) → Among g after → (g ≡ f) ⊎ (Among g before × (same_id (id_of g) (id_of f) ≡ false))

-- inserts the fact into its column
abbrev pub PutsFact : List ColumnPoints → List ColumnPoints → Fact → Type 0
PutsFact before after f = (map column_of after ≡ map column_of before) × Puts (facts_of before) (facts_of after) f

-- folds the live part of the fact's cell anew, if the fact is of the rule's measurement
abbrev pub put_cell : Rule → Fact → List Fact → CellMap → CellMap
put_cell r f facts m = if is_rolled r f then refolded r (cell_of r f) facts m else m

-- the same for each rule
abbrev pub put_cells : Fact → List Fact → List RuleData → List RuleData
put_cells f facts = map (in_cells (λ (r : Rule). put_cell r f facts))

-- inserts facts one after another, each into its column, and then into its cells
abbrev pub PutsFacts : List ColumnPoints → List RuleData → List ColumnPoints → List RuleData → List Fact → Type 0
PutsFacts before rs after ss [] = (after ≡ before) × (ss ≡ rs)
PutsFacts before rs after ss (f ∷ fs) = (between : List ColumnPoints)
    × PutsFact before between f × PutsFacts between (put_cells f (facts_of between) rs) after ss fs

abbrev pub put_facts : List ColumnPoints → List RuleData → ℕ → StoreData → StoreData
put_facts columns rs n k = record k { columns = columns; accepted = k.accepted + n; rules = rs }
