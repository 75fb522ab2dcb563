-- Transitions and histories, for any number of rules: a store that represented a history represents it with the event
-- of the transition. (Own rules.)
use Rattle.std.specs.Prelude.{◌≡◌, ◌+◌, ◌≤◌, ℕ, ℤ, Bool, List, [], ◌∷◌, true, false, None, map, filter, length}
use Rattle.ts_core.specs.lists.Members.{Among, AllDistinct}
use Rattle.ts_core.specs.facts.Facts.{Series, Column, Fact, id_of, same_id}
use Rattle.ts_core.specs.aggregates.Aggregates.{Aggregate, aggregate_of_one, aggregate_of, merged, IsSound}
use Rattle.ts_core.specs.aggregates.Remainders.{IsOnlyRest}
use Rattle.ts_core.specs.store.Cells.{Cell, is_in_cell, total_of}
use Rattle.ts_core.specs.settings.Settings.{Rule, Settings}
use Rattle.ts_core.specs.settings.SettingsFaults.{settings_fault}
use Rattle.ts_core.specs.store.History.{Line, Begin, Step, IsLawful}
use Rattle.ts_core.specs.store.StoreStates.{ColumnPoints, StandsFor, column_of, facts_at, facts_of}
use Rattle.ts_core.specs.store.StoreData.{RuleData, StoreData, rule_cells, state_of, new_data, AreLive, OfEachHistory, GoesOn, StaysFor, ShowsEach}
use Rattle.ts_core.specs.moves.Runs.{batches_left, steps_left, Falls, count_steps, last_left}
use Rattle.ts_core.specs.moves.StoreMoves.{kept_points, points_below, PutsFact, column_moved, run_begun, Expired, AreOf, with_rules, run_ended, GainEmptyCells, grown, PutsFacts, put_facts}

-- a new store with valid settings represents the empty history
abbrev pub NewStands : Type 0
NewStands = (opening : Settings) → settings_fault opening ≡ None → StandsFor opening [] (state_of (new_data opening))

-- a run begins if none is in progress
abbrev pub RunBegins : Type 0
RunBegins = (k : StoreData) (now : ℤ) → k.running ≡ false → GoesOn k (Begin now) (run_begun now k)

-- a step moves the first of the waiting columns
abbrev pub StepMoves : Type 0
StepMoves = (k : StoreData) (c : Column) (ps : List (ℤ × ℤ)) (rest : List Column) → k.waiting ≡ c ∷ rest
    → Among (record { column = c; points = ps }) k.columns → GoesOn k (Step false) (column_moved c ps rest k)

-- a step removes cells below the low indices
abbrev pub CellsGo : Type 0
CellsGo = (k : StoreData) (rs : List RuleData) → Expired k.rules rs → GoesOn k (Step false) (with_rules rs k)

-- if no column waits, a step ends the run
abbrev pub RunEnds : Type 0
RunEnds = (k : StoreData) → k.waiting ≡ [] → GoesOn k (Step true) (run_ended k)

-- adding series, columns without points, and cells without facts doesn't change the history
abbrev pub Grows : Type 0
Grows = (k : StoreData) (series : List Series) (columns : List ColumnPoints) (rs : List RuleData) (facts : List Fact)
    → AllDistinct (map column_of columns)
    → ((c : Column) → Among c (map column_of k.columns) → Among c (map column_of columns))
    → ((c : Column) → Among c (map column_of columns) → Among c.series series)
    → facts_of columns ≡ facts_of k.columns → GainEmptyCells facts k.rules rs → StaysFor k (grown series columns rs k)

-- the facts of a line are inserted if the cells for them exist
abbrev pub LinePut : Type 0
LinePut = (k : StoreData) (columns : List ColumnPoints) (facts : List Fact) (rs ss : List RuleData)
    → GainEmptyCells facts rs k.rules → ((f : Fact) → Among f facts → Among f.column (map column_of k.columns))
    → PutsFacts k.columns k.rules columns ss facts
    → OfEachHistory k (λ opening h. IsLawful opening (Line facts ∷ h)
    → StandsFor opening (Line facts ∷ h) (state_of (put_facts columns ss (length facts) k)))

-- the view shows every history that the store represents
abbrev pub AllShow : Type 0
AllShow = (k : StoreData) → ShowsEach k

-- ---- live parts of all cells

abbrev pub IsLiveData : StoreData → Type 0
IsLiveData k = AreLive k.columns k.rules

-- The live part of each existing cell is the fold of its raw facts: in a new store, after a step, and after a write. A
-- run that begins or ends leaves columns and cells as they are.
pub record LivesKept : Type 0 where
  pub new : (opening : Settings) → IsLiveData (new_data opening)
  pub moved : (k : StoreData) (c : Column) (ps : List (ℤ × ℤ)) (rest : List Column)
      → AllDistinct (map column_of k.columns)
      → Among (record { column = c; points = ps }) k.columns → IsLiveData k → IsLiveData (column_moved c ps rest k)
  pub gone : (k : StoreData) (rs : List RuleData) → AreOf k.rules rs → IsLiveData k → IsLiveData (with_rules rs k)
  pub grown :
      (k : StoreData) (series : List Series) (columns : List ColumnPoints) (rs : List RuleData) (facts : List Fact)
      → facts_of columns ≡ facts_of k.columns → GainEmptyCells facts k.rules rs
      → IsLiveData k → OfEachHistory k (λ opening h. IsLiveData (grown series columns rs k))
  pub put : (k : StoreData) (columns : List ColumnPoints) (facts : List Fact) (ss : List RuleData) (n : ℕ)
      → AllDistinct (facts_of k.columns)
      → PutsFacts k.columns k.rules columns ss facts → IsLiveData k → IsLiveData (put_facts columns ss n k)

-- ---- ways to compute a live part

-- the fact is the only one of its id
pub record IsOldOf (before : List ColumnPoints) (f g : Fact) : Type 0 where
  pub there : Among g (facts_of before)
  pub same : id_of g ≡ id_of f
  pub only : (x : Fact) → Among x (facts_of before) → same_id (id_of x) (id_of f) ≡ true → x ≡ g

-- The live part of a cell after an insertion or a removal, from the part before, without a look at the cell's other
-- facts. A fact with a new id is merged in. If it replaces an old fact, it is merged with the rest without that, if the
-- rest is determined. After points are removed, the part is the rest without them, if that is determined.
pub record LiveWays : Type 0 where
  pub new : (before after : List ColumnPoints) (f : Fact) (r : Rule) (k : Cell)
      → AllDistinct (facts_of before) → PutsFact before after f
      → is_in_cell r k f ≡ true → ((g : Fact) → Among g (facts_of before) → same_id (id_of g) (id_of f) ≡ false)
      → total_of r k (facts_of after) ≡ merged (aggregate_of_one f.time f.value) (total_of r k (facts_of before))
  pub replaced : (before after : List ColumnPoints) (f g : Fact) (r : Rule) (k : Cell) (rest : Aggregate)
      → AllDistinct (facts_of before) → PutsFact before after f → is_in_cell r k f ≡ true → IsOldOf before f g
      → IsOnlyRest IsSound merged (total_of r k (facts_of before)) (aggregate_of_one g.time g.value) rest
      → total_of r k (facts_of after) ≡ merged (aggregate_of_one f.time f.value) rest
  pub left :
      (c : Column) (mark : ℤ) (before : List ColumnPoints) (ps : List (ℤ × ℤ)) (r : Rule) (k : Cell) (rest : Aggregate)
      → AllDistinct (map column_of before) → Among (record { column = c; points = ps }) before
      → IsOnlyRest IsSound merged
      (total_of r k (facts_of before)) (aggregate_of (filter (is_in_cell r k) (facts_at c (points_below mark ps)))) rest
      → total_of r k (facts_of (map (kept_points c mark) before)) ≡ rest

-- ---- the number of steps that are left

-- A begin leaves each column to be moved, with its points as they were. A step lowers the number by one. One step is
-- left if no column waits and no cell is below its low index. Growth and insertions don't change the number.
pub record LeftFalls : Type 0 where
  pub begins : (k : StoreData) (now : ℤ) → steps_left (state_of (run_begun now k))
      ≡ length k.columns + batches_left (map rule_cells (run_begun now k).rules) + 1
  pub waiting : (k : StoreData) (now : ℤ)
      → ((run_begun now k).waiting ≡ map column_of k.columns) × ((run_begun now k).columns ≡ k.columns)
  pub moves : (k : StoreData) (c : Column) (ps : List (ℤ × ℤ)) (rest : List Column) → k.running ≡ true
      → k.waiting ≡ c ∷ rest → steps_left (state_of k) ≡ steps_left (state_of (column_moved c ps rest k)) + 1
  pub ends : (k : StoreData) → k.running ≡ true → k.waiting ≡ [] → batches_left (map rule_cells k.rules) ≡ 0
      → (steps_left (state_of k) ≡ 1) × (steps_left (state_of (run_ended k)) ≡ 0)
  pub last : (k : StoreData)
      → k.running ≡ true → steps_left (state_of k) ≡ 1 → (k.waiting ≡ []) × (batches_left (map rule_cells k.rules) ≡ 0)
  pub grows : (k : StoreData) (series : List Series)
      (columns : List ColumnPoints) (rs : List RuleData) (facts : List Fact) → GainEmptyCells facts k.rules rs
      → steps_left (state_of (grown series columns rs k)) ≡ steps_left (state_of k)
  pub puts : (k : StoreData) (columns : List ColumnPoints) (facts : List Fact) (ss : List RuleData) (n : ℕ)
      → PutsFacts k.columns k.rules columns ss facts
      → steps_left (state_of (put_facts columns ss n k)) ≡ steps_left (state_of k)
  pub bound : (left : ℕ) (calls : List (Bool × ℕ)) → Falls left calls → count_steps calls + last_left left calls ≤ left
