-- An open retention run, with its range of columns and those in it that are passed. (Own rules.)
use Rattle.std.specs.Prelude.{◌≡◌, ◌<◌, ◌≤◌, ℕ, List, [], ◌∷◌, length, map, take, drop, get_or, Bool, true, false, if◌then◌else◌, Option, Some, None, IfSome, IfNone, refl}
use Rattle.std.specs.Option.{is_some}
use Rattle.std.specs.Coded.{Coded, code_by, coded×, coded_ℕ, coded_bool, coded_list}
use Rattle.ts_core.specs.facts.Facts.{Column}
use Rattle.ts_core.specs.lists.Numbered.{IsAt}
use Rattle.ts_core.specs.settings.Settings.{Settings}
use Rattle.ts_core.specs.store.Marks.{Marks}
use Rattle.ts_core.specs.store.StoreStates.{ColumnPoints, column_of}
use Rattle.ts_core.specs.store.StoreData.{StoreData}
use Rattle.ts_store.specs.store.ColumnStates.{StoreContent}
use Rattle.ts_store.specs.store.RuleLists.{rules_with}
use Rattle.ts_store.specs.rollup.Rollups.{cells_of}

-- An open run: the index of the column that it moves next, the number of columns when it began, and a flag per column.
-- The flag is true if the column is passed, that is, counts as moved already. A column without a flag isn't passed.
pub record Run : Type 0 where
  pub next : ℕ
  pub end : ℕ
  pub passed : List Bool

-- a run over this many columns, with none passed
abbrev pub run_over : ℕ → Run
run_over n = record { next = 0; end = n; passed = [] }

-- the elements whose flag isn't true
abbrev pub unflagged : {X : Type 0} → List Bool → List X → List X
unflagged [] xs = xs
unflagged (b ∷ bs) [] = []
unflagged (b ∷ bs) (x ∷ xs) = if b then unflagged bs xs else x ∷ unflagged bs xs

-- the columns that the run hasn't moved yet
abbrev pub waiting_in : Option Run → List ColumnPoints → List Column
waiting_in None columns = []
waiting_in (Some run) columns =
    unflagged (drop run.next run.passed) (map column_of (drop run.next (take run.end columns)))

-- the run is open and hasn't moved the column with this index yet
abbrev pub IsToMove : Option Run → ℕ → Type 0
IsToMove None n = ⊥
IsToMove (Some run) n = (run.next ≤ n) × (n < run.end) × (get_or run.passed n false ≡ false)

-- the run ends at an existing column
abbrev pub IsWithin : Option Run → List ColumnPoints → Type 0
IsWithin run columns = IfSome run (λ r. (r.next ≤ r.end) × (r.end ≤ length columns))

-- takes the first waiting column off a run, and returns its index; if none waits, returns none
pub record TakesFirst (old new : Option Run) (result : Option ℕ) : Type 0 where
  pub first : IfSome result (λ n. (columns : List ColumnPoints) (s : ColumnPoints)
      → IsAt columns n s → waiting_in old columns ≡ s.column ∷ waiting_in new columns)
  pub none : IfNone result ((columns : List ColumnPoints)
      → (waiting_in old columns ≡ []) × (waiting_in new columns ≡ []))
  pub within : (columns : List ColumnPoints)
      → IsWithin old columns → IsWithin new columns × IfSome result (λ n. n < length columns)
  pub running : is_some new ≡ is_some old

-- each column from an index to another is passed
abbrev pub ArePassed : List Bool → ℕ → ℕ → Type 0
ArePassed passed from to = (n : ℕ) → from ≤ n → n < to → get_or passed n false ≡ true

-- a run of these parts, if it is open
abbrev pub run_of : Bool → ℕ → ℕ → List Bool → Option Run
run_of running next end passed = if running then Some (record { next = next; end = end; passed = passed }) else None

abbrev pub coded_run : Coded Run
coded_run = code_by (ℕ × (ℕ × List Bool)) (coded× coded_ℕ (coded× coded_ℕ (coded_list coded_bool)))
    (λ r. (r.next, (r.end, r.passed))) (λ p. record { next = p.0; end = p.1.0; passed = p.1.1 }) (λ _. refl)

-- the data of a store with these parts
abbrev pub data_of_parts : Settings → Marks → ℕ → StoreContent → Option Run → StoreData
data_of_parts settings marks n held run = record {
  raw_duration = settings.raw_duration;
  raw_mark = marks.raw;
  rules = rules_with settings.rules marks.lows (cells_of held.rollups);
  running = is_some run;
  waiting = waiting_in run held.columns;
  series = held.series;
  columns = held.columns;
  accepted = n;
}
