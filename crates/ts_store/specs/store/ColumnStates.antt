-- Columns with their points, and the effect of committing staged points. (Own rule.)
use Rattle.std.specs.Prelude.{◌≡◌, ◌⊎◌, ℕ, ℤ, List, [], ◌∷◌, ◌++◌, ◌<◌, length, map, IsSome, Option, Some, None, Result, IfOk, OnOk, OnErr, slice_get, set, get_or, refl}
use Rattle.std.specs.List.{AllZip, zip}
use Rattle.std.specs.FinMap as finmap
use Rattle.ts_core.specs.lists.Members.{Among, AllDistinct}
use Rattle.ts_core.specs.facts.Facts.{Series, Column, Fact}
use Rattle.ts_core.specs.lists.Numbered.{IsAt}
use Rattle.ts_core.specs.store.StoreStates.{ColumnPoints, column_of, fact_at, facts_of}
use Rattle.ts_raw.specs.Columns.{PointMap, ColumnState}
use Rattle.ts_raw.specs.Indexed.{Indexed, IsSoundIndex}
use Rattle.ts_store.specs.rollup.Rollups.{RollupState, coded_rollup}
use Rattle.std.specs.Coded.{Coded, code_by, coded×, coded_list}
use Rattle.ts_core.specs.store.StoreCodes.{coded_series, coded_column_points}

abbrev pub facts_in : Column → PointMap → List Fact
facts_in c points = map (fact_at c) (finmap.entries points)

abbrev pub point_maps : List ColumnState → List PointMap
point_maps states = map (λ (s : ColumnState). s.points) states

-- the columns with their points, in creation order
abbrev pub with_points : List Column → List PointMap → List ColumnPoints
with_points cs maps =
    map (λ (p : Column × PointMap). record { column = p.0; points = finmap.entries p.1 }) (zip cs maps)

-- the columns of an index with their points
abbrev pub columns_in : Indexed → List ColumnState → List ColumnPoints
columns_in index states = with_points index.columns (point_maps states)

-- the facts of all columns
abbrev pub facts_of_columns : List Column → List PointMap → List Fact
facts_of_columns cs ms = facts_of (with_points cs ms)

abbrev pub no_column : ColumnState
no_column = record { points = finmap.empty; staged = None }

-- the column was there, or it is appended without points
abbrev pub MayGrow : Column → List Column → List ColumnState → List Column → List ColumnState → Type 0
MayGrow c columns states columns' states' =
    (Among c columns × (columns' ≡ columns) × (states' ≡ states))
    ⊎ ((Among c columns → ⊥) × (columns' ≡ columns ++ c ∷ []) × (states' ≡ states ++ no_column ∷ []))

-- the effect of a call that returns the index of a column and creates it if needed. It creates no other column and
-- registers no series; on an error, no column changes.
pub record IsColumnFor {E : Type 0} (c : Column) (before : Indexed)
    (states : List ColumnState) (after : Indexed) (states' : List ColumnState) (result : Result ℕ E) : Type 0 where
  pub number : IfOk result (λ n. IsAt after.columns n c)
  pub grown : OnOk result (MayGrow c before.columns states after.columns states')
  pub kept : OnErr result ((after.columns ≡ before.columns) × (states' ≡ states))
  pub series : after.series ≡ before.series
  pub sound : IsSoundIndex before → IsSoundIndex after

-- ---- staged points

abbrev pub with_point_staged : ColumnState → ℤ → ℤ → ColumnState
with_point_staged s time value = record s { staged = Some (time, value) }

-- inserts the staged point
abbrev pub with_staged : PointMap → Option (ℤ × ℤ) → PointMap
with_staged points None = points
with_staged points (Some p) = finmap.insert points p.0 p.1

abbrev pub committed : ColumnState → ColumnState
committed s = record { points = with_staged s.points s.staged; staged = None }

-- commits the staged point of each of these columns
abbrev pub all_committed : List ColumnState → List ℕ → List ColumnState
all_committed states [] = states
all_committed states (n ∷ ns) = all_committed (set states n (committed (get_or states n no_column))) ns

-- each of these columns exists and has a staged point; the indices are distinct
abbrev pub AreReady : List ColumnState → List ℕ → Type 0
AreReady states [] = Unit {0}
AreReady states (n ∷ ns) =
    (n < length states) × IsSome (get_or states n no_column).staged × (Among n ns → ⊥) × AreReady states ns

-- the fact is staged in its column, which has this index
abbrev pub IsFactStaged : List Column → List ColumnState → ℕ → Fact → Type 0
IsFactStaged columns states n f =
    (slice_get columns n ≡ Some f.column) × ((get_or states n no_column).staged ≡ Some (f.time, f.value))

-- the same for each index and fact
abbrev pub AreStaged : List Column → List ColumnState → List ℕ → List Fact → Type 0
AreStaged columns states = AllZip (IsFactStaged columns states)

-- ---- an index with the points of its columns, and with rollups

-- the registered series, the columns with their points, and the rollup of each rule
pub record StoreContent : Type 0 where
  pub series : List Series
  pub columns : List ColumnPoints
  pub rollups : List RollupState

abbrev pub content_of : Indexed → List ColumnState → List RollupState → StoreContent
content_of index states rollups = record { series = index.series; columns = columns_in index states; rollups = rollups }

abbrev pub coded_content : Coded StoreContent
coded_content =
    code_by (List Series × (List ColumnPoints × List RollupState))
    (coded× (coded_list coded_series) (coded× (coded_list coded_column_points) (coded_list coded_rollup)))
    (λ k. (k.series, (k.columns, k.rollups)))
    (λ p. record { series = p.0; columns = p.1.0; rollups = p.1.1 }) (λ _. refl)

-- the columns are distinct, and their series are registered
pub record AreKnown (held : StoreContent) : Type 0 where
  pub once : AllDistinct (map column_of held.columns)
  pub registered : (c : Column) → Among c (map column_of held.columns) → Among c.series held.series

-- each column of the index has its points
pub record IsSoundContent (index : Indexed) (states : List ColumnState) : Type 0 where
  pub sound : IsSoundIndex index
  pub each : length states ≡ length index.columns
