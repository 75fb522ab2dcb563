-- The points of a rollup series' columns in a bucket, from which the live part of its cell is folded anew. (Own rules.)
use Rattle.std.specs.Prelude.{ℕ, ℤ, List, [], ◌∷◌, ◌++◌, None, filter, int_le, get_or, set}
use Rattle.ts_core.specs.settings.Settings.{Rule}
use Rattle.ts_core.specs.aggregates.Aggregates.{Aggregate, aggregate_of_points}
use Rattle.ts_raw.specs.Columns.{PointMap, ColumnState, points_from, points_in_bucket}
use Rattle.ts_store.specs.store.ColumnStates.{no_column}
use Rattle.ts_store.specs.rollup.Rollups.{RollupState, columns_of_rollup_series}

-- the points of columns, by their indices, in a bucket of a rule
abbrev pub points_in : Rule → List ColumnState → ℤ → List ℕ → List (ℤ × ℤ)
points_in r columns index [] = []
points_in r columns index (n ∷ ns) =
    points_in_bucket (get_or columns n no_column).points index r.interval r.offset ++ points_in r columns index ns

-- the aggregate of the points of a rollup series' columns in a bucket
abbrev pub rollup_series_total : Rule → RollupState → List ColumnState → ℕ → ℤ → Aggregate
rollup_series_total r s columns series index =
    aggregate_of_points (points_in r columns index (columns_of_rollup_series series s))

-- the points from a mark on
abbrev pub points_since : ℤ → List (ℤ × ℤ) → List (ℤ × ℤ)
points_since mark ps = filter (λ (p : ℤ × ℤ). int_le mark p.0) ps

-- the points of a bucket of a rule from a mark on
abbrev pub bucket_since : ℤ → Rule → ℤ → PointMap → List (ℤ × ℤ)
bucket_since mark r index points = points_since mark (points_in_bucket points index r.interval r.offset)

-- a column that has only these left
abbrev pub left_state : ℤ → ColumnState → ColumnState
left_state mark s = record { points = points_from s.points mark; staged = None }

-- the same for the column with an index
abbrev pub left_states : ℤ → ℕ → List ColumnState → List ColumnState
left_states mark n states = set states n (left_state mark (get_or states n no_column))
