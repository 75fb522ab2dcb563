-- The coded blocks of a store's columns. (Own rule.)
use Rattle.std.specs.Prelude.{ℕ, List}
use Rattle.std.specs.List.{AllZip, sum_by}
use Rattle.ts_core.specs.store.StoreStates.{ColumnPoints}
use Rattle.ts_raw.specs.BlockColumns.{AreHeld, points_in_texts}

-- for each column, the texts of blocks that hold its points
abbrev pub HoldColumns : List ColumnPoints → List (List (List ℕ)) → Type 0
HoldColumns = AllZip (λ (c : ColumnPoints) (texts : List (List ℕ)). AreHeld c.points texts (points_in_texts texts))

-- the number of points of all these blocks, removed ones too
abbrev pub points_in_columns : List (List (List ℕ)) → ℕ
points_in_columns all = sum_by points_in_texts all
