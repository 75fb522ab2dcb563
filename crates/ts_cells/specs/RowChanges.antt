-- Effects of calls on the rows of buckets. (Own rules.)
use Rattle.std.specs.Prelude.{◌≡◌, ℕ, ℤ, ◌<◌, ◌≤◌, List, length}
use Rattle.std.specs.declared.cmp.Ordering.TheVariants.{Equal}
use Rattle.std.specs.Ordering.{int_cmp}
use Rattle.std.specs.List.{HoldsAt, AllByRecursion}
use Rattle.ts_cells.specs.Grids.{RowOf, RowsRise, cells_of_bucket}
use Rattle.ts_cells.specs.Expiry.{HasEmptyFront}

-- no row grew
abbrev pub NoWider : {P : Type 0} → List (RowOf P) → List (RowOf P) → Type 0
NoWider {P} before after = (n : ℕ)
    → AllByRecursion (λ (r : RowOf P). length r.1 ≤ n) before → AllByRecursion (λ (r : RowOf P). length r.1 ≤ n) after

-- each bucket has the same cells as before, even if its row was added or removed
pub record KeepsBuckets {P : Type 0} (before after : List (RowOf P)) : Type 0 where
  pub rising : RowsRise after
  pub cells : (i : ℤ) → cells_of_bucket after i ≡ cells_of_bucket before i
  pub narrow : NoWider before after

-- the row with this index has the bucket
pub record IsRowAt {P : Type 0} (index : ℤ) (rows : List (RowOf P)) (at : ℕ) : Type 0 where
  pub inside : at < length rows
  pub slot : HoldsAt (λ (r : RowOf P). int_cmp r.0 index ≡ Equal) rows at

-- rows after removals, of which the first `emptied` are empty
pub record IsSweptTo {P : Type 0} (emptied : ℕ) (before after : List (RowOf P)) : Type 0 where
  pub rising : RowsRise after
  pub front : HasEmptyFront emptied after
  pub narrow : NoWider before after
