-- Columns by the indices of their series and fields. (Own rule.)
use Rattle.std.specs.Prelude.{◌≡◌, ℕ, ◌<◌, Bool, ◌==◌, ◌&&◌, List, [], length, Option, slice_index_or}
use Rattle.ts_core.specs.lists.Members.{AllDistinct}
use Rattle.ts_core.specs.lists.LastBelow.{last_with}
use Rattle.ts_core.specs.lists.Numbered.{IsAt, numbers_where}

-- the columns in creation order, each as the indices of its series and its field, and the number of fields that have a
-- list
pub record ColumnNumbers : Type 0 where
  pub columns : List (ℕ × ℕ)
  pub fields : ℕ

abbrev pub same_numbers : ℕ × ℕ → ℕ × ℕ → Bool
same_numbers x y = (x.0 == y.0) && (x.1 == y.1)

-- the column is of the field
abbrev pub is_of_field : ℕ → ℕ × ℕ → Bool
is_of_field field x = x.1 == field

-- each column occurs once, is found by its indices, and is in the list of its field
pub record IsColumnTable (index : ℕ × ℕ → Option ℕ) (columns : List (ℕ × ℕ)) (members : List (List ℕ)) : Type 0 where
  pub once : AllDistinct columns
  pub found : (x : ℕ × ℕ) → index x ≡ last_with (0, 0) (λ y. same_numbers y x) columns (length columns)
  pub grouped : (field : ℕ)
      → field < length members → slice_index_or members field [] ≡ numbers_where (is_of_field field) columns
  pub made : (n : ℕ) (x : ℕ × ℕ) → IsAt columns n x → x.1 < length members
