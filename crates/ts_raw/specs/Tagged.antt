-- Columns by a tag of their series. (Own rule.)
use Rattle.std.specs.Prelude.{◌≡◌, ℕ, ◌<◌, Bool, true, ◌&&◌, List, [], ◌∷◌, length, slice_index_or}
use Rattle.ts_core.specs.lists.Members.{Among}
use Rattle.ts_core.specs.facts.Facts.{Text, same_text, Series, Column, is_of}
use Rattle.ts_core.specs.facts.Tags.{tag_value}
use Rattle.ts_core.specs.lists.Numbered.{IsAt}
use Rattle.ts_raw.specs.Indexed.{no_series}

-- the series has the value of the tag
abbrev pub has_tag : Text → Text → Series → Bool
has_tag tag value s = same_text (tag_value s tag) value

-- the column is of the measurement and the field, and its series has the value of the tag
abbrev pub is_tagged : Text → Text → Text → Text → Column → Bool
is_tagged measurement field tag value c = is_of measurement field c && has_tag tag value c.series

-- rising numbers
abbrev pub IsRisingList : List ℕ → Type 0
IsRisingList [] = Unit {0}
IsRisingList (n ∷ ns) = ((k : ℕ) → Among k ns → n < k) × IsRisingList ns

-- the column n is of the series k and the field, and the series has the value of the tag
pub record IsTaggedAt (series : List Series)
    (columns : List (ℕ × ℕ)) (field : ℕ) (tag value : Text) (k n : ℕ) : Type 0 where
  pub there : k < length series
  pub has : has_tag tag value (slice_index_or series k no_series) ≡ true
  pub at : IsAt columns n (k, field)

-- exactly the columns of the field that are of these series and have the value of the tag
pub record AreTaggedAt (series : List Series)
    (columns : List (ℕ × ℕ)) (field : ℕ) (tag value : Text) (numbers found : List ℕ) : Type 0 where
  pub sound : (n : ℕ) → Among n found → (k : ℕ) × Among k numbers × IsTaggedAt series columns field tag value k n
  pub complete : (k n : ℕ) → Among k numbers → IsTaggedAt series columns field tag value k n → Among n found
