-- The rollup series of a rule, indexed in creation order, found by their hashes, and sorted by their texts. (Own
-- rules.)
use Rattle.std.specs.Prelude.{◌≡◌, ℕ, ◌<◌, ◌+◌, T, List, [], ◌∷◌, map, length, get_or, Option, Some, None, if◌then◌else◌, nat_lt}
use Rattle.std.specs.Hash.DefaultHasher.{finish}
use Rattle.std.specs.RandomState.{initial_hasher}
use Rattle.std.specs.declared.hash.DefaultHasher.{DefaultHasher}
use Rattle.std.specs.declared.hash.RandomState.{RandomState}
use Rattle.std.specs.declared.cmp.Ordering.{Ordering}
use Rattle.std.specs.declared.cmp.Ordering.TheVariants.{Less}
use Rattle.std.specs.Ordering.{ordering_then}
use Rattle.std.specs.Cmp.Lexicographic.{slice_cmp}
use Rattle.std.specs.List.{AllByRecursion}
use Rattle.std.specs.FinMap.{is_sorted, find}
use Rattle.ts_core.specs.facts.Facts.{Text, text_cmp}
use Rattle.ts_core.specs.lists.Tables.{IsTable}
use Rattle.ts_core.specs.text.Hashing.{with_text}
use Rattle.ts_cells.specs.Grids.{RollupSeries, no_rollup_series}

-- rollup series are ordered by field, then group
abbrev pub rollup_series_cmp : RollupSeries → RollupSeries → Ordering
rollup_series_cmp a b = ordering_then (text_cmp a.field b.field) (slice_cmp text_cmp a.group b.group)

-- compares the result of a look-up with a rollup series; a missing rollup series comes first
abbrev pub found_cmp : Option RollupSeries → RollupSeries → Ordering
found_cmp None l = Less
found_cmp (Some m) l = rollup_series_cmp m l

-- the rollup series with these indices, each with its index
abbrev pub series_numbered : List RollupSeries → List ℕ → List (RollupSeries × ℕ)
series_numbered rollup_series order = map (λ (n : ℕ). (get_or rollup_series n no_rollup_series, n)) order

-- the indices are in range
abbrev pub AreInside : List RollupSeries → List ℕ → Type 0
AreInside rollup_series order = AllByRecursion (λ (n : ℕ). n < length rollup_series) order

-- the indices of all rollup series, in the order of the rollup series
pub record IsOrdered (rollup_series : List RollupSeries) (order : List ℕ) : Type 0 where
  pub rising : T (is_sorted rollup_series_cmp (series_numbered rollup_series order))
  pub inside : AreInside rollup_series order
  pub all : (j : ℕ) → j < length rollup_series
      → find rollup_series_cmp (get_or rollup_series j no_rollup_series) (series_numbered rollup_series order) ≡ Some j

-- the position of a rollup series in the order after one more was inserted
abbrev pub shifted : ℕ → ℕ → ℕ
shifted at rank = if nat_lt rank at then rank else rank + 1

-- the position of each of `count` rollup series in the order
pub record IsRanked (count : ℕ) (order ranks : List ℕ) : Type 0 where
  pub long : length order ≡ count
  pub as_many : length ranks ≡ count
  pub inside : (p : ℕ) → p < count → get_or order p 0 < count
  pub there : (p : ℕ) → p < count → get_or ranks (get_or order p 0) 0 ≡ p
  pub low : (j : ℕ) → j < count → get_or ranks j 0 < count

-- ---- hashes of rollup series, by a seed; their values have no meaning

abbrev pub hash_of_texts : DefaultHasher → List Text → DefaultHasher
hash_of_texts h [] = h
hash_of_texts h (t ∷ ts) = hash_of_texts (with_text h t) ts

unfoldable pub hash_of_rollup_series : RandomState → RollupSeries → ℕ
hash_of_rollup_series seed l = finish (hash_of_texts (with_text (initial_hasher seed) l.field) l.group)

-- rollup series with their hashes and their order
pub record AreFound (seed : RandomState)
    (rollup_series : List RollupSeries) (hashes order ranks : List ℕ) : Type 0 where
  pub table : IsTable (hash_of_rollup_series seed) rollup_series hashes
  pub ordered : IsOrdered rollup_series order
  pub ranked : IsRanked (length rollup_series) order ranks
