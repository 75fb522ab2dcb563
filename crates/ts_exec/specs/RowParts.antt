-- Merging parts into rows, up to 2^62 points each. (Own rules.)
use Rattle.std.specs.Prelude.{◌≡◌, ℕ, zero, suc, ◌+◌, ◌^◌, ◌≤◌, min, ℤ, pos, neg_ℤ, ◌+ℤ◌, ◌-ℤ◌, ◌≤ℤ◌, ◌<ℤ◌, true, List, [], ◌∷◌, ◌++◌, fold, set, get_or, Some, option_map}
use Rattle.std.specs.List.{AllByRecursion}
use Rattle.ts_core.specs.facts.Facts.{is_within}
use Rattle.ts_core.specs.declared.aggregates.aggregate.Extremes.{Extremes}
use Rattle.ts_core.specs.aggregates.Aggregates.{Aggregate, empty_aggregate, aggregate_of_one, merged, merged_within}
use Rattle.ts_core.specs.aggregates.Buckets.{bucket_of}
use Rattle.ts_core.specs.queries.Queries.{Query}
use Rattle.ts_core.specs.queries.Answers.{at_least_none}
use Rattle.ts_exec.specs.declared.aggregate_parts.AggregateParts.{AggregateParts}
use Rattle.ts_exec.specs.declared.aggregate_parts.AggregateParts.TheVariants.{CountAlone, CountAndSum, Bounds, Whole}

-- a bucket grid whose bucket 0 contains the time `from`
pub record BucketGrid : Type 0 where
  pub from : ℤ
  pub interval : ℤ
  pub offset : ℤ

abbrev pub bucket_grid : Query → BucketGrid
bucket_grid q = record { from = q.from; interval = q.interval; offset = q.offset }

-- number of the bucket that contains t; 0 for times before bucket 0
abbrev pub row_index_at : BucketGrid → ℤ → ℕ
row_index_at g t = at_least_none (bucket_of t g.interval g.offset -ℤ bucket_of g.from g.interval g.offset)

-- merges a part into row i
abbrev pub with_part : ℕ → Aggregate → List Aggregate → List Aggregate
with_part i a rows = set rows i (merged_within a (get_or rows i empty_aggregate))

-- extremes of which only the least and the greatest value depend on the points
abbrev pub bounds : ℤ → ℤ → Extremes
bounds low high = record { min = low; max = high; first = (pos 0, pos 0); last = (pos 0, pos 0) }

abbrev pub bounds_of : Extremes → Extremes
bounds_of e = bounds e.min e.max

-- extremes that don't depend on the points: each value lies between the least and the greatest of 64 bits
abbrev pub wide_extremes : Extremes
wide_extremes = bounds (neg_ℤ (pos 9223372036854775808)) (pos 9223372036854775807)

-- the part of n points of which the count alone is kept
abbrev pub count_part : ℕ → Aggregate
count_part n = record { count = n; sum = pos 0; extremes = Some wide_extremes }

-- a point's part of a row; the parts that aren't kept are the same for all points
abbrev pub part_of_point : AggregateParts → ℤ → ℤ → Aggregate
part_of_point CountAlone t v = count_part 1
part_of_point CountAndSum t v = record { count = 1; sum = v; extremes = Some wide_extremes }
part_of_point Bounds t v = record { count = 1; sum = v; extremes = Some (bounds v v) }
part_of_point Whole t v = aggregate_of_one t v

-- the parts that are kept of the aggregate of some points; the others are the same for all points
abbrev pub part_of : AggregateParts → Aggregate → Aggregate
part_of CountAlone a = count_part a.count
part_of CountAndSum a = record a { extremes = Some wide_extremes }
part_of Bounds a = record a { extremes = option_map bounds_of a.extremes }
part_of Whole a = a

-- a part into which points are merged, one by one
abbrev pub part_with : AggregateParts → Aggregate → List (ℤ × ℤ) → Aggregate
part_with parts a ps = fold (λ b p. merged b (part_of_point parts p.0 p.1)) a ps

-- adds n points, of which the count alone is kept, to row i
abbrev pub with_counted : ℕ → ℕ → List Aggregate → List Aggregate
with_counted i zero rows = rows
with_counted i (suc n) rows = with_part i (count_part (suc n)) rows

abbrev pub with_point_parts : AggregateParts → BucketGrid → List (ℤ × ℤ) → List Aggregate → List Aggregate
with_point_parts parts g [] rows = rows
with_point_parts parts g (p ∷ ps) rows =
    with_point_parts parts g ps (with_part (row_index_at g p.0) (part_of_point parts p.0 p.1) rows)

-- a run of points: all times from low, inclusive, to high, exclusive, are in the row with this number. If there are
-- any, the row can count the part and `left` more points. The part itself has at most 2^62.
pub record IsRun (g : BucketGrid)
    (rows : List Aggregate) (left : ℕ) (low high : ℤ) (row_index : ℕ) (part : Aggregate) : Type 0 where
  pub within : (t : ℤ) → low ≤ℤ t → t <ℤ high → row_index ≡ min (row_index_at g t) 18446744073709551615
  pub bounded : low <ℤ high → ((get_or rows row_index empty_aggregate).count + part.count) + left ≤ 2 ^ 62
  pub few : part.count ≤ 2 ^ 62

-- the first points of a list, all from low, inclusive, to high, exclusive, are merged into a part; the others are left
pub record AreMerged (parts : AggregateParts)
    (low high : ℤ) (part next : Aggregate) (all left : List (ℤ × ℤ)) : Type 0 where
  pub first : List (ℤ × ℤ)
  pub points : all ≡ first ++ left
  pub within : AllByRecursion (λ (p : ℤ × ℤ). is_within low high p.0 ≡ true) first
  pub merged : next ≡ part_with parts part first

-- a bucket starts at `high`, and the one before it has this number
pub record IsEnd (g : BucketGrid) (high : ℤ) (row_index : ℕ) : Type 0 where
  pub start : bucket_of high g.interval g.offset ≡ bucket_of (high -ℤ pos 1) g.interval g.offset +ℤ pos 1
  pub last : row_index ≡ min (row_index_at g (high -ℤ pos 1)) 18446744073709551615

-- all times from low, inclusive, to high, exclusive, are in the bucket with this number. The next bucket starts at
-- high, unless that is the greatest number of 64 bits.
pub record IsGuess (g : BucketGrid) (low high : ℤ) (row_index : ℕ) : Type 0 where
  pub interval : pos 1 ≤ℤ g.interval
  pub guessed : (t : ℤ) → low ≤ℤ t → t <ℤ high → row_index ≡ min (row_index_at g t) 18446744073709551615
  pub edge : high <ℤ pos 9223372036854775807 → IsEnd g high row_index

-- the times from low, inclusive, to high, exclusive, are those in the bucket with this index, and t is one of them
pub record IsSpan (t interval offset low high index : ℤ) : Type 0 where
  pub is : index ≡ bucket_of t interval offset
  pub from : low ≤ℤ t
  pub before : t <ℤ high
  pub all : (u : ℤ) → low ≤ℤ u → u <ℤ high → bucket_of u interval offset ≡ index
  pub next : bucket_of high interval offset ≡ index +ℤ pos 1
