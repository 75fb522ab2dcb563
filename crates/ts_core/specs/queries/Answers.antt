-- The answer to a query over facts: groups with their buckets, and each bucket with the aggregate of its facts.
-- (InfluxData 1.8, InfluxQL: GROUP BY tags and time intervals; only points in the time range count.)
use Rattle.std.specs.Prelude.{ℕ, zero, suc, ℤ, pos, negsuc, ◌+ℤ◌, ◌-ℤ◌, Bool, ◌&&◌, int_lt, List, [], ◌∷◌, map, filter, if◌then◌else◌}
use Rattle.std.specs.declared.cmp.Ordering.{Ordering}
use Rattle.std.specs.declared.cmp.Ordering.TheVariants.{Less, Equal, Greater}
use Rattle.std.specs.Ordering.{int_eq, eq_by_cmp}
use Rattle.std.specs.Cmp.Lexicographic.{slice_cmp}
use Rattle.ts_core.specs.facts.Facts.{Text, text_cmp, Fact}
use Rattle.ts_core.specs.aggregates.Buckets.{bucket_of, bucket_start}
use Rattle.ts_core.specs.aggregates.Aggregates.{Aggregate, aggregate_of}
use Rattle.ts_core.specs.queries.Queries.{Query, matches, group_of}

-- a bucket: its start, and the aggregate of its facts
pub record Row : Type 0 where
  pub start : ℤ
  pub aggregate : Aggregate

-- a group: its values of the group tags, and its rows
pub record Group : Type 0 where
  pub values : List Text
  pub rows : List Row

-- ---- buckets

-- z, or 0 if z is negative
abbrev pub at_least_none : ℤ → ℕ
at_least_none (pos n) = n
at_least_none (negsuc n) = 0

-- the n integers k, k + 1, ..
abbrev pub numbers_from : ℤ → ℕ → List ℤ
numbers_from k zero = []
numbers_from k (suc n) = k ∷ numbers_from (k +ℤ pos 1) n

abbrev pub bucket_in : Query → ℤ → ℤ
bucket_in q t = bucket_of t q.interval q.offset

-- the buckets that intersect the range, in order: from that of its first time to that of its last
abbrev pub buckets_in : Query → List ℤ
buckets_in q =
    if int_lt q.from q.to
    then numbers_from
    (bucket_in q q.from) (at_least_none ((bucket_in q (q.to -ℤ pos 1) -ℤ bucket_in q q.from) +ℤ pos 1))
    else []

-- ---- groups

-- groups are in byte order of their values
abbrev pub group_cmp : List Text → List Text → Ordering
group_cmp = slice_cmp text_cmp

abbrev pub same_group : List Text → List Text → Bool
same_group = eq_by_cmp group_cmp

abbrev pub placed : Ordering → List Text → List Text → List (List Text) → List (List Text) → List (List Text)
placed Less g x xs more = g ∷ x ∷ xs
placed Equal g x xs more = x ∷ xs
placed Greater g x xs more = x ∷ more

-- inserts a group into a sorted list, unless it is there
abbrev pub with_group : List Text → List (List Text) → List (List Text)
with_group g [] = g ∷ []
with_group g (x ∷ xs) = placed (group_cmp g x) g x xs (with_group g xs)

abbrev pub all_groups : List (List Text) → List (List Text)
all_groups [] = []
all_groups (g ∷ gs) = with_group g (all_groups gs)

-- the groups that have a matching fact, each once
abbrev pub groups_of : Query → List Fact → List (List Text)
groups_of q facts = all_groups (map (group_of q) (filter (matches q) facts))

-- ---- the answer

-- a matching fact of a group and a bucket
abbrev pub is_in_row : Query → List Text → ℤ → Fact → Bool
is_in_row q g k f = matches q f && (same_group (group_of q f) g && int_eq (bucket_in q f.time) k)

abbrev pub row_of : Query → List Fact → List Text → ℤ → Row
row_of q facts g k =
    record { start = bucket_start k q.interval q.offset; aggregate = aggregate_of (filter (is_in_row q g k) facts) }

abbrev pub rows_of : Query → List Fact → List Text → List Row
rows_of q facts g = map (row_of q facts g) (buckets_in q)

abbrev pub answer_of : List Fact → Query → List Group
answer_of facts q = map (λ g. record { values = g; rows = rows_of q facts g }) (groups_of q facts)
