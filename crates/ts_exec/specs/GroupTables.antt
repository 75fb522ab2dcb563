-- Groups with their rows, in byte order of their values, to which points and cells are added. (Own rules.)
use Rattle.std.specs.Prelude.{◌≡◌, ℕ, ℤ, pos, ◌+ℤ◌, ◌*ℤ◌, ◌==◌, Bool, false, not, ◌&&◌, T, List, [], ◌∷◌, filter, map, length, replicate, Option, Some, None, MatchOption, if◌then◌else◌}
use Rattle.std.specs.List.{list_all}
use Rattle.std.specs.FinMap.{find, put, is_sorted}
use Rattle.ts_core.specs.facts.Facts.{Text, is_of, is_within}
use Rattle.ts_core.specs.aggregates.Aggregates.{Aggregate, empty_aggregate}
use Rattle.ts_core.specs.lists.Members.{Among}
use Rattle.ts_core.specs.facts.Tags.{tag_values}
use Rattle.ts_core.specs.queries.Queries.{Query, Condition, meets, matches, group_of}
use Rattle.ts_core.specs.aggregates.Buckets.{bucket_of}
use Rattle.ts_core.specs.queries.Answers.{Row, Group, group_cmp, buckets_in}
use Rattle.ts_core.specs.plans.Pieces.{Source, Raw, Rollup, Piece, start_of}
use Rattle.ts_core.specs.store.Marks.{index_of}
use Rattle.ts_core.specs.settings.Settings.{Rule}
use Rattle.ts_core.specs.store.StoreStates.{ColumnPoints, RuleCells, total_in}
use Rattle.ts_core.specs.store.Views.{ViewState}
use Rattle.ts_core.specs.plans.Assembly.{representative, rule_shown}
use Rattle.ts_store.specs.read.ViewResults.{ColumnRef, column_refs_where, points_at, SeenCell, cells_within}
use Rattle.ts_exec.specs.declared.aggregate_parts.AggregateParts.{AggregateParts}
use Rattle.ts_exec.specs.declared.aggregate_parts.AggregateParts.TheVariants.{Whole}
use Rattle.ts_exec.specs.ReducedConditions.{IsMetByNone}
use Rattle.ts_exec.specs.SeriesTests.{SeriesTests, AreTestsOf}
use Rattle.ts_exec.specs.RowParts.{BucketGrid, bucket_grid, row_index_at, with_part, with_point_parts}

-- groups with their rows
abbrev pub Table : Type 0
Table = List (List Text × List Aggregate)

abbrev pub IsGroupTable : Table → Type 0
IsGroupTable t = T (is_sorted group_cmp t)

-- ---- one group

abbrev pub rows_or : ℕ → Option (List Aggregate) → List Aggregate
rows_or n None = replicate n empty_aggregate
rows_or n (Some rows) = rows

-- the rows of a group, or n empty ones if it isn't in the table
abbrev pub rows_for : ℕ → List Text → Table → List Aggregate
rows_for n g t = rows_or n (find group_cmp g t)

-- merges a part into a group, inserting the group if needed
abbrev pub with_cell_part : ℕ → List Text → ℕ → Aggregate → Table → Table
with_cell_part n g i a t = put group_cmp g (with_part i a (rows_for n g t)) t

-- adds points to a group, inserting it if needed; without points, inserts no group
abbrev pub with_column_parts : AggregateParts → BucketGrid → ℕ → List Text → List (ℤ × ℤ) → Table → Table
with_column_parts parts grid n g [] t = t
with_column_parts parts grid n g (p ∷ ps) t = put group_cmp g (with_point_parts parts grid (p ∷ ps) (rows_for n g t)) t

-- ---- a piece of raw points

abbrev pub width : Query → ℕ
width q = length (buckets_in q)

-- the number of a query's buckets, its bucket grid, and the tests of its conditions, or none if no series meets them
pub record IsScanOf (q : Query) (n : ℕ) (g : BucketGrid) (t : Option SeriesTests) : Type 0 where
  pub width : n ≡ width q
  pub grid : g ≡ bucket_grid q
  pub tests : MatchOption t (IsMetByNone q.conditions) (AreTestsOf q.conditions)

abbrev pub with_column_ref : AggregateParts → Query → List ColumnPoints → ℤ → ℤ → ColumnRef → Table → Table
with_column_ref parts q cs a b s t =
    if list_all (meets s.series) q.conditions
    then with_column_parts parts (bucket_grid q) (width q)
    (tag_values q.group_tags s.series) (points_at cs s.number a b) t
    else t

abbrev pub with_column_refs : AggregateParts → Query → List ColumnPoints → ℤ → ℤ → List ColumnRef → Table → Table
with_column_refs parts q cs a b [] t = t
with_column_refs parts q cs a b (s ∷ ss) t = with_column_refs parts q cs a b ss (with_column_ref parts q cs a b s t)

-- ---- the columns of a query

-- the columns whose series meet the conditions
abbrev pub selected_column_refs : List Condition → List ColumnRef → List ColumnRef
selected_column_refs conditions = filter (λ s. list_all (meets s.series) conditions)

-- one of the conditions wants a value of a tag
pub record IsNarrowing (conditions : List Condition) (c : Condition) : Type 0 where
  pub among : Among c conditions
  pub same : c.negated ≡ false

-- ---- a piece of cells

-- a cell that has data and matches the query
abbrev pub is_cell_taken : Query → Rule → ℤ → ℤ → SeenCell → Bool
is_cell_taken q r a b c = (matches q (representative r c.cell) && is_within a b (start_of r c.cell.index))
    && not ((total_in c.parts).count == 0)

abbrev pub with_rule_cell : Query → Rule → ℤ → ℤ → SeenCell → Table → Table
with_rule_cell q r a b c t =
    if is_cell_taken q r a b c
    then with_cell_part (width q) (group_of q (representative r c.cell))
    (row_index_at (bucket_grid q) (start_of r c.cell.index)) (total_in c.parts) t
    else t

abbrev pub with_cell_parts : Query → Rule → ℤ → ℤ → List SeenCell → Table → Table
with_cell_parts q r a b [] t = t
with_cell_parts q r a b (c ∷ cs) t = with_cell_parts q r a b cs (with_rule_cell q r a b c t)

abbrev pub with_rule_cells : Query → ℤ → ℤ → Option RuleCells → Table → Table
with_rule_cells q a b None t = t
with_rule_cells q a b (Some r) t =
    with_cell_parts q r.rule a b (cells_within r (index_of r.rule a) (index_of r.rule b)) t

-- ---- pieces

abbrev pub with_source : AggregateParts → ViewState → Query → Source → ℤ → ℤ → Table → Table
with_source parts seen q Raw a b t =
    with_column_refs parts q seen.columns a b (column_refs_where (is_of q.measurement q.field) seen.columns) t
with_source parts seen q (Rollup name) a b t = with_rule_cells q a b (rule_shown name seen.rules) t

abbrev pub with_pieces : AggregateParts → ViewState → Query → List Piece → Table → Table
with_pieces parts seen q [] t = t
with_pieces parts seen q (p ∷ ps) t = with_pieces parts seen q ps (with_source parts seen q p.source p.from p.to t)

-- ---- the answer

abbrev pub rows_from : BucketGrid → ℤ → List Aggregate → List Row
rows_from g k [] = []
rows_from g k (a ∷ aggregates) =
    record { start = (k *ℤ g.interval) +ℤ g.offset; aggregate = a } ∷ rows_from g (k +ℤ pos 1) aggregates

abbrev pub group_on : BucketGrid → List Text × List Aggregate → Group
group_on g e = record { values = e.0; rows = rows_from g (bucket_of g.from g.interval g.offset) e.1 }

abbrev pub group_with : Query → List Text × List Aggregate → Group
group_with q e = group_on (bucket_grid q) e

-- the groups of a plan over a view
abbrev pub given : ViewState → Query → List Piece → List Group
given seen q ps = map (group_with q) (with_pieces Whole seen q ps [])
