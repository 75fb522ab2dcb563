-- Contributions of pieces to buckets of groups. (Own rules.)
use Rattle.std.specs.Prelude.{ℕ, ◌+◌, ◌==◌, ℤ, Bool, ◌&&◌, List, [], ◌∷◌, ◌++◌, map, filter, Option, Some, None, if◌then◌else◌}
use Rattle.std.specs.List.{list_all}
use Rattle.ts_core.specs.facts.Facts.{Text, is_of}
use Rattle.ts_core.specs.aggregates.Partials.{fold_by}
use Rattle.ts_core.specs.aggregates.Aggregates.{Aggregate, empty_aggregate, aggregate_of_one, merged}
use Rattle.ts_core.specs.store.Marks.{index_of}
use Rattle.ts_core.specs.settings.Settings.{Rule}
use Rattle.ts_core.specs.facts.Tags.{tag_values}
use Rattle.ts_core.specs.queries.Queries.{Query, meets, group_of}
use Rattle.ts_core.specs.queries.Answers.{same_group}
use Rattle.ts_core.specs.plans.Pieces.{Source, Raw, Rollup, Piece, start_of}
use Rattle.ts_core.specs.store.StoreStates.{ColumnPoints, RuleCells, total_in}
use Rattle.ts_core.specs.store.Views.{ViewState}
use Rattle.ts_core.specs.plans.Assembly.{representative, rule_shown}
use Rattle.ts_store.specs.read.ViewResults.{ColumnRef, column_refs_where, points_at, SeenCell, cells_within}
use Rattle.ts_exec.specs.RowParts.{BucketGrid, bucket_grid, row_index_at}
use Rattle.ts_exec.specs.GroupTables.{Table, with_cell_part, is_cell_taken}

pub record Share : Type 0 where
  pub group : List Text
  pub row_index : ℕ
  pub part : Aggregate

abbrev pub group_in : Share → List Text
group_in s = s.group

abbrev pub with_shares : ℕ → List Share → Table → Table
with_shares n [] t = t
with_shares n (s ∷ ss) t = with_shares n ss (with_cell_part n s.group s.row_index s.part t)

abbrev pub is_share : List Text → ℕ → Share → Bool
is_share g j s = same_group g s.group && (s.row_index == j)

-- the merged contributions to bucket j of group g
abbrev pub total_at : List Text → ℕ → List Share → Aggregate
total_at g j ss = fold_by empty_aggregate merged (λ (s : Share). s.part) (filter (is_share g j) ss)

-- the number of points in the contributions
abbrev pub points_of_shares : List Share → ℕ
points_of_shares [] = 0
points_of_shares (s ∷ ss) = s.part.count + points_of_shares ss

-- ---- contributions of points and cells

abbrev pub point_share : BucketGrid → List Text → ℤ × ℤ → Share
point_share grid g p = record { group = g; row_index = row_index_at grid p.0; part = aggregate_of_one p.0 p.1 }

abbrev pub column_ref_shares : Query → List ColumnPoints → ℤ → ℤ → ColumnRef → List Share
column_ref_shares q cs a b s = if list_all (meets s.series) q.conditions
    then map (point_share (bucket_grid q) (tag_values q.group_tags s.series)) (points_at cs s.number a b) else []

abbrev pub column_refs_shares : Query → List ColumnPoints → ℤ → ℤ → List ColumnRef → List Share
column_refs_shares q cs a b [] = []
column_refs_shares q cs a b (s ∷ ss) = column_ref_shares q cs a b s ++ column_refs_shares q cs a b ss

abbrev pub cell_share : Query → Rule → SeenCell → Share
cell_share q r c = record {
  group = group_of q (representative r c.cell);
  row_index = row_index_at (bucket_grid q) (start_of r c.cell.index);
  part = total_in c.parts;
}

abbrev pub rule_shares : Query → ℤ → ℤ → Option RuleCells → List Share
rule_shares q a b None = []
rule_shares q a b (Some r) = map
    (cell_share q r.rule) (filter (is_cell_taken q r.rule a b) (cells_within r (index_of r.rule a) (index_of r.rule b)))

abbrev pub source_shares : ViewState → Query → Source → ℤ → ℤ → List Share
source_shares seen q Raw a b =
    column_refs_shares q seen.columns a b (column_refs_where (is_of q.measurement q.field) seen.columns)
source_shares seen q (Rollup name) a b = rule_shares q a b (rule_shown name seen.rules)

abbrev pub pieces_shares : ViewState → Query → List Piece → List Share
pieces_shares seen q [] = []
pieces_shares seen q (p ∷ ps) = source_shares seen q p.source p.from p.to ++ pieces_shares seen q ps
