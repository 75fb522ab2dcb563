use Rattle.std.proofs.Common.{rules, ◌≡◌, ℕ, List, IfNone, get_or, subst}
use Rattle.std.proofs.lemmas.Option.{get_or_from_slice_get}
use Rattle.ts_core.specs.lists.Members.{Among}
use Rattle.ts_core.proofs.lists.TableLemmas.{sought_in_vain}
use Rattle.ts_cells.specs.Grids.{RollupSeries, rollup_series_named}
use Rattle.ts_cells.specs.RollupSeriesTable.{hash_of_rollup_series}
use Rattle.ts_cells.proofs.series_table.RollupSeriesTable.lookup.Goals as goal

pub returns-clause-absent : goal.returns-clause-absent
returns-clause-absent g c =
    let l : RollupSeries = rollup_series_named c.args.field.now c.args.group.now in
    let ls : List RollupSeries = c.self.inside.rollup_series.items in
    subst (λ (all : List RollupSeries). IfNone c.find.result (Among l all → ⊥)) c.self.view_is
    (sought_in_vain (hash_of_rollup_series c.self.inside.seed) ls c.self.inside.chains c.self.invariant.table l c.hash_rollup_series-hash.result c.find.result c.hash_rollup_series-hash.ensures c.find.ensures.absent
    (λ n rejected k. let there : (x : RollupSeries) → get_or ls n x ≡ l = λ x. get_or_from_slice_get ls n l x k in search (rules, there)))
