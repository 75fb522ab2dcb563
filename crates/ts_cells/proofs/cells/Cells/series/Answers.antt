use Rattle.std.proofs.Common.{◌∙◌, ap, sym}
use Rattle.std.specs.FinMap.{FinMap, from_entries}
use Rattle.ts_core.specs.store.Cells.{cell_cmp}
use Rattle.ts_core.specs.store.TwoParts.{PartsOf}
use Rattle.ts_cells.specs.FrozenCounts.{frozen_cell_count}
use Rattle.ts_cells.specs.Grids.{Grid, rollup_series_named}
use Rattle.ts_cells.proofs.RollupSeriesLemmas.{gained_grid, gained_entries}
use Rattle.ts_cells.proofs.cells.Cells.series.Goals as goal

pub invariant_of-self-2 : goal.invariant_of-self-2
invariant_of-self-2 g c = record {
  grid = gained_grid c.self.inside.rollup_series c.register.new.self (rollup_series_named c.args.field.now c.args.group.now) c.self.inside.rows.items c.self.invariant.grid c.in_ok-number.ensures.ok;
  counted = c.self.invariant.counted ∙ ap (λ (m : FinMap cell_cmp (PartsOf g.row.P.Denot)). frozen_cell_count g.P.Partial.size m)
      (sym (ap (from_entries {R = cell_cmp}) (gained_entries c.self.inside.rollup_series c.register.new.self (rollup_series_named c.args.field.now c.args.group.now) c.self.inside.rows.items c.self.invariant.grid c.in_ok-number.ensures.ok)));
}

pub returns-clause-cells : goal.returns-clause-cells
returns-clause-cells g c =
    ap (from_entries {R = cell_cmp}) (gained_entries c.self.inside.rollup_series c.register.new.self (rollup_series_named c.args.field.now c.args.group.now) c.self.inside.rows.items c.self.invariant.grid c.in_ok-number.ensures.ok)
    ∙ ap (λ (s : Grid (PartsOf g.row.P.Denot)). s.cells) c.self.view_is
