use Rattle.std.proofs.Common.{refl, subst}
use Rattle.std.specs.FinMap as map
use Rattle.ts_raw.specs.Columns.{ColumnState}
use Rattle.ts_raw.specs.BlockColumns.{HoldPoints}
use Rattle.ts_raw.proofs.stored_column.StoredColumn.blocks.Goals as goal

pub returns : goal.returns
returns g c = record {
  parts = c.self.inside.column.blocks;
  hold = subst (λ (s : ColumnState). HoldPoints (map.entries s.points) c.self.inside.column.blocks c.blocks-2.result) c.self.view_is c.blocks-2.ensures;
  count_is = refl;
}
