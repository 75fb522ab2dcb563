use Rattle.std.proofs.Common.{◌∙◌, ap, sym}
use Rattle.std.specs.Ordering.{int_cmp}
use Rattle.std.specs.FinMap as map
use Rattle.std.specs.FinMap.{entries-from_sorted}
use Rattle.ts_raw.specs.Columns.{ColumnState}
use Rattle.ts_raw.proofs.plain_column.PlainColumn.as_slice.Goals as goal

pub returns-clause-points : goal.returns-clause-points
returns-clause-points g c =
    c.as_slice.ensures.value ∙ sym (entries-from_sorted int_cmp c.self.inside.points.items c.self.invariant.rising) ∙ ap (λ (s : ColumnState). map.entries s.points) c.self.view_is
