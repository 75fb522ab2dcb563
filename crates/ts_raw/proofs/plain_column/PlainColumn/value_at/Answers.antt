use Rattle.std.proofs.Common.{◌∙◌, ap, sym}
use Rattle.std.specs.Ordering.{int_cmp}
use Rattle.std.specs.FinMap as map
use Rattle.std.specs.FinMap.{find, get-from_sorted}
use Rattle.ts_raw.specs.Columns.{ColumnState}
use Rattle.ts_raw.proofs.plain_column.PlainColumn.value_at.Goals as goal

pub returns : goal.returns
returns g c =
    c.value_in.ensures ∙ ap (find int_cmp c.args.time) c.as_slice.ensures.value
    ∙ sym (get-from_sorted int_cmp c.self.inside.points.items c.args.time c.self.invariant.rising)
    ∙ ap (λ (s : ColumnState). map.get s.points c.args.time) c.self.view_is
