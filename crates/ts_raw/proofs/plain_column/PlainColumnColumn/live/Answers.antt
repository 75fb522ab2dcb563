use Rattle.std.proofs.Common.{◌≡◌, length, arith, sym, ap, ◌∙◌}
use Rattle.std.specs.Ordering.{int_cmp}
use Rattle.std.specs.FinMap as map
use Rattle.ts_raw.specs.Columns.{ColumnState}
use Rattle.ts_raw.proofs.PointMaps.{len-from_sorted}
use Rattle.ts_raw.proofs.plain_column.PlainColumnColumn.live.Goals as goal

pub returns : goal.returns
returns g c =
    let points = c.self.inside.points in
    let count : c.len.result ≡ length points.items = omega (arith, c.len.ensures, points.ok.0) in
    count ∙ sym (len-from_sorted int_cmp points.items c.self.invariant.rising) ∙ ap (λ (s : ColumnState). map.len s.points) c.self.view_is
