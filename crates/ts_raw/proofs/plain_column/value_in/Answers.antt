use Rattle.std.proofs.Common.{sym, ◌∙◌}
use Rattle.ts_raw.proofs.PointMaps.{value_after, less_is}
use Rattle.ts_raw.proofs.plain_column.value_in.Goals as goal

pub returns-then-lt : goal.returns-then-lt
returns-then-lt c = sym (value_after c.args.points.now c.requires c.args.time c.in_ok-last.last.now c.in_ok-last.ensures.item.1 (less_is _ (sym c.lt.ensures ∙ c.if-lt.true)))
