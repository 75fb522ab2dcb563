use Rattle.std.proofs.Common.{rules, ◌∙◌, sym, ap, Some, SFits, w64, to_z-of_z, get_or}
use Rattle.ts_raw.proofs.PointMaps.{value_there, value_nowhere}
use Rattle.ts_raw.proofs.plain_column.value_among.Goals as goal

pub returns-in-Ok : goal.returns-in-Ok
returns-in-Ok c =
    let fits : SFits w64 (get_or c.args.points.now c.in-Ok.at c.index-points-at.result).1 = search rules in
    ap Some (to_z-of_z fits) ∙ sym (value_there c.args.points.now c.requires c.args.time c.in-Ok.at c.index-points-at.result c.in-Ok.ensures.bound c.in-Ok.ensures.index)

pub returns-in-Err : goal.returns-in-Err
returns-in-Err c = sym (value_nowhere c.args.points.now c.args.time c.in-Err.field-0 c.in-Err.ensures.index)
