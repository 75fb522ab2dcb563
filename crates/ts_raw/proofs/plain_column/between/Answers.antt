use Rattle.std.proofs.Common.{rules, arith, SFits, w64, to_z-of_z}
use Rattle.ts_core.proofs.lists.Windows.{filter-within, filter-nothing_within}
use Rattle.ts_raw.proofs.plain_column.between.Goals as goal

pub returns-then-start-end : goal.returns-then-start-end
returns-then-start-end c =
    let from_fits : SFits w64 c.args.from = search rules in
    let to_fits : SFits w64 c.args.to = search rules in
    let start = rw (to_z-of_z from_fits) at c.count_before-start.ensures.start in
    let end = rw (to_z-of_z to_fits) at c.count_before-end.ensures.start in
    filter-within c.args.points.now c.args.from c.args.to c.count_before-start.result c.count_before-end.result start end (omega arith) c.count_before-end.ensures.bound

pub returns-else-start-end : goal.returns-else-start-end
returns-else-start-end c =
    let from_fits : SFits w64 c.args.from = search rules in
    let to_fits : SFits w64 c.args.to = search rules in
    let start = rw (to_z-of_z from_fits) at c.count_before-start.ensures.start in
    let end = rw (to_z-of_z to_fits) at c.count_before-end.ensures.start in
    filter-nothing_within c.args.points.now c.args.from c.args.to c.count_before-start.result c.count_before-end.result start end (omega arith)
