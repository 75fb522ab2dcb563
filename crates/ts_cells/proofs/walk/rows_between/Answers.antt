use Rattle.std.proofs.Common.{arith}
use Rattle.ts_core.proofs.lists.Windows.{filter-within, filter-nothing_within}
use Rattle.ts_cells.proofs.walk.rows_between.Goals as goal

pub returns-then-start-end : goal.returns-then-start-end
returns-then-start-end g c =
    filter-within c.args.rows.now c.args.from.now c.args.to.now c.count_before-start.result c.count_before-end.result c.count_before-start.ensures.start c.count_before-end.ensures.start (omega arith) c.count_before-end.ensures.bound

pub returns-else-start-end : goal.returns-else-start-end
returns-else-start-end g c =
    filter-nothing_within c.args.rows.now c.args.from.now c.args.to.now c.count_before-start.result c.count_before-end.result c.count_before-start.ensures.start c.count_before-end.ensures.start (omega arith)
