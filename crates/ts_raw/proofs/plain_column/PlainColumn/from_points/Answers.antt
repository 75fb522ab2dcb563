use Rattle.std.specs.Ordering.{int_cmp}
use Rattle.std.specs.FinMap.{entries-from_sorted}
use Rattle.ts_raw.proofs.plain_column.PlainColumn.from_points.Goals as goal

pub returns-clause-entries : goal.returns-clause-entries
returns-clause-entries g c = entries-from_sorted int_cmp c.args.points.items c.requires.rising
