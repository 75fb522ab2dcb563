use Rattle.std.proofs.Common.{◌≡◌, ◌++◌, map, take}
use Rattle.tsdb.specs.Exports.{export_column}
use Rattle.tsdb.proofs.export.list_series.Given as goal

abbrev pub invariant-loop-column : goal.invariant-loop-column
invariant-loop-column l = l.columns.items ≡ l.initial.columns.items ++ map (export_column l.series.series) (take l.column-index l.series.columns)
