use Rattle.std.proofs.Common.{◌≡◌, take}
use Rattle.std.specs.Prelude.{flat_map}
use Rattle.tsdb.specs.Exports.{series_columns}
use Rattle.tsdb.proofs.export.listed.Given as goal

abbrev pub invariant-loop-series : goal.invariant-loop-series
invariant-loop-series l = l.columns.items ≡ flat_map series_columns (take l.series-index l.all)
