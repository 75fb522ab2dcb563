use Rattle.std.proofs.Common.{◌≡◌, ◌++◌, map, drop}
use Rattle.ts_store.specs.read.ViewResults.{column_ref_in}
use Rattle.ts_store.proofs.read.view_columns.view_columns_of.Given as goal

abbrev pub invariant-loop-id : goal.invariant-loop-id
invariant-loop-id g l = l.columns.items ++ map (column_ref_in l.index.columns) (drop l.id-index l.ids) ≡ map (column_ref_in l.index.columns) l.ids
