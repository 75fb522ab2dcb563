use Rattle.ts_store.specs.image.ColumnsListed.{ListsColumns}
use Rattle.ts_store.proofs.image.saved_series.list_columns.Given as goal

abbrev pub invariant-loop-number : goal.invariant-loop-number
invariant-loop-number g l = ListsColumns l.index l.number l.all.items
