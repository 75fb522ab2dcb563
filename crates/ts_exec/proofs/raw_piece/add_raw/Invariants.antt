use Rattle.std.proofs.Common.{◌≡◌, drop, length}
use Rattle.std.specs.List.{AllByRecursion}
use Rattle.ts_core.specs.facts.Facts.{is_of}
use Rattle.ts_store.specs.read.ViewResults.{column_refs_where}
use Rattle.ts_exec.specs.GroupTables.{IsScanOf, with_column_refs}
use Rattle.ts_exec.proofs.Selected.{IsSelected}
use Rattle.ts_exec.proofs.raw_piece.add_raw.Given as goal

abbrev pub invariant-loop-column : goal.invariant-loop-column
invariant-loop-column g l =
    let q = l.fn.scan in
    let cs = (g.V.View.seen l.view).columns in
    record {
      value : with_column_refs l.parts q cs l.from l.to (drop l.column-index l.column-items) l.groups ≡ with_column_refs l.parts q cs l.from l.to (column_refs_where (is_of q.measurement q.field) cs) l.fn.groups;
      selected : AllByRecursion (IsSelected (length cs) q.conditions) (drop l.column-index l.column-items);
      query : l.scan-inside.query.now.query ≡ q;
      scan : IsScanOf l.scan-inside.query.now.query l.scan-inside.width l.scan-inside.buckets l.scan-inside.tests;
    }
