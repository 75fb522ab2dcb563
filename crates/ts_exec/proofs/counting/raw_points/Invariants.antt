use Rattle.std.proofs.Common.{◌≡◌, ◌<◌, ◌≤◌, length}
use Rattle.std.specs.List.{AllByRecursion}
use Rattle.ts_core.specs.facts.Facts.{is_of}
use Rattle.ts_store.specs.read.ViewResults.{ColumnRef, column_refs_where}
use Rattle.ts_exec.specs.Shares.{column_refs_shares}
use Rattle.ts_exec.proofs.CountSteps.{counted}
use Rattle.ts_exec.proofs.counting.raw_points.Given as goal

abbrev pub invariant-loop-column : goal.invariant-loop-column
invariant-loop-column g l =
    let q = l.query.query in
    let cs = (g.V.View.seen l.view).columns in
    (goal.iterator-loop-column g).can_next l.column-iterator × (goal.iterator-loop-column g).is_finite l.column-iterator
    × (counted l.count (column_refs_shares q cs l.from l.to l.column-iterator) ≡ counted 0 (column_refs_shares q cs l.from l.to (column_refs_where (is_of q.measurement q.field) cs)))
    × AllByRecursion (λ (s : ColumnRef). s.number < length cs) l.column-iterator
    × (l.count ≤ 18446744073709551615)
