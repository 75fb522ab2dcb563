use Rattle.std.proofs.Common.{◌≡◌, ◌∙◌, ap, sym, arith}
use Rattle.std.specs.FinMap as finmap
use Rattle.std.proofs.lemmas.List.{take_all}
use Rattle.std.proofs.lemmas.List.Sums.{sum_by_more_le}
use Rattle.ts_raw.specs.Columns.{ColumnState}
use Rattle.ts_store.specs.read.PointsRead.{number_of_points}
use Rattle.ts_store.proofs.store.ColumnsLemmas.{its_points}
use Rattle.ts_store.proofs.store.column_facts.ColumnFacts.raw_points.Goals as goal

pub overflow_add-count : goal.overflow_add-count
overflow_add-count g c =
    let all = its_points _ _ _ _ c.self.invariant c.self.view_is in
    let lent = ap number_of_points c.deref-column-items.ensures.value in
    let more = sum_by_more_le (λ (s : ColumnState). finmap.len s.points) c.deref-column-items.result.now c.loop-column.column-index c.column-item.result c.loop-column-test.true in
    let one = c.live.ensures ∙ ap (λ (s : ColumnState). finmap.len s.points) c.column-item.is in
    omega (arith, all, lent, more, one, c.loop-column.invariant, c.requires)

pub returns : goal.returns
returns g c =
    let all = its_points _ _ _ _ c.self.invariant c.self.view_is in
    let done : c.loop-column.count ≡ number_of_points c.deref-column-items.result.now =
    c.loop-column.invariant ∙ ap number_of_points (take_all c.loop-column.column-index c.deref-column-items.result.now (omega (arith, c.loop-column-test.false))) in
    done ∙ ap number_of_points c.deref-column-items.ensures.value ∙ sym all
