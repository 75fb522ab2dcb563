use Rattle.std.proofs.Common.{rules, ◌≡◌, ◌<◌, ◌≤◌, ℕ, List, length, set, sym, ◌∙◌, ap, subst, true, false, int_lt}
use Rattle.ts_cells.specs.Grids.{RowOf, held, cells_of_bucket, HasLost}
use Rattle.ts_core.proofs.lists.Comparisons.{lt_from}
use Rattle.ts_cells.specs.Expiry.{HasNoneBelow}
use Rattle.ts_cells.specs.RowChanges.{IsSweptTo}
use Rattle.ts_cells.proofs.GridMoves.{RowPut, row_kept}
use Rattle.ts_cells.proofs.ExpiryLemmas.{all_above, none_left, front_grows, front_stays, loses, unchanged, put_here, was_here, no_wider}
use Rattle.ts_cells.proofs.cells.remove_one.Goals as goal

pub returns-then-not-is_below-clause-rows : goal.returns-then-not-is_below-clause-rows
returns-then-not-is_below-clause-rows g c =
    let i = c.loop-emptied.invariant in
    subst (IsSweptTo c.loop-emptied.emptied c.args.rows.now.items) (sym (unchanged c.loop-emptied.rows.items c.loop-emptied.emptied c.index_mut-row.result.now c.index_mut-row.ensures.value))
    (record { rising = i.rising; front = i.front; narrow = i.narrow })

pub returns-then-not-is_below-clause-none : goal.returns-then-not-is_below-clause-none
returns-then-not-is_below-clause-none g c =
    let rows : List (RowOf g.row.P.Denot) = c.loop-emptied.rows.items in
    let n : ℕ = c.loop-emptied.emptied in
    let d : RowOf g.row.P.Denot = c.index_mut-row.result.now in
    let some : n < length rows = search rules in
    let not_below : int_lt d.0 c.args.low.now ≡ false = search rules in
    subst (HasNoneBelow c.args.low.now c.args.rows.now.items) (sym (unchanged rows n d c.index_mut-row.ensures.value)) (record {
      above = all_above c.args.low.now n rows d c.loop-emptied.invariant.front some c.loop-emptied.invariant.rising (ap (λ (r : RowOf g.row.P.Denot). int_lt r.0 c.args.low.now) (sym c.index_mut-row.ensures.value) ∙ not_below);
      cells = c.loop-emptied.invariant.cells;
    })

pub returns-in-Some-clause-rows : goal.returns-in-Some-clause-rows
returns-in-Some-clause-rows g c =
    let i = c.loop-emptied.invariant in
    let rows : List (RowOf g.row.P.Denot) = c.loop-emptied.rows.items in
    let n : ℕ = c.loop-emptied.emptied in
    let d : RowOf g.row.P.Denot = c.index_mut-row.result.now in
    let r : RowOf g.row.P.Denot = c.remove_last.new.self in
    let some : n < length rows = search rules in
    record {
      rising = (put_here rows n d r i.rising some c.index_mut-row.ensures.value c.remove_last.ensures.index).rising;
      front = front_stays n rows r i.front;
      narrow = λ m a. no_wider rows n d r i.rising some c.index_mut-row.ensures.value c.remove_last.ensures.len m (i.narrow m a);
    }

pub returns-in-Some-clause-removed : goal.returns-in-Some-clause-removed
returns-in-Some-clause-removed g c =
    let rows : List (RowOf g.row.P.Denot) = c.loop-emptied.rows.items in
    let n : ℕ = c.loop-emptied.emptied in
    let d : RowOf g.row.P.Denot = c.index_mut-row.result.now in
    let r : RowOf g.row.P.Denot = c.remove_last.new.self in
    let some : n < length rows = search rules in
    let below : int_lt d.0 c.args.low.now ≡ true = search rules in
    let put : RowPut rows (set rows n r) d.0 r.1 = put_here rows n d r c.loop-emptied.invariant.rising some c.index_mut-row.ensures.value c.remove_last.ensures.index in
    let was : d.1 ≡ cells_of_bucket rows d.0 = was_here rows n d r c.loop-emptied.invariant.rising some c.index_mut-row.ensures.value in
    loses c.args.low.now c.in-Some.part c.args.rows.now.items rows (set rows n r) d.0 r.1 c.loop-emptied.invariant.cells (lt_from d.0 c.args.low.now below) put (subst (λ cs. HasLost c.in-Some.part cs r.1) was c.in-Some.ensures.removed)

pub loop-emptied-preserved : goal.loop-emptied-preserved
loop-emptied-preserved g c =
    let rows : List (RowOf g.row.P.Denot) = c.loop-emptied.rows.items in
    let n : ℕ = c.loop-emptied.emptied in
    let d : RowOf g.row.P.Denot = c.index_mut-row.result.now in
    let r : RowOf g.row.P.Denot = c.remove_last.new.self in
    let some : n < length rows = search rules in
    let put : RowPut rows (set rows n r) d.0 r.1 = put_here rows n d r c.loop-emptied.invariant.rising some c.index_mut-row.ensures.value c.remove_last.ensures.index in
    let was : d.1 ≡ cells_of_bucket rows d.0 = was_here rows n d r c.loop-emptied.invariant.rising some c.index_mut-row.ensures.value in
    let none = c.in_default.ensures.none in
    record {
      rising = put.rising;
      front = front_grows n rows r c.loop-emptied.invariant.front some (λ j. ap (λ cs. held cs j) none.1 ∙ none.0 j);
      narrow = λ m a. no_wider rows n d r c.loop-emptied.invariant.rising some c.index_mut-row.ensures.value c.remove_last.ensures.len m (c.loop-emptied.invariant.narrow m a);
      cells = λ i j. row_kept rows (set rows n r) d.0 r.1 put (λ k. ap (λ cs. held cs k) (none.1 ∙ was)) i j ∙ c.loop-emptied.invariant.cells i j;
    }

pub returns-clause-none : goal.returns-clause-none
returns-clause-none g c =
    let rows : List (RowOf g.row.P.Denot) = c.loop-emptied.rows.items in
    let all : length rows ≤ c.loop-emptied.emptied = search rules in
    let is : HasNoneBelow c.args.low.now c.args.rows.now.items rows = record {
      above = none_left c.args.low.now c.loop-emptied.emptied rows c.loop-emptied.invariant.front all c.loop-emptied.invariant.rising;
      cells = c.loop-emptied.invariant.cells;
    } in
    search (rules, is)
