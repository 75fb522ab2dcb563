use Rattle.std.proofs.Common.{◌≡◌, ◌≤◌, ◌+◌, List, [], length, get_or, insert, sym, ◌∙◌, ap, subst, arith, int_cmp}
use Rattle.std.specs.List.{AllByRecursion}
use Rattle.std.specs.Cmp.{int_cmp_total}
use Rattle.std.proofs.lemmas.Cmp.{tied_itself}
use Rattle.std.proofs.lemmas.List.Edits.{get_or-insert_at, length-insert}
use Rattle.ts_cells.specs.Grids.{RowOf}
use Rattle.ts_cells.proofs.GridMoves.{RowPut, row_new, cells_missing, row_unseen, all_insert}
use Rattle.ts_cells.proofs.cells.row_for.Given.{Over}
use Rattle.ts_cells.proofs.cells.row_for.Goals as goal

items : (g : Over) (c : goal.In_ok-insert-in-Err g) → c.insert.new.self.items ≡ insert c.args.rows.now.items c.in-Err.at (c.args.index.now, [])
items g c = c.in_ok-insert-in-Err.ensures.items ∙ ap (λ rs. insert rs c.in-Err.at c.new-row.result) (c.shrink_before.ensures ∙ c.reserve_eighth.ensures.items)
    ∙ ap (insert c.args.rows.now.items c.in-Err.at) c.new-row.ensures

row : (g : Over) (c : goal.In_ok-insert-in-Err g) → RowPut c.args.rows.now.items c.insert.new.self.items c.args.index.now []
row g c =
    let rows : List (RowOf g.row.P.Denot) = c.args.rows.now.items in
    let bound = rw c.as_slice.ensures.value at c.in-Err.ensures.bound in
    let slot = rw c.as_slice.ensures.value at c.in-Err.ensures.slot in
    subst (λ rs. RowPut rows rs c.args.index.now []) (sym (items g c)) (row_new rows c.args.index.now c.in-Err.at [] c.requires bound slot)

pub returns-in_ok-insert-in-Err-clause-rows : goal.returns-in_ok-insert-in-Err-clause-rows
returns-in_ok-insert-in-Err-clause-rows g c =
    let rows : List (RowOf g.row.P.Denot) = c.args.rows.now.items in
    let bound = rw c.as_slice.ensures.value at c.in-Err.ensures.bound in
    let slot = rw c.as_slice.ensures.value at c.in-Err.ensures.slot in
    record {
      rising = (row g c).rising;
      cells = row_unseen rows c.insert.new.self.items c.args.index.now (cells_missing rows c.args.index.now c.in-Err.at bound slot) (row g c);
      narrow = λ n a. subst (AllByRecursion (λ (r : RowOf g.row.P.Denot). length r.1 ≤ n)) (sym (items g c)) (all_insert (λ (r : RowOf g.row.P.Denot). length r.1 ≤ n) rows c.in-Err.at (c.args.index.now, []) bound a (omega arith));
    }

pub returns-in_ok-insert-in-Err-clause-slot : goal.returns-in_ok-insert-in-Err-clause-slot
returns-in_ok-insert-in-Err-clause-slot g c =
    let rows : List (RowOf g.row.P.Denot) = c.args.rows.now.items in
    let bound : c.in-Err.at ≤ length rows = rw c.as_slice.ensures.value at c.in-Err.ensures.bound in
    let long : length c.insert.new.self.items ≡ length rows + 1 = ap length (items g c) ∙ length-insert rows c.in-Err.at (c.args.index.now, []) bound in
    record {
      inside = omega arith;
      slot = λ d.
          ap (λ (rs : List (RowOf g.row.P.Denot)). int_cmp (get_or rs c.in-Err.at d).0 c.args.index.now) (items g c)
          ∙ ap (λ (r : RowOf g.row.P.Denot). int_cmp r.0 c.args.index.now) (get_or-insert_at rows c.in-Err.at (c.args.index.now, []) d bound) ∙ tied_itself int_cmp_total c.args.index.now;
    }

pub returns-in_err-reserve_eighth-in-Err-clause-known : goal.returns-in_err-reserve_eighth-in-Err-clause-known
returns-in_err-reserve_eighth-in-Err-clause-known g c = λ some.
    let bound = rw c.as_slice.ensures.value at c.in-Err.ensures.bound in
    let slot = rw c.as_slice.ensures.value at c.in-Err.ensures.slot in
    absurd (some (cells_missing c.args.rows.now.items c.args.index.now c.in-Err.at bound slot))

pub returns-in_err-insert-in-Err-clause-known : goal.returns-in_err-insert-in-Err-clause-known
returns-in_err-insert-in-Err-clause-known g c = λ some.
    let bound = rw c.as_slice.ensures.value at c.in-Err.ensures.bound in
    let slot = rw c.as_slice.ensures.value at c.in-Err.ensures.slot in
    absurd (some (cells_missing c.args.rows.now.items c.args.index.now c.in-Err.at bound slot))
