use Rattle.std.proofs.Common.{arith, ◌≢◌, ◌<◌, ◌≤ℤ◌, ◌+◌, ℕ, ℤ, List, None, subst, sym}
use Rattle.ts_core.specs.store.TwoParts.{PartsOf}
use Rattle.ts_cells.specs.Grids.{RowOf, held, cells_of_bucket}
use Rattle.ts_cells.specs.Expiry.{HasNoneBelow}
use Rattle.ts_cells.proofs.Sweeps.{IsCountedSweep, no_counted_sweep, counted_more, counted_same, counted_out, swept_grid, swept_out}
use Rattle.ts_cells.proofs.cells.remove_below.Given.{Over}
use Rattle.ts_cells.proofs.cells.remove_below.Goals.{then-loop-removed-test+in_default, else-loop-removed-test}
use Rattle.ts_cells.proofs.cells.remove_below.Goals as goal

pub loop-removed-init : goal.loop-removed-init
loop-removed-init g c = no_counted_sweep g.P.Partial.size c.args.low.now c.args.rows.now.items c.requires

pub loop-removed-preserved : goal.loop-removed-preserved
loop-removed-preserved g c =
    let t = c.loop-removed-test.true in
    let rows : List (RowOf (PartsOf g.row.P.Denot)) = c.remove_one.new.rows.items in
    subst (λ n. IsCountedSweep g.P.Partial.size c.args.low.now c.args.rows.now.items (c.loop-removed.removed + 1) (c.loop-removed.frozen + n) c.remove_one.new.emptied rows) (sym c.frozen_count-frozen.ensures)
    (counted_more g.P.Partial.size c.args.low.now c.args.rows.now.items c.loop-removed.rows.items rows c.loop-removed.removed c.loop-removed.frozen c.loop-removed.emptied c.remove_one.new.emptied (omega arith)
    c.loop-removed.invariant c.remove_one.ensures.rows c.in-Some.parts c.in-Some.ensures.removed)

-- when the loop has ended
swept : (g : Over) (c : goal.After-drop_front g) → IsCountedSweep g.P.Partial.size c.args.low.now c.args.rows.now.items c.loop-removed.removed c.loop-removed.frozen c.loop-removed-test.emptied c.loop-removed-test.rows.items
swept g c = elim c.loop-removed-test.branch [
  | then-loop-removed-test+in_default w ↦
      let above : HasNoneBelow c.args.low.now c.loop-removed.rows.items w.remove_one.new.rows.items = w.in_default.ensures.none in
      rw (w.rows-is, w.emptied-is) (counted_same g.P.Partial.size c.args.low.now c.args.rows.now.items c.loop-removed.rows.items w.remove_one.new.rows.items c.loop-removed.removed c.loop-removed.frozen c.loop-removed.emptied w.remove_one.new.emptied
      c.loop-removed.invariant w.remove_one.ensures.rows above.cells)
  | else-loop-removed-test w ↦ rw (w.rows-is, w.emptied-is) c.loop-removed.invariant
]

above : (g : Over) (c : goal.After-drop_front g) → c.loop-removed.removed < 256 → (i : ℤ) (j : ℕ) → held (cells_of_bucket c.loop-removed-test.rows.items i) j ≢ None → c.args.low.now ≤ℤ i
above g c few = elim c.loop-removed-test.branch [
  | then-loop-removed-test+in_default w ↦
      let above : HasNoneBelow c.args.low.now c.loop-removed.rows.items w.remove_one.new.rows.items = w.in_default.ensures.none in
      rw w.rows-is above.above
  | else-loop-removed-test w ↦ let f = w.loop-removed-test.false in absurd (omega arith)
]

pub returns-clause-rows : goal.returns-clause-rows
returns-clause-rows g c = rw c.drop_front.ensures (swept_grid c.args.low.now c.args.rows.now.items c.loop-removed-test.rows.items c.loop-removed.removed c.loop-removed-test.emptied (swept g c).swept)

pub returns-clause-below : goal.returns-clause-below
returns-clause-below g c = λ ls grid.
    let rows : List (RowOf (PartsOf g.row.P.Denot)) = c.loop-removed-test.rows.items in
    rw c.drop_front.ensures (swept_out c.args.low.now c.args.rows.now.items rows c.loop-removed.removed c.loop-removed-test.emptied (swept g c).swept (above g c) ls grid)

pub returns-clause-frozen : goal.returns-clause-frozen
returns-clause-frozen g c = λ ls grid.
    let rows : List (RowOf (PartsOf g.row.P.Denot)) = c.loop-removed-test.rows.items in
    rw c.drop_front.ensures (counted_out g.P.Partial.size c.args.low.now c.args.rows.now.items rows c.loop-removed.removed c.loop-removed.frozen c.loop-removed-test.emptied (swept g c) ls grid)
