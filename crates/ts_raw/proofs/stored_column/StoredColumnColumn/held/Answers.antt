use Rattle.std.proofs.Common.{arith}
use Rattle.ts_raw.proofs.HeldLemmas.{held_bounds}
use Rattle.ts_raw.proofs.stored_column.StoredColumnColumn.held.Goals as goal

pub returns-clause-all : goal.returns-clause-all
returns-clause-all g c =
    let b = held_bounds c.args.self.now.points c.blocks-2.ensures.parts c.blocks-2.result c.blocks-2.ensures.hold in
    omega (arith, b.0, c.points.ensures)

pub returns-clause-few : goal.returns-clause-few
returns-clause-few g c =
    let b = held_bounds c.args.self.now.points c.blocks-2.ensures.parts c.blocks-2.result c.blocks-2.ensures.hold in
    omega (arith, b.1, c.points.ensures)

pub returns-clause-blocks : goal.returns-clause-blocks
returns-clause-blocks g c = (c.blocks-2.result, record { parts = c.blocks-2.ensures.parts; hold = c.blocks-2.ensures.hold; count_is = c.points.ensures })
