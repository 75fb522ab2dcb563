use Rattle.std.proofs.Common.{rules, ◌≡◌, ◌∷◌, sym, ◌∙◌, ap, drop}
use Rattle.ts_cells.specs.Walks.{CellWithPart, walk_left}
use Rattle.ts_cells.proofs.walk.WalkIterator.next.Goals as goal

pub borrow-requires : goal.borrow-requires
borrow-requires g c = c.in_ok-rows.ensures.inside c.self.inside.rollup_series.now c.self.invariant.0

pub returns-clause-steps : goal.returns-clause-steps
returns-clause-steps g c =
    sym c.self.view_is ∙ c.in_ok-rows.ensures.found c.self.inside.rollup_series.now
    ∙ ap (λ (k : CellWithPart g.row.P.Denot). k ∷ walk_left c.self.inside.rollup_series.now c.self.inside.order.now c.in_ok-rows.rows.now (drop c.in_ok-rows.found.next c.self.inside.order.now)) (sym c.borrow.ensures)

pub returns-clause-goes : goal.returns-clause-goes
returns-clause-goes g c =
    let steps : c.args.self.now ≡ c.borrow.result ∷ walk_left c.self.inside.rollup_series.now c.self.inside.order.now c.in_ok-rows.rows.now (drop c.in_ok-rows.found.next c.self.inside.order.now) =
    sym c.self.view_is ∙ c.in_ok-rows.ensures.found c.self.inside.rollup_series.now
    ∙ ap (λ (k : CellWithPart g.row.P.Denot). k ∷ walk_left c.self.inside.rollup_series.now c.self.inside.order.now c.in_ok-rows.rows.now (drop c.in_ok-rows.found.next c.self.inside.order.now)) (sym c.borrow.ensures) in
    search rules
