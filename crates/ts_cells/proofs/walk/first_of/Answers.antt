use Rattle.std.proofs.Common.{◌≡◌, List, ◌∷◌, ◌++◌, sym, ◌∙◌, ap, drop}
use Rattle.ts_cells.specs.Grids.{RowOf}
use Rattle.ts_cells.specs.Walks.{CellWithPart, walk_left}
use Rattle.ts_cells.proofs.walk.first_of.Goals as goal

pub loop-row-preserved : goal.loop-row-preserved
loop-row-preserved g c =
    let rows : List (RowOf g.row.P.Denot) = c.loop-row.rows.now in
    let others : List (RowOf g.row.P.Denot) = c.in-Some.others.now in
    let first : rows ≡ c.in-Some.row.now ∷ others = c.in-Some.ensures.cases.0 in
    record {
      same = λ ls.
          sym (ap (λ (ks : List (CellWithPart g.row.P.Denot)). ks ++ walk_left ls c.args.order.now others c.args.order.now) (c.in_default-first_in.ensures.none ls))
          ∙ ap (λ (rs : List (RowOf g.row.P.Denot)). walk_left ls c.args.order.now rs (drop c.loop-row.from c.args.order.now)) (sym first) ∙ c.loop-row.invariant.same ls;
    }
