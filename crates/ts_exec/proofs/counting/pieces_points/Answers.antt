use Rattle.std.proofs.Common.{rules, arith, ◌≡◌, ◌+◌, min, List, ◌∙◌, sym, ap}
use Rattle.std.proofs.lemmas.List.{drop_all}
use Rattle.ts_core.specs.plans.Pieces.{Piece}
use Rattle.ts_core.specs.queries.Queries.{Query}
use Rattle.ts_core.specs.store.Views.{ViewState}
use Rattle.ts_exec.specs.Shares.{points_of_shares, source_shares, pieces_shares}
use Rattle.ts_exec.proofs.CountSteps.{counted, counted-piece, counted-all, counted-none}
use Rattle.ts_exec.proofs.counting.pieces_points.Goals as goal

pub loop-piece-preserved : goal.loop-piece-preserved
loop-piece-preserved g c =
    let seen : ViewState = g.V.View.seen c.args.view.now in
    let q : Query = c.args.query.now.query in
    let p : Piece = c.piece-item.result in
    let sum : c.saturating_add-count.result ≡ min (c.loop-piece.count + min (points_of_shares (source_shares seen q p.source p.from p.to)) 18446744073709551615) 18446744073709551615 = search rules in (
      counted-piece seen q c.args.pieces.now c.loop-piece.piece-index p c.loop-piece.count c.saturating_add-count.result c.loop-piece-test.true c.piece-item.is sum
          ∙ c.loop-piece.invariant.0,
      omega (arith, sum),
    )

pub returns : goal.returns
returns g c =
    let seen : ViewState = g.V.View.seen c.args.view.now in
    let q : Query = c.args.query.now.query in
    counted-all c.loop-piece.count c.loop-piece.invariant.1
    ∙ ap (λ (ps : List Piece). counted c.loop-piece.count (pieces_shares seen q ps)) (sym (drop_all c.loop-piece.piece-index c.args.pieces.now c.loop-piece-test.false))
    ∙ c.loop-piece.invariant.0
    ∙ counted-none (pieces_shares seen q c.args.pieces.now)
