use Rattle.std.proofs.Common.{rules, ◌≡◌, ◌∙◌, min, arith}
use Rattle.ts_core.specs.queries.Queries.{Query, IsQuery}
use Rattle.ts_core.specs.plans.Pieces.{IsValid}
use Rattle.ts_core.specs.store.Views.{ViewState}
use Rattle.ts_check.specs.Checks.{Plan}
use Rattle.ts_exec.specs.Executions.{IsCurrent}
use Rattle.ts_exec.specs.Shares.{points_of_shares, pieces_shares}
use Rattle.ts_exec.proofs.Fresh.{fresh-valid}
use Rattle.ts_exec.proofs.PointCounts.{points-matching, points-few}
use Rattle.ts_exec.proofs.counting.count_points.Goals as goal

pub returns : goal.returns
returns g c =
    let seen : ViewState = g.V.View.seen c.args.view.now in
    let p : Plan = c.args.checked.now in
    let q : Query = p.select.query in
    let fresh : IsCurrent seen p = search rules in
    let valid : IsValid seen.settings seen.marks q p.pieces = fresh-valid seen p fresh c.pieces.ensures.valid in
    let is : IsQuery q = search rules in
    let exact : c.pieces_points.result ≡ min (points_of_shares (pieces_shares seen q p.pieces)) 18446744073709551615 = search rules in (
      fresh,
      record {
        exact = exact;
        answer = λ opening h shows.
            let few = points-few opening h seen q p.pieces shows is valid in
            let all : min (points_of_shares (pieces_shares seen q p.pieces)) 18446744073709551615 ≡ points_of_shares (pieces_shares seen q p.pieces) = omega (arith, few) in
            exact ∙ all ∙ points-matching opening h seen q p.pieces shows is valid;
      },
    )
