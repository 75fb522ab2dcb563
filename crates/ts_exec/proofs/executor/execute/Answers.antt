use Rattle.std.proofs.Common.{rules, ◌≡◌, ◌∙◌}
use Rattle.ts_core.specs.queries.Queries.{Query, IsQuery}
use Rattle.ts_core.specs.plans.Pieces.{IsValid}
use Rattle.ts_core.specs.store.Views.{ViewState}
use Rattle.ts_check.specs.Checks.{Plan}
use Rattle.ts_exec.specs.Executions.{IsCurrent}
use Rattle.ts_exec.specs.GroupTables.{given}
use Rattle.ts_exec.proofs.Given.{given-answer}
use Rattle.ts_exec.proofs.Fresh.{fresh-valid}
use Rattle.ts_exec.proofs.executor.execute.Goals as goal

pub groups_whole-requires : goal.groups_whole-requires
groups_whole-requires g c =
    let seen : ViewState = g.V.View.seen c.args.view.now in
    let p : Plan = c.args.checked.now in
    let fresh : IsCurrent seen p = search rules in
    let valid : IsValid seen.settings seen.marks p.select.query p.pieces = fresh-valid seen p fresh c.pieces.ensures.valid in
    search rules

pub returns : goal.returns
returns g c =
    let seen : ViewState = g.V.View.seen c.args.view.now in
    let p : Plan = c.args.checked.now in
    let q : Query = p.select.query in
    let fresh : IsCurrent seen p = search rules in
    let valid : IsValid seen.settings seen.marks q p.pieces = fresh-valid seen p fresh c.pieces.ensures.valid in
    let is : IsQuery q = search rules in
    let select : c.new.result.select ≡ p.select = search rules in
    let exact : c.new.result.groups ≡ given seen q p.pieces = search rules in
    (fresh, record { select = select; exact = exact; answer = λ opening h shows. exact ∙ given-answer opening h seen q p.pieces shows is valid })
