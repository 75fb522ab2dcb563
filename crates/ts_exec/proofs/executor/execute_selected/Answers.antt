use Rattle.std.proofs.Common.{rules, ◌≡◌, ◌∙◌, List, ap, map, subst}
use Rattle.ts_core.specs.queries.Queries.{Query, IsQuery}
use Rattle.ts_core.specs.queries.Fills.{filled}
use Rattle.ts_core.specs.plans.Pieces.{Piece, IsValid}
use Rattle.ts_core.specs.store.Views.{ViewState}
use Rattle.ts_check.specs.Checks.{Plan}
use Rattle.ts_ql.specs.Selects.{Select}
use Rattle.ts_exec.specs.Executions.{IsCurrent}
use Rattle.ts_exec.specs.Fillings.{functions_of}
use Rattle.ts_exec.specs.GroupTables.{Table, group_with, given}
use Rattle.ts_exec.specs.Selections.{HaveSameValues}
use Rattle.ts_exec.proofs.Given.{given-answer}
use Rattle.ts_exec.proofs.Fresh.{fresh-valid}
use Rattle.ts_exec.proofs.executor.execute_selected.Goals as goal

pub groups_selected-requires : goal.groups_selected-requires
groups_selected-requires g c =
    let seen : ViewState = g.V.View.seen c.args.view.now in
    let p : Plan = c.args.checked.now in
    let fresh : IsCurrent seen p = search rules in
    let valid : IsValid seen.settings seen.marks p.select.query p.pieces = fresh-valid seen p fresh c.pieces.ensures.valid in
    search rules

pub returns : goal.returns
returns g c =
    let seen : ViewState = g.V.View.seen c.args.view.now in
    let p : Plan = c.args.checked.now in
    let q : Query = p.select.query in
    let fs = functions_of p.select.columns in
    let fresh : IsCurrent seen p = search rules in
    let valid : IsValid seen.settings seen.marks q p.pieces = fresh-valid seen p fresh c.pieces.ensures.valid in
    let is : IsQuery q = search rules in
    let select : c.new.result.select ≡ p.select = search rules in
    let items : Table = c.in_ok-groups.groups.items in
    let groups : c.new.result.groups ≡ map (group_with q) items = search rules in
    let asked : c.query.result.now ≡ p.select = search rules in
    let pieces : c.pieces.result.now ≡ p.pieces = search rules in
    let values : HaveSameValues fs (map (group_with q) items) (given seen q p.pieces) =
    subst (λ (ps : List Piece). HaveSameValues fs (map (group_with q) items) (given seen q ps)) pieces
    (subst (λ (s : Select). HaveSameValues (functions_of s.columns) (map (group_with s.query) items) (given seen s.query c.pieces.result.now)) asked c.in_ok-groups.ensures.values) in
    let same : HaveSameValues fs c.new.result.groups (given seen q p.pieces) = λ fill. ap (filled fill fs) groups ∙ values fill in
    (fresh, record { select = select; same = same; answer = λ opening h shows fill. same fill ∙ ap (filled fill fs) (given-answer opening h seen q p.pieces shows is valid) })
