use Rattle.std.proofs.Common.{rules, ◌≡◌, [], ◌∙◌, subst, sym}
use Rattle.std.specs.List.{AllByRecursion}
use Rattle.ts_core.specs.store.Views.{ViewState}
use Rattle.ts_core.specs.queries.Queries.{Query}
use Rattle.ts_exec.specs.Answered.{HasRows}
use Rattle.ts_exec.specs.JoinedPieces.{joined_pieces}
use Rattle.ts_exec.specs.GroupTables.{with_pieces, width}
use Rattle.ts_exec.proofs.PartsTaken.{pieces-rows}
use Rattle.ts_exec.proofs.executor.groups_joined.Goals as goal

pub returns-clause-rows : goal.returns-clause-rows
returns-clause-rows g c =
    let q : Query = c.args.query.now.query in
    let seen : ViewState = g.V.View.seen c.args.view.now in
    let put : c.add_joined_pieces.new.groups ≡ with_pieces c.args.parts seen q (joined_pieces c.args.pieces.now) [] = search rules in
    subst (AllByRecursion (HasRows (width q))) (sym (c.in_ok-groups.ensures ∙ put)) (pieces-rows c.args.parts seen q (joined_pieces c.args.pieces.now))
