use Rattle.std.proofs.Common.{rules, ◌≡◌, ◌∙◌, ap, refl, sym, min, map, List, get_or}
use Rattle.ts_core.specs.settings.Settings.{Rule}
use Rattle.ts_core.specs.store.Marks.{index_of}
use Rattle.ts_core.specs.queries.Queries.{Query}
use Rattle.ts_core.specs.plans.Pieces.{Source, Rollup}
use Rattle.ts_core.specs.store.Views.{ViewState}
use Rattle.ts_core.specs.store.StoreStates.{rule_of}
use Rattle.ts_store.specs.read.ViewResults.{view_cells_at}
use Rattle.ts_exec.specs.Shares.{Share, points_of_shares, rule_shares, source_shares}
use Rattle.ts_exec.proofs.NamedRules.{found-shown, none-shown}
use Rattle.ts_exec.proofs.CountSteps.{taken_shares, found-shares}
use Rattle.ts_exec.proofs.counting.piece_points.Goals as goal

pub returns-in-Some : goal.returns-in-Some
returns-in-Some g c =
    let seen : ViewState = g.V.View.seen c.args.view.now in
    let q : Query = c.args.query.now.query in
    let rs : List Rule = c.settings-settings.result.now.rules in
    let r : Rule = c.index-rules-number.result in
    let own : map rule_of seen.rules ≡ rs = search rules in
    let item : r ≡ get_or rs c.in-Some.number r = search rules in
    let own_name : c.args.piece.now.source ≡ Rollup c.in-Rollup.name = search rules in
    let source = own_name ∙ ap Rollup (sym c.as_str.ensures.value) in
    let s = found-shown c.as_str.result.now seen.rules rs c.in-Some.number r own c.in-Some.ensures.some item in
    let shares = found-shares q c.args.piece.now.from c.args.piece.now.to c.as_str.result.now seen.rules c.in-Some.number r s in
    let counted : c.rollup_points.result ≡ min (points_of_shares (taken_shares q r c.args.piece.now.from c.args.piece.now.to (view_cells_at seen.rules c.in-Some.number (index_of r c.args.piece.now.from) (index_of r c.args.piece.now.to)))) 18446744073709551615 = search rules in
    counted
    ∙ ap (λ (ss : List Share). min (points_of_shares ss) 18446744073709551615) (shares ∙ sym (ap (λ (z : Source). source_shares seen q z c.args.piece.now.from c.args.piece.now.to) source))

pub returns-in-None : goal.returns-in-None
returns-in-None g c =
    let seen : ViewState = g.V.View.seen c.args.view.now in
    let q : Query = c.args.query.now.query in
    let rs : List Rule = c.settings-settings.result.now.rules in
    let own : map rule_of seen.rules ≡ rs = search rules in
    let own_name : c.args.piece.now.source ≡ Rollup c.in-Rollup.name = search rules in
    let source = own_name ∙ ap Rollup (sym c.as_str.ensures.value) in
    let none = none-shown c.as_str.result.now seen.rules rs own (c.in-None.ensures.none refl) in
    sym (ap (λ (z : Source). min (points_of_shares (source_shares seen q z c.args.piece.now.from c.args.piece.now.to)) 18446744073709551615) source
    ∙ ap (λ o. min (points_of_shares (rule_shares q c.args.piece.now.from c.args.piece.now.to o)) 18446744073709551615) none)
