use Rattle.std.specs.List.{list_all}
use Rattle.std.proofs.Common.{rules, ◌≡◌, ◌∙◌, ap, ap₂, refl, subst, sym, map, List, Bool, OnOk, IfOk, get_or, ℤ, to_z, of_z, w64}
use Rattle.ts_core.specs.settings.Settings.{Rule}
use Rattle.ts_core.specs.queries.Queries.{Query}
use Rattle.ts_core.specs.store.Views.{ViewState}
use Rattle.ts_core.specs.plans.Pieces.{Source, Rollup}
use Rattle.ts_core.specs.store.StoreStates.{rule_of}
use Rattle.ts_core.specs.store.Marks.{index_of}
use Rattle.ts_store.specs.read.ViewResults.{no_rule, cells_within, view_cells_at}
use Rattle.ts_exec.specs.GroupTables.{Table, with_rule_cells, with_source}
use Rattle.ts_exec.specs.JoinedPieces.{is_small, are_small, has_small_parts}
use Rattle.ts_exec.proofs.NamedRules.{found-shown, none-shown, found-put}
use Rattle.ts_exec.proofs.pieces.add_piece.Goals as goal

pub returns-in-Some-clause-value : goal.returns-in-Some-clause-value
returns-in-Some-clause-value g c =
    let seen : ViewState = g.V.View.seen c.args.view.now in
    let q : Query = c.args.scan.now in
    let rs : List Rule = c.settings-settings.result.now.rules in
    let r : Rule = c.index-rules-number.result in
    let own : map rule_of seen.rules ≡ rs = search rules in
    let item : r ≡ get_or rs c.in-Some.number r = search rules in
    let own_name : c.args.piece.now.source ≡ Rollup c.in-Rollup.name = search rules in
    let source = own_name ∙ ap Rollup (sym c.as_str.ensures.value) in
    let s = found-shown c.as_str.result.now seen.rules rs c.in-Some.number r own c.in-Some.ensures.some item in
    let put = found-put q c.args.piece.now.from c.args.piece.now.to c.args.groups.now c.as_str.result.now seen.rules c.in-Some.number r s in
    let all = put ∙ sym (ap (λ (z : Source). with_source c.args.parts seen q z c.args.piece.now.from c.args.piece.now.to c.args.groups.now) source) in
    subst (λ (t : Table). OnOk c.add_cells.result (c.add_cells.new.groups ≡ t)) all (search rules)

pub returns-in-None-clause-value : goal.returns-in-None-clause-value
returns-in-None-clause-value g c =
    let seen : ViewState = g.V.View.seen c.args.view.now in
    let q : Query = c.args.scan.now in
    let rs : List Rule = c.settings-settings.result.now.rules in
    let own : map rule_of seen.rules ≡ rs = search rules in
    let own_name : c.args.piece.now.source ≡ Rollup c.in-Rollup.name = search rules in
    let source = own_name ∙ ap Rollup (sym c.as_str.ensures.value) in
    let none = none-shown c.as_str.result.now seen.rules rs own (c.in-None.ensures.none refl) in
    sym (ap (λ (z : Source). with_source c.args.parts seen q z c.args.piece.now.from c.args.piece.now.to c.args.groups.now) source
    ∙ ap (λ o. with_rule_cells q c.args.piece.now.from c.args.piece.now.to o c.args.groups.now) none)

pub returns-in-Some-clause-small : goal.returns-in-Some-clause-small
returns-in-Some-clause-small g c =
    let seen : ViewState = g.V.View.seen c.args.view.now in
    let a = c.args.piece.now.from in
    let b = c.args.piece.now.to in
    let rs : List Rule = c.settings-settings.result.now.rules in
    let r : Rule = c.index-rules-number.result in
    let own : map rule_of seen.rules ≡ rs = search rules in
    let item : r ≡ get_or rs c.in-Some.number r = search rules in
    let own_name : c.args.piece.now.source ≡ Rollup c.in-Rollup.name = search rules in
    let source = own_name ∙ ap Rollup (sym c.as_str.ensures.value) in
    let s = found-shown c.as_str.result.now seen.rules rs c.in-Some.number r own c.in-Some.ensures.some item in
    let all =
    sym (ap (λ (z : Source). has_small_parts seen z a b) source
    ∙ ap (are_small a b) s.found
    ∙ ap (λ (x : Rule). list_all is_small (cells_within (get_or seen.rules c.in-Some.number no_rule) (index_of x a) (index_of x b))) s.is) in
    let from : to_z w64 (of_z w64 c.piece.inside.from) ≡ a = search rules in
    let to : to_z w64 (of_z w64 c.piece.inside.to) ≡ b = search rules in
    let here = ap₂ (λ (x y : ℤ). list_all is_small (view_cells_at seen.rules c.in-Some.number (index_of r x) (index_of r y))) from to in
    subst (λ (x : Bool). IfOk c.add_cells.result (λ y. y ≡ x)) (here ∙ all) c.add_cells.ensures.small

pub returns-in-None-clause-small : goal.returns-in-None-clause-small
returns-in-None-clause-small g c =
    let seen : ViewState = g.V.View.seen c.args.view.now in
    let rs : List Rule = c.settings-settings.result.now.rules in
    let own : map rule_of seen.rules ≡ rs = search rules in
    let own_name : c.args.piece.now.source ≡ Rollup c.in-Rollup.name = search rules in
    let source = own_name ∙ ap Rollup (sym c.as_str.ensures.value) in
    let none = none-shown c.as_str.result.now seen.rules rs own (c.in-None.ensures.none refl) in
    sym (ap (λ (z : Source). has_small_parts seen z c.args.piece.now.from c.args.piece.now.to) source
    ∙ ap (are_small c.args.piece.now.from c.args.piece.now.to) none)
