use Rattle.std.proofs.Common.{◌≡◌, ◌<◌, ◌∙◌, List, ap, sym, subst, length, arith}
use Rattle.std.specs.Prelude.{slice_index_or}
use Rattle.std.proofs.lemmas.Option.{get_or_from_slice_get}
use Rattle.ts_core.specs.store.StoreData.{StoreData, rule_cells, state_of}
use Rattle.ts_core.specs.store.StoreStates.{RuleCells}
use Rattle.std.proofs.lemmas.List.{length-map}
use Rattle.ts_store.proofs.store.RuleListLemmas.{its_inside}
use Rattle.ts_store.specs.read.CellsRead.{AreCellsOf}
use Rattle.ts_store.specs.read.ViewResults.{SeenCell, no_rule, cells_within}
use Rattle.ts_store.proofs.read.ShownCells.{cells_stand, store_ruled, store_shows}
use Rattle.ts_store.proofs.store.StoreView.cell_walk.Goals as goal

pub bounds-rules-rule : goal.bounds-rules-rule
bounds-rules-rule g c =
    let i = c.self.inside in
    let inside : c.args.rule < length c.args.self.now.rules = subst (λ n. c.args.rule < n) (length-map c.args.self.now.rules rule_cells) c.requires in
    subst (λ n. c.args.rule < n) (sym (ap length c.rules.ensures.value)) (its_inside i.settings i.marks i.accepted i.facts i.run c.self.invariant c.args.self.now c.self.view_is c.args.rule inside)

pub cell_walk-requires : goal.cell_walk-requires
cell_walk-requires g c =
    let i = c.self.inside in
    store_ruled i.settings i.marks i.accepted i.facts i.run c.args.rule _ c.self.invariant c.args.self.now c.self.view_is (subst (λ n. c.args.rule < n) (length-map c.args.self.now.rules rule_cells) c.requires) _ c.rules.ensures.value c.index-rules-rule.is

pub returns-clause-cells : goal.returns-clause-cells
returns-clause-cells g c =
    let i = c.self.inside in
    c.cell_walk.ensures
    ∙ store_shows i.settings i.marks i.accepted i.facts i.run c.args.rule _ c.self.invariant c.args.self.now c.self.view_is (subst (λ n. c.args.rule < n) (length-map c.args.self.now.rules rule_cells) c.requires) _ c.rules.ensures.value c.index-rules-rule.is c.args.from.now c.args.to.now

pub returns-clause-parts : goal.returns-clause-parts
returns-clause-parts g c = λ r at opening h st.
    let k : StoreData = c.args.self.now in
    let given = returns-clause-cells g c in
    let here : cells_within (slice_index_or (state_of k).rules c.args.rule no_rule) c.args.from.now c.args.to.now ≡ cells_within r c.args.from.now c.args.to.now =
    ap (λ (x : RuleCells). cells_within x c.args.from.now c.args.to.now) (get_or_from_slice_get (state_of k).rules c.args.rule r no_rule at) in
    subst (λ (xs : List SeenCell). AreCellsOf k.waiting r c.args.from.now c.args.to.now xs opening h) (sym (given ∙ here)) (cells_stand opening h k c.args.rule r c.args.from.now c.args.to.now at st)

pub offset_bounds-rules-rule : goal.offset_bounds-rules-rule
offset_bounds-rules-rule g c = let inside = bounds-rules-rule g c in omega (arith, inside)
