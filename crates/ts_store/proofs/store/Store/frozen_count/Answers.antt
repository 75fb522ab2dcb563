use Rattle.std.proofs.Common.{◌∙◌, pos, ℤ, List, ap, length, get_or, arith}
use Rattle.ts_store.specs.image.SavedContent.{FrozenCell, frozen_from}
use Rattle.ts_store.specs.read.LiveCells.{rollup_at}
use Rattle.ts_store.proofs.read.ShownCells.{store_near, its_cells}
use Rattle.ts_store.proofs.store.RuleListLemmas.{its_inside}
use Rattle.ts_store.proofs.store.Store.frozen_count.Goals as goal

pub frozen_count-requires : goal.frozen_count-requires
frozen_count-requires g c =
    let i = c.self.inside in
    store_near i.settings i.marks i.accepted i.facts i.run c.args.rule _ c.self.invariant c.args.self.now c.self.view_is c.requires _ c.rules.ensures.value c.index-rules-rule.is c.rules.ensures.valid.seconds c.rules.ensures.possible

pub returns : goal.returns
returns g c = λ x at.
    let i = c.self.inside in
    c.frozen_count.ensures ∙ ap (λ (ls : List ℤ). length (frozen_from (get_or ls c.args.rule (pos 0)) (rollup_at i.facts.rollups c.args.rule).grid.cells)) c.lows.ensures
    ∙ ap (λ (cs : List FrozenCell). length cs) (its_cells i.settings i.marks i.accepted i.facts i.run c.args.rule _ c.self.invariant c.args.self.now c.self.view_is c.requires _ c.rules.ensures.value c.index-rules-rule.is x at)

pub bounds-rules-rule : goal.bounds-rules-rule
bounds-rules-rule g c = let i = c.self.inside in omega (arith, its_inside i.settings i.marks i.accepted i.facts i.run c.self.invariant c.args.self.now c.self.view_is c.args.rule c.requires, ap length c.rules.ensures.value)

pub bounds-lows-rule : goal.bounds-lows-rule
bounds-lows-rule g c = let i = c.self.inside in omega (arith, its_inside i.settings i.marks i.accepted i.facts i.run c.self.invariant c.args.self.now c.self.view_is c.args.rule c.requires, ap length c.lows.ensures, c.self.invariant.lows)

pub offset_bounds-rules-rule : goal.offset_bounds-rules-rule
offset_bounds-rules-rule g c = let inside = bounds-rules-rule g c in omega (arith, inside)
