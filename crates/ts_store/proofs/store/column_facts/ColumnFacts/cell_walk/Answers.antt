use Rattle.std.proofs.Common.{◌∙◌, get_or}
use Rattle.ts_store.proofs.read.ShownCells.{facts_whole, facts_walked}
use Rattle.ts_store.proofs.store.column_facts.ColumnFacts.cell_walk.Goals as goal

pub invariant_of-result : goal.invariant_of-result
invariant_of-result g c =
    facts_whole c.args.self.now c.args.rule.now c.args.number c.index.result.now c.args.from.now c.args.to.now c.walk-left.result c.requires
    (c.index.ensures ∙ (λ i. get_or (c.self.view_is i).rollups c.args.number c.index.result.now)) c.walk-left.ensures.entries

pub returns : goal.returns
returns g c =
    facts_walked c.args.self.now c.args.rule.now c.args.number c.index.result.now c.args.from.now c.args.to.now c.walk-left.result c.requires
    (c.index.ensures ∙ (λ i. get_or (c.self.view_is i).rollups c.args.number c.index.result.now)) c.walk-left.ensures.entries
