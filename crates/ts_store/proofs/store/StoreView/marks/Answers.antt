use Rattle.std.proofs.Common.{sym, ◌∙◌}
use Rattle.std.proofs.lemmas.List.{length-map}
use Rattle.ts_core.specs.store.StoreData.{RuleData}
use Rattle.ts_store.proofs.store.RuleListLemmas.{its_marks}
use Rattle.ts_store.proofs.store.StoreView.marks.Goals as goal

pub returns-clause-value : goal.returns-clause-value
returns-clause-value g c =
    let i = c.self.inside in
    sym (its_marks i.settings i.marks i.accepted i.facts i.run c.self.invariant c.args.self.now c.self.view_is)

pub returns-clause-lows : goal.returns-clause-lows
returns-clause-lows g c = length-map c.args.self.now.rules (λ (a : RuleData). a.low) ∙ sym (length-map c.args.self.now.rules (λ (a : RuleData). a.rule))
