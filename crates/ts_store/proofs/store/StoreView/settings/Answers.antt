use Rattle.std.proofs.Common.{sym}
use Rattle.std.proofs.lemmas.Simd.{map-map}
use Rattle.ts_core.specs.store.StoreStates.{rule_of}
use Rattle.ts_core.specs.store.StoreData.{rule_cells, state_of}
use Rattle.ts_core.proofs.store.Shown.{stands_shows}
use Rattle.ts_store.proofs.store.RuleListLemmas.{its_settings}
use Rattle.ts_store.proofs.store.StoreView.settings.Goals as goal

pub returns-clause-value : goal.returns-clause-value
returns-clause-value g c =
    let i = c.self.inside in
    sym (its_settings i.settings i.marks i.accepted i.facts i.run c.self.invariant c.args.self.now c.self.view_is)

pub returns-clause-rules : goal.returns-clause-rules
returns-clause-rules g c = map-map rule_of rule_cells c.args.self.now.rules

pub returns-clause-shows : goal.returns-clause-shows
returns-clause-shows g c = λ opening h st. stands_shows opening h (state_of c.args.self.now) st
