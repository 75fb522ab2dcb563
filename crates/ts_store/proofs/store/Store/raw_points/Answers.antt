use Rattle.std.proofs.Common.{◌≡◌, ◌∙◌, ap, length, true, false, refl}
use Rattle.std.specs.Bool.{OnFalse}
use Rattle.ts_core.specs.store.RawFacts.{raw_facts}
use Rattle.ts_core.specs.store.StoreStates.{facts_of}
use Rattle.ts_core.specs.store.StoreData.{StoreData, OfEachHistory}
use Rattle.ts_store.proofs.store.Stands.{idle_stands, raw_count}
use Rattle.ts_store.proofs.store.Store.raw_points.Goals as goal

pub returns-clause-facts : goal.returns-clause-facts
returns-clause-facts g c =
    let now = c.args.self.now in
    elim now.running as (λ b. now.running ≡ b → OnFalse b (OfEachHistory now (λ opening h. c.raw_points.result ≡ length (raw_facts opening h)))) [
      | true ↦ λ runs. tt
      | false ↦ λ idle opening h st. c.raw_points.ensures ∙ ap (λ (k : StoreData). length (facts_of k.columns)) c.self.view_is ∙ idle_stands opening h now idle st
    ] refl

pub returns-clause-raw : goal.returns-clause-raw
returns-clause-raw g c = λ opening h st. c.raw_points.ensures ∙ ap (λ (k : StoreData). length (facts_of k.columns)) c.self.view_is ∙ raw_count opening h c.args.self.now st
