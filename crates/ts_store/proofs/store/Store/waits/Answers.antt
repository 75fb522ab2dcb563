use Rattle.std.proofs.Common.{◌↔◌, ℕ, IsTrue, subst}
use Rattle.ts_core.specs.lists.Members.{Among}
use Rattle.ts_core.specs.lists.Numbered.{IsAt}
use Rattle.ts_core.specs.store.StoreData.{StoreData}
use Rattle.ts_store.specs.retain.OpenRuns.{IsToMove}
use Rattle.ts_store.proofs.image.WaitingAt.{waits_at}
use Rattle.ts_store.proofs.store.Store.waits.Goals as goal

pub returns : goal.returns
returns g c = λ x at.
    let told : IsTrue c.waits.result ↔ IsToMove c.self.inside.run c.args.column = subst (λ (n : ℕ). IsTrue c.waits.result ↔ IsToMove c.self.inside.run n) c.number.ensures c.waits.ensures in
    subst (λ (k : StoreData). IsAt k.columns c.args.column x → IsTrue c.waits.result ↔ Among x.column k.waiting) c.self.view_is
    (λ here. let w = waits_at c.self.inside.run c.self.inside.facts.columns c.args.column x c.self.invariant.sized.columns here in (λ t. w.0 (told.0 t), λ a. told.1 (w.1 a))) at
