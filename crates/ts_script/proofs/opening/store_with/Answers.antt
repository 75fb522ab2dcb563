use Rattle.std.proofs.Common.{ap}
use Rattle.ts_core.specs.store.StoreData.{StoreData}
use Rattle.ts_script.proofs.opening.store_with.Goals as goal

pub returns-in-Ok-clause-opening : goal.returns-in-Ok-clause-opening
returns-in-Ok-clause-opening c =
    (c.in_ok-settings.settings, c.in_ok-settings.ensures.ok, record { stands = c.in-Ok.ensures.stands; series = ap (λ (k : StoreData). k.series) c.in-Ok.ensures.value }, c.in-Ok.ensures.inventory)
